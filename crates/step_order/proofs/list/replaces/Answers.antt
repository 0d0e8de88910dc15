-- `replaces` meets its contract. Assumes nothing.
use mathlib.Core.Path.{ap, ◌∙◌}
use mathlib.Core.List.{List}
use lib.ListN.{length}
use Rattle.syntax.specs.declared.names.VarId.{VarId}
use Rattle.model.specs.Linear.{before_last}
use Rattle.step_rows.specs.Placing.{identified}
use Rattle.step_rows.specs.Rows.{ids_of}
use Rattle.step_order.specs.Orderly.{added}
use Rattle.step_order.proofs.ListLaws.{and_both, and_not, before-front, sure_front}
use Rattle.step_order.proofs.list.replaces.Goals as goal

pub invariant_of-others : goal.invariant_of-others
invariant_of-others c = record { knows = sure_front c.front.ensures c.args.list.now.knows }

pub returns : goal.returns
returns c =
    let a = c.args in
    and_both c.ends_in.ensures c.if-not-ends_in.false (c.adds.ensures ∙ ap (λ (l : List VarId). added l (identified a.id)) (before-front a.list.now.row a.listed.now c.front.ensures))

pub returns-then-not-ends_in : goal.returns-then-not-ends_in
returns-then-not-ends_in c =
    let a = c.args in
    and_not c.ends_in.ensures (added (before_last (length (ids_of a.listed.now)) (ids_of a.list.now.row)) (identified a.id)) c.if-not-ends_in.true
