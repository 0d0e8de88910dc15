-- `ifc` meets its contract. Assumes nothing.
use mathlib.Core.Path.{◌≡◌, sym, ap, ◌∙◌}
use mathlib.Core.Bool.{◌&&◌, and-true}
use Rattle.syntax.specs.Sets.{elem}
use Rattle.model.specs.FreeVars.{optional_id}
use Rattle.model.specs.Linear.{present}
use Rattle.image_read_parts.specs.Recorded.{record_in}
use Rattle.std.specs.Prelude as code
use Rattle.syntax.specs.declared.names.Identifier.{Identifier}
use Rattle.syntax.specs.Options.{option_of}
use Rattle.step_rows.specs.Rows.{ids_of}
use Rattle.step_order.specs.Orderly.{orderly}
use Rattle.step_order.proofs.ListLaws.{and_both, and_not}
use Rattle.step_order.proofs.OrderlyLaws.{ifc_is}
use Rattle.step_order.proofs.statements.ifc.Goals as goal
use Rattle.step_order.proofs.statements.ifc.Goals.{After-ifc-statement}

-- what is asked of the statement
is : (c : After-ifc-statement) →
    let a = c.args in
    let o = c.ifc-statement.result in
    orderly (record_in a.node.now) (ids_of c.args.row.now) ≡ (elem o.fst.id (ids_of c.args.row.now) && present (optional_id (option_of o.snd)) (ids_of c.args.row.now))
is c = let a = c.args in ifc_is (record_in a.node.now) (ids_of c.args.row.now) c.ifc-statement.ensures

pub returns-in-None : goal.returns-in-None
returns-in-None c =
    and_both c.has.ensures c.if-not-has.false (ap (λ (s : code.Option Identifier). present (optional_id (option_of s)) (ids_of c.args.row.now)) (sym c.in-None.is)) ∙ sym (is (goal.at.returns-in-None c).After-ifc-statement)

pub returns-in-Some : goal.returns-in-Some
returns-in-Some c =
    let q = sym (and-true _) ∙ ap (λ (s : code.Option Identifier). present (optional_id (option_of s)) (ids_of c.args.row.now)) (sym c.in-Some.is) in
    and_both c.has.ensures c.if-not-has.false (c.has-in-Some.ensures ∙ q) ∙ sym (is (goal.at.returns-in-Some c).After-ifc-statement)

pub returns-then-not-has : goal.returns-then-not-has
returns-then-not-has c =
    and_not c.has.ensures (present (optional_id (option_of c.ifc-statement.result.snd)) (ids_of c.args.row.now)) c.if-not-has.true ∙ sym (is (goal.at.returns-then-not-has c).After-ifc-statement)
