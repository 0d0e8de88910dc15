-- `arrange_closure` meets its contract. Assumes nothing.
use mathlib.Core.Path.{ap}
use mathlib.Core.List.{[], ◌∷◌, ◌++◌}
use Rattle.syntax.specs.Context.{Context}
use Rattle.syntax.specs.Arrays.{context_of}
use Rattle.pass_work_spec.specs.Work.{bindings}
use Rattle.pass_arrange.proofs.PairLaws.{work_one}
use Rattle.image_write_directory.proofs.EmitLaws.{keeps_same}
use Rattle.pass_arrange.proofs.ArrangeLaws.{arranges_nothing, arranges_as}
use Rattle.pass_arrange.proofs.arrange.arrange_closure.Goals as goal

pub returns-then-right : goal.returns-then-right
returns-then-right c = (arranges_nothing (context_of c.args.targets ++ (c.args.closure ∷ [])) (context_of c.args.wanted ++ (c.args.closure ∷ [])) c.if-right.true, keeps_same _)

pub returns : goal.returns
returns c =
    let e = ap bindings (work_one c.empty.ensures c.own-last.ensures).list in
    (arranges_as c.args.right (ap (λ (z : Context). context_of c.args.targets ++ z) e) (ap (λ (z : Context). context_of c.args.wanted ++ z) e) c.arrange.ensures.0, c.arrange.ensures.1)
