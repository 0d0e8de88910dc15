-- `arrange_args` meets its contract. Assumes nothing.
use mathlib.Core.Path.{ap}
use Rattle.syntax.specs.Arrays.{context_of}
use Rattle.pass_work_spec.specs.Work.{bindings}
use Rattle.pass_arrange.proofs.PairLaws.{behind_none}
use Rattle.image_write_directory.proofs.EmitLaws.{keeps_same}
use Rattle.pass_arrange.proofs.ArrangeLaws.{arranges_nothing, arranges_as}
use Rattle.pass_arrange.proofs.arrange.arrange_args.Goals as goal

pub returns-then-right : goal.returns-then-right
returns-then-right c = (arranges_nothing (context_of c.args.targets) (context_of c.args.wanted) c.if-right.true, keeps_same _)

pub returns : goal.returns
returns c =
    let e = ap bindings c.empty-none.ensures.list in
    (arranges_as c.args.right (behind_none (context_of c.args.targets) e) (behind_none (context_of c.args.wanted) e) c.arrange.ensures.0, c.arrange.ensures.1)
