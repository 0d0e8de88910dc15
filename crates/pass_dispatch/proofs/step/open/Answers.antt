use mathlib.Core.Path.{◌≡◌, ap}
use native.Mathlib.Omega.{arith}
use Rattle.image_kinds.specs.Codes.{code_of}
use Rattle.image_kinds.specs.declared.kinds.Kind.TheVariants.{Switch, Create}
use Rattle.image_kinds.proofs.KindNames.{same_code}
use Rattle.pass_step.proofs.SourceLaws.{source-at}
use Rattle.pass_dispatch.proofs.DispatchLaws.{switch-opens_as}
use Rattle.pass_dispatch.proofs.step.open.Goals as goal
use Rattle.pass_dispatch.proofs.step.open.Goals.{After-open}

pub open-requires : goal.open-requires
open-requires c = (c.in-Switch.is, c.requires.1)

pub returns-in-Switch : goal.returns-in-Switch
returns-in-Switch c =
    let h = (goal.at.returns-in-Switch c).After-open.«open».ensures in
    (switch-opens_as (ap code_of c.in-Switch.is) (source-at c.args.source.now) h.0, h.1)

pub open-requires-in_default : goal.open-requires-in_default
open-requires-in_default c =
    let h = c.requires in
    let n : code_of c.args.source.now.node.kind ≡ 5 → ⊥ = λ e. c.in_default.not-Switch (same_code _ Switch e) in
    (same_code _ Create (omega (arith, n, h.0.0, h.0.1)), h.1)

pub returns-in_default : goal.returns-in_default
returns-in_default c = c.open-in_default.ensures
