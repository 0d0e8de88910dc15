-- `flag` meets its contract. Assumes nothing.
use mathlib.Core.Path.{sym, ◌∙◌}
use mathlib.Core.Bool.{false≢true}
use Rattle.step_spec.proofs.KindLaws.{is-source, is-linear}
use Rattle.step_start.proofs.FlagLaws.{flags-settled, flags-stopped, flags_clear}
use Rattle.step_start.proofs.flag.Goals as goal

pub settle-requires : goal.settle-requires
settle-requires c =
    let p = c.requires in
    (p.0, (p.1, λ _ t. absurd (false≢true t)))

pub returns-then-eq : goal.returns-then-eq
returns-then-eq c = flags_clear (is-source c.args.stepper.now.machine c.eq.ensures c.if-eq.true)

pub returns-then-distinct : goal.returns-then-distinct
returns-then-distinct c =
    flags-settled (sym c.distinct.ensures ∙ c.if-distinct.true) c.settle.ensures

pub returns-else-distinct : goal.returns-else-distinct
returns-else-distinct c =
    let linear = is-linear c.args.stepper.now.machine c.eq.ensures c.if-eq.false in
    flags-stopped linear (sym c.distinct.ensures ∙ c.if-distinct.false) c.stop.ensures.0
