-- `is_sure` meets its contract. Assumes nothing.
use mathlib.Core.Path.{sym, ap, ◌∙◌}
use mathlib.Core.Bool.{false≢true}
use Rattle.syntax.specs.Sets.{distinct}
use Rattle.step_call.proofs.is_sure.Goals as goal

pub returns-in-Source : goal.returns-in-Source
returns-in-Source c = λ _ t. absurd (false≢true t)

pub returns-in-Linear : goal.returns-in-Linear
returns-in-Linear c = λ _ t. ap distinct (sym c.entries_row.ensures) ∙ (sym c.distinct.ensures ∙ t)
