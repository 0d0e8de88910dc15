-- document 01, "The image", whole case, linearized: 45 bytes into a buffer of 45, and number 12 with one of 44. By computation. Assumes nothing.
use mathlib.Core.Path.{◌≡◌, ap}
use Rattle.syntax.specs.Filter.{retained, fill, filtered}
use Rattle.model.specs.FreeVars.{free_vars}
use Rattle.model.specs.Rules.{arrange, freshen_unless_lem}
use Rattle.model.specs.Pass.{linearize_stmt, linearize_defs, linearize}
use Rattle.model.specs.Sizes.{records, depth}
use Rattle.model.specs.Questions.{asked}
use Rattle.image_spec.specs.declared.Refusal.TheVariants.{Room}
use Rattle.image_spec.specs.Layout.{layout1}
use Rattle.image_spec.specs.Records.{record_bytes}
use Rattle.image_spec.specs.Shape.{flatten, flatten_defs}
use Rattle.image_spec.specs.Image.{image}
use Rattle.image_spec.specs.Reading.{Reading}
use Rattle.image_spec.proofs.Worked.{source-bytes, linearized-bytes, source-read}
use Rattle.scope_spec.specs.Calls.{refuses, writes, reply_after}
use Rattle.pass_answer_spec.specs.Calls.{question12, linearizing, linearize_of}

pub fits_45 : linearize_of layout1 source-bytes 45 ≡ writes linearized-bytes 1
unfolding linearize_of linearizing question12 asked records depth retained fill filtered arrange freshen_unless_lem linearize_stmt free_vars linearize_defs linearize image flatten_defs flatten record_bytes
fits_45 = ap (λ (r : Reading). reply_after r (λ P. linearizing layout1 P 45)) source-read

pub not_44 : linearize_of layout1 source-bytes 44 ≡ refuses Room
unfolding linearize_of linearizing question12 asked records depth retained fill filtered arrange freshen_unless_lem linearize_stmt free_vars linearize_defs linearize image flatten_defs flatten record_bytes
not_44 = ap (λ (r : Reading). reply_after r (λ P. linearizing layout1 P 44)) source-read
