-- What linearization writes is an image: it reads as the linearized program, and no other image does (`output_reads`). Its heart: the linearized
-- program has an image of the layout (`linearized-fits`, `linearized-ok`). Assumes nothing.
use Prim.Native.Nat.{ℕ, suc, ◌^◌, ◌≤◌, ◌<◌}
use mathlib.Core.Path.{◌≡◌, refl, sym, ap, ◌∙◌}
use mathlib.Core.List.{List, [], ◌∷◌}
use native.Mathlib.Omega.{arith}
use lib.ListN.{length}
use Rattle.model.specs.Syntax.{Def, Prog}
use Rattle.model.specs.Pass.{linearize_defs, linearize}
use Rattle.model.specs.Questions.{Accepted}
use borrow.Author.Tests.{leb-true}
use Rattle.model.proofs.Widths.{linearized-readable}
use Rattle.image_spec.specs.declared.Layout.{Layout}
use Rattle.image_spec.specs.Layout.{layout1}
use Rattle.image_spec.specs.Shape.{max_depth}
use Rattle.image_spec.specs.Image.{image, ImageOk}
use Rattle.image_spec.specs.Reading.{accept, reading, program_of}
use Rattle.image_spec.proofs.ShapeLaws.{shallow-all}
use Rattle.image_spec.proofs.FlatLengths.{flatten_defs-length}
use Rattle.image_spec.proofs.OneToOne.{only_its_image, reads-back, layout1-ok}
use Rattle.scope_spec.specs.Calls.{writes}
use Rattle.pass_answer_spec.specs.Calls.{linearize_of}
use Rattle.pass_answer_spec.proofs.Formed.{linearize_defs-formed}
use Rattle.pass_answer_spec.proofs.Replies.{written_exactly, program-read, program-accepted, answer-fits}

-- as many definitions
linearize_defs-length : (ds : List Def) (m : ℕ) → length (linearize_defs ds m).0 ≡ length ds
unfolding linearize_defs
linearize_defs-length [] m = refl
linearize_defs-length (d ∷ ds) m = ap suc (linearize_defs-length ds _)

-- the linearized program has an image of the layout, where its max_id and the image's length are such as the layout can hold
pub linearized-fits : (L : Layout) (P : Prog) → ImageOk L P → Accepted P → (linearize P).max_id < 256 ^ L.id → length (image L (linearize P)) ≤ L.largest → ImageOk L (linearize P)
unfolding linearize
linearized-fits L P o a m h =
    let q = linearized-readable P a in
    record {
      definitions_fit = omega (arith, o.definitions_fit, linearize_defs-length P.defs P.max_id);
      max_id_fits = m;
      few = omega (arith, q.0, flatten_defs-length (linearize P).defs);
      short = h;
      formed = linearize_defs-formed L.id P.defs o.formed P.max_id m q.2;
      shallow = shallow-all max_depth (linearize P).defs q.1;
    }

-- .. of layout 1, whose IDs question 11 is about
pub linearized-ok : (P : Prog) → ImageOk layout1 P → Accepted P → length (image layout1 (linearize P)) ≤ 65535 → ImageOk layout1 (linearize P)
linearized-ok P o a h = linearized-fits layout1 P o a (omega (arith, leb-true (linearize P).max_id 65535 a.eleven)) h

-- what is known of an answer with bytes
pub record Output (s : List ℕ) (size : ℕ) (bytes : List ℕ) (m : ℕ) : Type 0 where
  pub program : Prog
  pub source : reading layout1 s ≡ accept program
  pub accepted : Accepted program
  pub fits : length bytes ≤ size
  pub bytes-are : bytes ≡ image layout1 (linearize program)
  pub max-id : m ≡ (linearize program).max_id
  pub reads : reading layout1 bytes ≡ accept (linearize program)
  pub only : (other : List ℕ) → reading layout1 other ≡ accept (linearize program) → other ≡ bytes

pub output_reads : (s : List ℕ) (size : ℕ) (bytes : List ℕ) (m : ℕ) → linearize_of layout1 s size ≡ writes bytes m → Output s size bytes m
output_reads s size bytes m e =
    let w = (written_exactly layout1 s size bytes m).0 e in
    let P = program_of layout1 s in
    let r = program-read layout1 s size w.yes in
    let a = program-accepted layout1 s size w.yes in
    let f = answer-fits layout1 s size w.yes in
    let ok = linearized-ok P (only_its_image layout1 s P r).0 a f.1 in
    record {
      program = P;
      source = r;
      accepted = a;
      fits = rw w.bytes-are f.0;
      bytes-are = w.bytes-are;
      max-id = w.max-id;
      reads = rw w.bytes-are (reads-back layout1 layout1-ok (linearize P) ok);
      only = λ other k. (only_its_image layout1 other (linearize P) k).1 ∙ sym w.bytes-are;
    }
