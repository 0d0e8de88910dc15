-- What an opened image is: reading accepts it, and its frame has the records of the program that it reads as (`is-opened` of any bytes,
-- `opened-image` of what code has opened).
-- Assumes nothing.
use Prim.Native.Nat.{ℕ}
use mathlib.Core.List.{List, []}
use mathlib.Core.Path.{◌≡◌, refl, ap, sym, ◌∙◌}
use native.Mathlib.Omega.{arith}
use borrow.Author.Tests.{leb-true}
use lib.Dec.{leb}
use lib.ListN.{length}
use Rattle.model.specs.Syntax.{Prog}
use Rattle.image_spec.specs.declared.Layout.{Layout}
use Rattle.image_spec.specs.declared.Refusal.{Refusal}
use Rattle.image_spec.specs.Answers.{Answer}
use Rattle.image_spec.specs.Layout.{layout1, max_records}
use Rattle.image_spec.specs.Shape.{flatten_defs}
use Rattle.image_spec.specs.Image.{if_some, image, ImageOk}
use Rattle.image_spec.specs.Reading.{record_count, definition_count, records_of, question3, question4, Reading, refuse, accept, reading, answer_of}
use Rattle.image_spec.proofs.DirectoryLaws.{and_left, and_right}
use Rattle.image_spec.proofs.OneToOne.{accepts, accepted}
use Rattle.image_directory.specs.Slots.{formed_from, records_in, Ready}
use Rattle.image_directory.specs.declared.Frame.{Frame}
use Rattle.image_open.specs.Opening.{Known, frame_of, Contents, opened_by, opened_of}
use Rattle.image_open.specs.Opens.{Opens, closed, opened, contents_of}
use Rattle.image_open.specs.declared.opened.Opened.{Opened}
use Rattle.std.specs.Prelude.{Result, Ok, Err}

pub layout1-known : Known layout1
layout1-known = record { id = (omega arith, omega arith); place = (omega arith, omega arith) }

-- the answer of reading, of what was opened
abbrev pub answer_for : Result Contents Refusal → Answer
answer_for (Ok o) = Ok (record { length = 0; max_id = o.max_id })
answer_for (Err q) = Err q

pub answer-opened : (L : Layout) (s : List ℕ) → answer_for (opened_of L s) ≡ answer_of (reading L s)
unfolding opened_of
answer-opened L s = go (reading L s)
  where
    go : (r : Reading) → answer_for (opened_by L s r) ≡ answer_of r
    go (refuse q) = refl
    go (accept p) = refl

pub record IsOpened (L : Layout) (s : List ℕ) (g : Frame) (D m : ℕ) : Type 0 where
  pub program : Prog
  pub reads : reading L s ≡ accept program
  pub ok : ImageOk L program
  pub written : s ≡ image L program
  pub max_id : m ≡ program.max_id
  pub count : D ≡ length program.defs
  pub frame : g ≡ frame_of L (record_count L s)
  pub records : records_in g s ≡ flatten_defs program.defs
  pub ready : Ready g s

frame-ready : (L : Layout) (s : List ℕ) (p : Prog) → Known L → reading L s ≡ accept p → Ready (frame_of L (record_count L s)) s
unfolding question3 question4 records_of formed_from
frame-ready L s p k e =
    let a = accepts L s p e in
    record {
      id = k.id;
      place = k.place;
      few = leb-true _ _ (and_left _ _ a.yes3);
      from = omega (arith, k.id, k.place);
      tiled = and_right (leb (record_count L s) max_records) _ a.yes3;
      formed = a.yes4;
    }

-- .. of any bytes
pub is-opened : (L : Layout) (s : List ℕ) (g : Frame) (D m : ℕ) → Known L → opened_of L s ≡ Ok (record { frame = g; definitions = D; max_id = m }) → IsOpened L s g D m
unfolding opened_of records_in records_of
is-opened L s g D m k e = go (reading L s) refl e
  where
    go : (r : Reading) → reading L s ≡ r → opened_by L s r ≡ Ok (record { frame = g; definitions = D; max_id = m }) → IsOpened L s g D m
    go (refuse q) h e = let z : ◌≡◌ {A = ℕ} 0 1 = cc (e) in absurd (omega arith)
    go (accept p) h e =
        let x = accepted L s p h in
        let o : ◌≡◌ {A = Contents} (record { frame = g; definitions = D; max_id = m }) (record { frame = frame_of L (record_count L s); definitions = definition_count L s; max_id = p.max_id }) = cc (e) in
        rw (ap (λ (x : Contents). x.frame) o) record {
          program = p;
          reads = h;
          ok = x.ok;
          written = x.written;
          max_id = ap (λ (x : Contents). x.max_id) o;
          count = ap (λ (x : Contents). x.definitions) o ∙ x.count;
          frame = refl;
          records = ap (λ o. if_some o [] (λ rs. rs)) x.records;
          ready = frame-ready L s p k h;
        }

-- what code has opened is such an image, and its bytes are those given
pub opened-image : {L : Layout} {s : List ℕ} {o : Opened} → Known L → Opens L s (Ok o) → IsOpened L o.image.bytes.now o.image.frame o.definitions o.max_id
opened-image {L} {s} {o} k (opened e b) = is-opened L o.image.bytes.now o.image.frame o.definitions o.max_id k (ap (opened_of L) b ∙ e)

pub opened-bytes : {L : Layout} {s : List ℕ} {o : Opened} → Opens L s (Ok o) → o.image.bytes.now ≡ s
opened-bytes (opened e b) = b

pub opened-refused : {L : Layout} {s : List ℕ} {q : Refusal} → Opens L s (Err q) → opened_of L s ≡ Err q
opened-refused (closed e) = e

-- the answer of code that opens, which says no more
abbrev pub told_of : Result Opened Refusal → Answer
told_of (Ok o) = Ok (record { length = 0; max_id = o.max_id })
told_of (Err q) = Err q

pub opens-answer : {L : Layout} {s : List ℕ} {r : Result Opened Refusal} → Opens L s r → told_of r ≡ answer_of (reading L s)
opens-answer {L} {s} (closed e) = ap answer_for (sym e) ∙ answer-opened L s
opens-answer {L} {s} (opened e b) = ap answer_for (sym e) ∙ answer-opened L s
