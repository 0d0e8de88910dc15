-- What linearization answers, by the answers to its twelve questions: a refusal exactly at the first no (`refused_exactly`), bytes exactly where
-- all are yes (`written_exactly`); and then the same bytes into every buffer that is long enough (`enough-buffer`). Assumes nothing.
use Prim.Native.Nat.{ℕ, ◌≤◌}
use mathlib.Core.Path.{◌≡◌, refl, sym, ap, ◌∙◌}
use mathlib.Core.Logic.{inl, inr}
use mathlib.Core.Bool.{Bool, true, false}
use mathlib.Core.List.{List, [], ◌∷◌}
use native.Mathlib.Omega.{arith}
use borrow.Author.Tests.{le-leb, leb-true}
use lib.Dec.{leb}
use lib.ListN.{length}
use Rattle.syntax.proofs.Bools.{both_true}
use Rattle.model.specs.Syntax.{Prog}
use Rattle.model.specs.Pass.{linearize}
use Rattle.model.specs.Questions.{Accepted}
use Rattle.image_spec.specs.declared.Layout.{Layout}
use Rattle.image_spec.specs.declared.Refusal.{Refusal}
use Rattle.image_spec.specs.Image.{image}
use Rattle.image_spec.specs.Reading.{Reading, accept, if_yes, reading, program_of}
use Rattle.image_spec.proofs.ReadingLaws.{all_yes}
use Rattle.scope_spec.specs.Calls.{Reply, refuses, writes, reply_if_yes, reply_after}
use Rattle.pass_answer_spec.specs.Calls.{question12, linearizing, linearize_of}
use Rattle.pass_answer_spec.specs.FirstNo.{questions, FirstNo, AllYes}

-- ── questions in a list ──

-- the refusal at the first no, or the reply
abbrev answered : List (Bool × Refusal) → Reply → Reply
answered [] R = R
answered (t ∷ ts) R = reply_if_yes t.0 t.1 (answered ts R)

module _ (bytes : List ℕ) (m : ℕ) where
  refused-no : (ts : List (Bool × Refusal)) (q : Refusal) → answered ts (writes bytes m) ≡ refuses q → FirstNo ts q
  refused-no [] q e = let z : ◌≡◌ {A = ℕ} 0 1 = cc (e) in absurd (omega arith)
  refused-no (t ∷ ts) q e = go t.0 refl (λ k. refused-no ts q k) e
    where
      go : (b : Bool) → t.0 ≡ b → (answered ts (writes bytes m) ≡ refuses q → FirstNo ts q) → reply_if_yes b t.1 (answered ts (writes bytes m)) ≡ refuses q → FirstNo (t ∷ ts) q
      go true y ih k = inr (y, ih k)
      go false y ih k = inl (y, cc (k))

  no-refused : (ts : List (Bool × Refusal)) (q : Refusal) → FirstNo ts q → answered ts (writes bytes m) ≡ refuses q
  no-refused [] q n = absurd n
  no-refused (t ∷ ts) q (inl n) = ap (λ (b : Bool). reply_if_yes b t.1 (answered ts (writes bytes m))) n.0 ∙ ap refuses n.1
  no-refused (t ∷ ts) q (inr n) = ap (λ (b : Bool). reply_if_yes b t.1 (answered ts (writes bytes m))) n.0 ∙ no-refused ts q n.1

  written-yes : (ts : List (Bool × Refusal)) (R : Reply) → answered ts R ≡ writes bytes m → AllYes ts × (R ≡ writes bytes m)
  written-yes [] R e = (tt, e)
  written-yes (t ∷ ts) R e = go t.0 refl (λ k. written-yes ts R k) e
    where
      go : (b : Bool) → t.0 ≡ b → (answered ts R ≡ writes bytes m → AllYes ts × (R ≡ writes bytes m)) → reply_if_yes b t.1 (answered ts R) ≡ writes bytes m
          → AllYes (t ∷ ts) × (R ≡ writes bytes m)
      go true y ih k = let r = ih k in ((y, r.0), r.1)
      go false y ih k = let z : ◌≡◌ {A = ℕ} 0 1 = cc (k) in absurd (omega arith)

yes-written : (R : Reply) (ts : List (Bool × Refusal)) → AllYes ts → answered ts R ≡ R
yes-written R [] y = refl
yes-written R (t ∷ ts) y = ap (λ (b : Bool). reply_if_yes b t.1 (answered ts R)) y.0 ∙ yes-written R ts y.1

-- ── the twelve questions ──

after-yes : (t : Bool) (q : Refusal) (r : Reading) (k : Prog → Reply) → reply_after (if_yes t q r) k ≡ reply_if_yes t q (reply_after r k)
after-yes true q r k = refl
after-yes false q r k = refl

module _ (L : Layout) (s : List ℕ) (size : ℕ) where
  -- what is written where all answers are yes
  abbrev written : Reply
  written = writes (image L (linearize (program_of L s))) (linearize (program_of L s)).max_id

  in_order : linearize_of L s size ≡ answered (questions L s size) written
  unfolding linearize_of linearizing reading questions
  in_order = simp after-yes

  -- document 01, "The questions": the first no over the whole image decides
  pub refused_exactly : (q : Refusal) → (linearize_of L s size ≡ refuses q → FirstNo (questions L s size) q) × (FirstNo (questions L s size) q → linearize_of L s size ≡ refuses q)
  refused_exactly q = (λ e. refused-no _ _ (questions L s size) q (sym in_order ∙ e), λ n. in_order ∙ no-refused _ _ (questions L s size) q n)

  -- all answers are yes, and these are the bytes and the max_id
  pub record Writes (bytes : List ℕ) (m : ℕ) : Type 0 where
    pub yes : AllYes (questions L s size)
    pub bytes-are : bytes ≡ image L (linearize (program_of L s))
    pub max-id : m ≡ (linearize (program_of L s)).max_id

  -- document 01, "The questions": 0 is acceptance
  pub written_exactly : (bytes : List ℕ) (m : ℕ) → (linearize_of L s size ≡ writes bytes m → Writes bytes m) × (Writes bytes m → linearize_of L s size ≡ writes bytes m)
  written_exactly bytes m = (
    λ e. let w = written-yes bytes m (questions L s size) written (sym in_order ∙ e) in record { yes = w.0; bytes-are = cc w.1; max-id = cc w.1 },
    λ w. in_order ∙ yes-written written (questions L s size) w.yes ∙ cc (w.bytes-are, w.max-id),
  )

  -- the program is read, and has a yes to 6 to 11
  pub program-read : AllYes (questions L s size) → reading L s ≡ accept (program_of L s)
  unfolding questions
  program-read y = all_yes L s y.0 y.1.0 y.1.1.0 y.1.1.1.0 y.1.1.1.1.0

  pub program-accepted : AllYes (questions L s size) → Accepted (program_of L s)
  unfolding questions
  program-accepted y = let z = y.1.1.1.1.1 in record { six = z.0; seven = z.1.0; eight = z.1.1.0; nine = z.1.1.1.0; ten = z.1.1.1.1.0; eleven = z.1.1.1.1.1.0 }

  -- the answer fits the lent buffer, and the layout
  pub answer-fits : AllYes (questions L s size) → (length (image L (linearize (program_of L s))) ≤ size) × (length (image L (linearize (program_of L s))) ≤ L.largest)
  unfolding questions question12
  answer-fits y =
      let b = both_true (leb (length (image L (linearize (program_of L s)))) size) (leb (length (image L (linearize (program_of L s)))) L.largest) y.1.1.1.1.1.1.1.1.1.1.1.0 in
      (leb-true _ _ b.0, leb-true _ _ b.1)

-- document 01, "The two machines": an accepted program is one that linearization, given enough buffer, answers with 0
pub accepted-written : (L : Layout) (s : List ℕ) (P : Prog) (size : ℕ) → reading L s ≡ accept P → Accepted P → length (image L (linearize P)) ≤ size → length (image L (linearize P)) ≤ L.largest
    → linearize_of L s size ≡ writes (image L (linearize P)) (linearize P).max_id
unfolding linearize_of linearizing question12
accepted-written L s P size e a h k = rw (e, a.six, a.seven, a.eight, a.nine, a.ten, a.eleven, le-leb _ _ h, le-leb _ _ k)

-- what fits is written alike into every buffer that it fits
pub enough-buffer : (L : Layout) (s : List ℕ) (size : ℕ) (bytes : List ℕ) (m : ℕ) → linearize_of L s size ≡ writes bytes m
    → (larger : ℕ) → length bytes ≤ larger → linearize_of L s larger ≡ writes bytes m
enough-buffer L s size bytes m e larger h =
    let w = (written_exactly L s size bytes m).0 e in
    let y = w.yes in
    accepted-written L s (program_of L s) larger (program-read L s size y) (program-accepted L s size y) (rw w.bytes-are at h) (answer-fits L s size y).1
    ∙ cc (w.bytes-are, w.max-id)
