-- Calls with a lent buffer, whatever is asked of the program that is read (k): where reading refuses, the refusal is the answer and the buffer
-- stays (`closed-replies`); where it accepts, the program of the image's records is asked (`opened-replies`). Assumes nothing.
use Prim.Native.Nat.{ℕ}
use mathlib.Core.Path.{◌≡◌, refl, sym, subst}
use mathlib.Core.Bool.{Bool, true, false}
use mathlib.Core.List.{List}
use native.Mathlib.Omega.{arith}
use Rattle.model.specs.Syntax.{Prog}
use Rattle.std.specs.Prelude.{Err}
use Rattle.image_spec.specs.Answers.{Answer}
use Rattle.image_spec.specs.declared.Refusal.{Refusal}
use Rattle.image_spec.specs.declared.Refusal.TheVariants.{Size, LayoutNumber, Directory, RecordForm, Shape}
use Rattle.image_spec.specs.declared.Layout.{Layout}
use Rattle.image_spec.specs.Reading.{Reading, refuse, accept, if_yes, question1, question2, question3, question4, question5, program_of, reading}
use Rattle.image_directory.specs.Slots.{records_in}
use Rattle.image_directory.specs.declared.Frame.{Frame}
use Rattle.image_open.specs.Opening.{opened_by, opened_of}
use Rattle.image_open.proofs.OpenedLaws.{IsOpened}
use Rattle.scope_spec.specs.Calls.{Reply, after_refusal, reply_after, Replies}
use Rattle.scope_check.specs.Deciding.{program_in}
use Rattle.scope_check.proofs.CheckLaws.{opened-defs}

pub opened-replies : {L : Layout} {s : List ℕ} {g : Frame} {D m : ℕ} (o : IsOpened L s g D m) (k : Prog → Reply) {before after : List ℕ} {r : Answer}
    → Replies (k (program_in D (records_in g s) m)) r before after → Replies (reply_after (reading L s) k) r before after
opened-replies {L} {s} {g} {D} {m} o k {before} {after} {r} p =
    rw o.reads (subst (λ (P : Prog). Replies (k P) r before after) (λ j. record { defs = opened-defs o j; max_id = o.max_id j }) p)

-- a refusal of reading leaves the buffer
Leaves : Reading → Type 0
Leaves (refuse q) = (out : List ℕ) → after_refusal q out ≡ out
Leaves (accept p) = Unit {0}

asked-leaves : (b : Bool) (q : Refusal) (r : Reading) → ((out : List ℕ) → after_refusal q out ≡ out) → Leaves r → Leaves (if_yes b q r)
unfolding Leaves
asked-leaves true q r h k = k
asked-leaves false q r h k = h

reading-leaves : (L : Layout) (s : List ℕ) → Leaves (reading L s)
unfolding reading Leaves
reading-leaves L s =
    asked-leaves (question1 L s) Size _ (λ out. refl)
    (asked-leaves (question2 L s) LayoutNumber _ (λ out. refl)
    (asked-leaves (question3 L s) Directory _ (λ out. refl)
    (asked-leaves (question4 L s) RecordForm _ (λ out. refl)
    (asked-leaves (question5 L s) Shape (accept (program_of L s)) (λ out. refl) tt))))

pub closed-replies : (L : Layout) (s : List ℕ) (k : Prog → Reply) (before : List ℕ) {q : Refusal} → opened_of L s ≡ Err q → Replies (reply_after (reading L s) k) (Err q) before before
unfolding opened_of Leaves
closed-replies L s k before {q} e = go (reading L s) (reading-leaves L s) e
  where
    go : (r : Reading) → Leaves r → opened_by L s r ≡ Err q → Replies (reply_after r k) (Err q) before before
    go (refuse p) h e = let z : q ≡ p = cc (e) in rw z record { answers = refl; leaves = sym (h before) }
    go (accept p) h e = let z : ◌≡◌ {A = ℕ} 0 1 = cc (e) in absurd (omega arith)
