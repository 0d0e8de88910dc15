-- The questions of a stepper: an image that was opened, and the scope check of it. Assumes nothing.
use Prim.Native.Nat.{ℕ}
use mathlib.Core.Path.{◌≡◌, refl, sym, ap, ◌∙◌}
use mathlib.Core.List.{List}
use native.Mathlib.Omega.{arith}
use Rattle.image_spec.specs.declared.Layout.{Layout}
use Rattle.image_spec.specs.declared.Refusal.{Refusal}
use Rattle.std.specs.Prelude.{Ok, Err}
use Rattle.image_spec.specs.declared.Accepted.{Accepted}
use Rattle.image_spec.specs.Answers.{Answer}
use Rattle.image_spec.specs.Reading.{Reading, refuse, accept, reading, answer_of}
use Rattle.image_directory.specs.Slots.{records_in}
use Rattle.image_directory.specs.Images.{records_of}
use Rattle.image_directory.specs.declared.Frame.{Frame}
use Rattle.image_open.specs.declared.opened.Opened.{Opened}
use Rattle.image_open.specs.Opening.{opened_by, opened_of}
use Rattle.image_open.proofs.OpenedLaws.{IsOpened}
use Rattle.scope_spec.specs.Calls.{after_reading, checking, check_of}
use Rattle.scope_check.specs.Deciding.{program_in}
use Rattle.scope_check.proofs.CheckLaws.{opened-answer}
use Rattle.step_spec.specs.declared.MachineKind.{MachineKind}
use Rattle.step_spec.specs.declared.MachineKind.TheVariants.{Source, Linear}
use Rattle.step_spec.proofs.Stepping.{checked_is}
use Rattle.step_rule.specs.Rules.{ImageOf}
use Rattle.step_ask.specs.Asking.{stepper_of, Asks, closed, opened}

refused : (r : Reading) (q : Refusal) → answer_of r ≡ Err q → r ≡ refuse q
refused (refuse p) q e = let z : p ≡ q = cc (e) in ap refuse z
refused (accept P) q e = let z : ◌≡◌ {A = ℕ} 0 1 = cc (e) in absurd (omega arith)

-- an image that is refused when it is opened
pub closed-asks : (L : Layout) (s : List ℕ) (kind : MachineKind) {q : Refusal} → opened_of L s ≡ Err q → Asks L kind s (Err q)
unfolding opened_of check_of
closed-asks L s kind {q} e = closed (go kind)
  where
    read : (r : Reading) → opened_by L s r ≡ Err q → r ≡ refuse q
    read (refuse p) e = let z : p ≡ q = cc (e) in ap refuse z
    read (accept p) e = let z : ◌≡◌ {A = ℕ} 0 1 = cc (e) in absurd (omega arith)

    go : (kind : MachineKind) → (stepper_of kind L).asks s ≡ refuse q
    go Linear = read (reading L s) e
    go Source = ap (λ (r : Reading). after_reading r checking) (read (reading L s) e)

module _ {L : Layout} {s : List ℕ} {g : Frame} {D m : ℕ} (o : IsOpened L s g D m) where
  image-of : ImageOf o.program g D s
  image-of = record { records = o.records; shallow = o.ok.shallow; count = sym o.count }

  check_is : check_of L s ≡ checking o.program
  unfolding check_of
  check_is = ap (λ (r : Reading). after_reading r checking) o.reads

  -- what the scope check answers of a source
  source_accepts : {r : Answer} {told : Accepted} → r ≡ answer_of (checking (program_in D (records_in g s) m)) → r ≡ Ok told → check_of L s ≡ accept o.program
  source_accepts {r} {told} e f = check_is ∙ go (checking o.program) refl (ap answer_of (sym check_is) ∙ (sym (e ∙ opened-answer o) ∙ f))
    where
      go : (c : Reading) → checking o.program ≡ c → answer_of c ≡ Ok told → c ≡ accept o.program
      go (refuse q) p e = let z : ◌≡◌ {A = ℕ} 0 1 = cc (e) in absurd (omega arith)
      go (accept Q) p e = ap accept (sym (checked_is o.program Q p))

  pub source-closed : {r : Answer} {q : Refusal} → r ≡ answer_of (checking (program_in D (records_in g s) m)) → r ≡ Err q → Asks L Source s (Err q)
  source-closed {r} {q} e f = closed (refused (check_of L s) q (sym (e ∙ opened-answer o) ∙ f))

module _ {L : Layout} (o : Opened) (is : IsOpened L o.image.bytes.now o.image.frame o.definitions o.max_id) where
  pub linear-asks : Asks L Linear o.image.bytes.now (Ok o)
  linear-asks = opened is.program is.reads (image-of is) refl

  pub source-asks : {r : Answer} {told : Accepted} → r ≡ answer_of (checking (program_in o.definitions (records_of o.image) o.max_id)) → r ≡ Ok told → Asks L Source o.image.bytes.now (Ok o)
  source-asks e f = opened is.program (source_accepts is e f) (image-of is) refl
