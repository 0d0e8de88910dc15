-- Room for what is ahead, and records that are written one part after the other (`Writing`). Assumes nothing.
use Prim.Native.Nat.{ℕ, ◌+◌, ◌≤◌}
use mathlib.Core.Path.{◌≡◌, refl, sym, ap, ◌∙◌, subst}
use mathlib.Core.List.{List, [], ◌++◌, append-nil, append_assoc}
use native.Mathlib.Omega.{arith}
use lib.ListN.{length, length-append}
use Rattle.image_spec.specs.Parse.{each}
use Rattle.image_spec.specs.Records.{Record, record_bytes}
use Rattle.image_write_directory.specs.Emitting.{Emits, Progress}
use Rattle.image_spec.proofs.ListLaws.{each_append}
use Rattle.image_write_directory.proofs.EmitLaws.{emits_none, emits_then, emits-count}
use Rattle.pass_step.specs.Stepping.{RoomAt}
use Rattle.pass_walk.specs.Walking.{RoomTo, Writes}

-- where records that were written end
pub emits-at : {w : ℕ} {out out' lengths lengths' : List ℕ} {p q : Progress} {R : List Record} → Emits w out out' lengths lengths' p q R → q.at ≡ p.at + length (each (record_bytes w) R)
emits-at e = e.bytes.ends

module _ {w : ℕ} {p : Progress} {top : ℕ} where
  -- room for a step
  pub room-here : {R : List Record} → RoomTo w p R top → p.max_id ≤ top → RoomAt p
  room-here r h = record { at = omega (arith, r.at); count = omega (arith, r.count); max_id = omega (arith, r.max_id, h) }

  -- room for the first of two parts, and for the second behind it
  pub room-first : (A B : List Record) {low : ℕ} → RoomTo w p (A ++ B) top → low ≤ top → RoomTo w p A low
  room-first A B r h = record {
    at = omega (arith, r.at, ap length (each_append (record_bytes w) A B), length-append (each (record_bytes w) A) (each (record_bytes w) B));
    count = omega (arith, r.count, length-append A B);
    max_id = omega (arith, r.max_id, h);
  }

  pub room-second : (A B : List Record) {q : Progress} → RoomTo w p (A ++ B) top → q.at ≡ p.at + length (each (record_bytes w) A) → q.count ≡ p.count + length A → RoomTo w q B top
  room-second A B r a c = record {
    at = omega (arith, r.at, a, ap length (each_append (record_bytes w) A B), length-append (each (record_bytes w) A) (each (record_bytes w) B));
    count = omega (arith, r.count, c, length-append A B);
    max_id = r.max_id;
  }

-- ── one part after the other ──

-- from p to q the first part of all the records was written; ahead are these, with this max_id at their end
pub record Writing (w : ℕ) (all : List Record) (top : ℕ) (out out' lengths lengths' : List ℕ) (p q : Progress) (ahead : List Record) (low : ℕ) : Type 0 where
  pub seen : List Record
  pub emits : Emits w out out' lengths lengths' p q seen
  pub all_are_lem : all ≡ seen ++ ahead
  pub top_is : top ≡ low
  pub room : RoomTo w q ahead low

pub writing-begun : {w : ℕ} {R : List Record} {top : ℕ} (out lengths : List ℕ) {p : Progress} → RoomTo w p R top → Writing w R top out out lengths lengths p p R top
writing-begun {w} {R} {top} out lengths {p} r = record { seen = []; emits = emits_none w out lengths p; all_are_lem = refl; top_is = refl; room = r }

module _ {w : ℕ} {all : List Record} {top : ℕ} {out out₁ lengths lengths₁ : List ℕ} {p q : Progress} where
  -- the next part
  pub writing_on : (A B : List Record) {low low' : ℕ} {out₂ lengths₂ : List ℕ} {r : Progress} → Writing w all top out out₁ lengths lengths₁ p q (A ++ B) low → low ≡ low' → Emits w out₁ out₂ lengths₁ lengths₂ q r A
      → Writing w all top out out₂ lengths lengths₂ p r B low'
  writing_on A B {r = r} x h e = record {
    seen = x.seen ++ A;
    emits = emits_then x.emits e;
    all_are_lem = x.all_are_lem ∙ sym (append_assoc x.seen A B);
    top_is = x.top_is ∙ h;
    room = subst (RoomTo w r B) h (room-second A B x.room (emits-at e) (emits-count e));
  }

  -- what is ahead, in another form
  pub writing_as : {A B : List Record} {low low' : ℕ} → A ≡ B → low ≡ low' → Writing w all top out out₁ lengths lengths₁ p q A low → Writing w all top out out₁ lengths lengths₁ p q B low'
  writing_as {A} {B} {low} {low'} e h x =
      subst (λ (z : ℕ). Writing w all top out out₁ lengths lengths₁ p q B z) h (subst (λ (z : List Record). Writing w all top out out₁ lengths lengths₁ p q z low) e x)

  -- nothing is ahead
  pub writing-done : Writing w all top out out₁ lengths lengths₁ p q [] q.max_id → Writes w out out₁ lengths lengths₁ p q all top
  writing-done x = record { emits = subst (Emits w out out₁ lengths lengths₁ p q) (sym (x.all_are_lem ∙ append-nil x.seen)) x.emits; max_id = sym x.top_is }
