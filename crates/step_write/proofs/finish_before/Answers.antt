use borrow.Author.Rules.{rules}
use mathlib.Core.Path.{◌≡◌, sym, ap, ◌∙◌}
use mathlib.Core.List.{List, ◌++◌, append_assoc}
use Prim.Native.Nat.{ℕ, ◌+◌, ◌*◌}
use native.Mathlib.Omega.{arith}
use lib.ListN.{length, take, drop, length-append}
use lib.Seq.{sets}
use Rattle.image_write_parts.proofs.Putting.{sets_append}
use Rattle.step_slots.specs.Slots.{slot_bytes, as_slot}
use Rattle.step_write.specs.Writing.{finished-full}
use Rattle.step_write.proofs.Regions.{taken-length}
use Rattle.step_write.proofs.FinishLaws.{roomy, finishes}
use Rattle.step_write.proofs.finish_before.Goals as goal

pub returns-then-not-fits : goal.returns-then-not-fits
returns-then-not-fits c = (finished-full (sym c.fits.ensures ∙ c.if-not-fits.true), search rules)

pub returns : goal.returns
returns c = (
  let a = c.args in
      let s = a.work.now.store.now in
      let front = a.slots.now in
      let kept = take (16 * a.n) (drop a.from s) in
      let last = slot_bytes (as_slot a.last) in
      let room = roomy 16 c.fits.result c.requires.0 c.fits.ensures c.if-not-fits.false in
      let x : length kept ≡ 16 * a.n = taken-length s a.from (16 * a.n) (omega (arith, room.state, c.requires.1)) in
      let k : a.from + length front + 16 * a.n ≡ a.from + length (front ++ kept) = omega (arith, x, length-append front kept) in
      let e = c.put_slot.ensures.holds
      ∙ (ap (λ (z : List ℕ). sets z (a.from + length front + 16 * a.n) last) c.insert.ensures
      ∙ (ap (λ (i : ℕ). sets (sets s a.from (front ++ kept)) i last) k
      ∙ (sym (sets_append (front ++ kept) s a.from last) ∙ ap (sets s a.from) (append_assoc front kept last)))) in
      finishes c.fits.result c.fits.ensures c.if-not-fits.false e c.seal.ensures.0,
  search rules,
)
