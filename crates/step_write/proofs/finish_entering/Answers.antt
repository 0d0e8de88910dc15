use borrow.Author.Rules.{rules}
use mathlib.Core.Path.{◌≡◌, refl, sym, ap, ◌∙◌}
use mathlib.Core.List.{List}
use Prim.Native.Nat.{ℕ, ◌+◌, ◌-◌, ◌*◌}
use native.Mathlib.Omega.{arith}
use lib.ListN.{length, take, drop}
use lib.Seq.{sets}
use Rattle.image_write_parts.proofs.Putting.{sets_reserved}
use Rattle.step_write.specs.Writing.{finished-full}
use Rattle.step_write.proofs.FinishLaws.{finishes}
use Rattle.step_write.proofs.finish_entering.Goals as goal

pub returns-then-not-fits : goal.returns-then-not-fits
returns-then-not-fits c = (finished-full (sym c.fits.ensures ∙ c.if-not-fits.true), search rules)

pub returns : goal.returns
returns c = (
  let a = c.args in
      let s = a.work.now.store.now in
      let front = a.slots.now in
      let held = take (16 * a.n) (drop a.entries s) in
      let k : a.entries + (a.from + length front - a.entries) ≡ a.from + length front = omega (arith, c.requires.1.1) in
      let e = c.copy.ensures.holds
      ∙ (ap (λ (z : List ℕ). sets z a.from front) (c.move_up.ensures ∙ ap (λ (i : ℕ). sets s i held) k)
      ∙ sets_reserved front s a.from (length front) held refl) in
      finishes c.fits.result c.fits.ensures c.if-not-fits.false e c.seal.ensures.0,
  search rules,
)
