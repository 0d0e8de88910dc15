use borrow.Author.Rules.{rules}
use mathlib.Core.Path.{◌≡◌, refl, sym, ap, ◌∙◌}
use Prim.Native.Nat.{ℕ, ◌+◌}
use native.Mathlib.Omega.{arith}
use Rattle.step_write.specs.Writing.{finished-full}
use Rattle.step_write.proofs.FinishLaws.{finishes}
use Rattle.step_write.proofs.finish_silent.Goals as goal

pub returns-then-not-fits : goal.returns-then-not-fits
returns-then-not-fits c = (finished-full (sym c.fits.ensures ∙ c.if-not-fits.true), search rules)

pub returns : goal.returns
returns c = (
  let a = c.args in
      let e : a.work.now.at ≡ a.work.now.at + 0 = omega arith in
      finishes c.fits.result c.fits.ensures c.if-not-fits.false c.copy.ensures.holds
      (record { headed = c.put_header.ensures.holds; shows = refl; made = ap (λ (n : ℕ). record { header = a.header; at = n }) e }),
  search rules,
)
