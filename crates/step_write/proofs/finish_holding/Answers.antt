use borrow.Author.Rules.{rules}
use mathlib.Core.Path.{sym, ◌∙◌}
use Rattle.step_write.specs.Writing.{finished-full}
use Rattle.step_write.proofs.FinishLaws.{finishes}
use Rattle.step_write.proofs.finish_holding.Goals as goal

pub returns-then-not-fits : goal.returns-then-not-fits
returns-then-not-fits c = (finished-full (sym c.fits.ensures ∙ c.if-not-fits.true), search rules)

pub returns : goal.returns
returns c = (finishes c.fits.result c.fits.ensures c.if-not-fits.false c.put_closure.ensures c.seal.ensures.0, search rules)
