-- `finish_showing_from` meets its contract. Assumes nothing.
use mathlib.Core.Path.{◌≡◌, refl}
use Prim.Native.Nat.{◌/◌}
use lib.ListN.{length}
use borrow.Author.Rules.{rules}
use Rattle.step_show.proofs.ShownLaws.{showing_full, showing_finishes}
use Rattle.step_show.proofs.finish_showing_from.Goals as goal

pub returns-then-not-fits : goal.returns-then-not-fits
returns-then-not-fits c = (
  let a = c.args in
      showing_full a.work.now.store.now a.work.now.events.now a.work.now.at a.event a.header a.slots.now 0 (length a.slots.now / 16) c.fits.result c.fits.ensures c.if-not-fits.true,
  search rules,
)

pub returns : goal.returns
returns c = (
  let a = c.args in
      let e : c.take-events.result.now ≡ c.put_event-values.new.events = search rules in
      let s : c.store_of.result.now ≡ a.work.now.store.now = search rules in
      let p = rw (e, s) at c.show-end.ensures in
      showing_finishes a.work.now.store.now a.work.now.events.now a.work.now.at a.event a.header a.slots.now 0 (length a.slots.now / 16) c.fits.result c.fits.ensures c.if-not-fits.false
      refl c.put_event-values.ensures p c.put_header.ensures.holds,
  search rules,
)
