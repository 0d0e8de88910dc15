-- `Held::filter_by_set` meets its contract: i places are done, and the rule stands for the rest. Assumes nothing.
use mathlib.Core.Path.{sym, ap, ◌∙◌}
use mathlib.Core.List.{map}
use Prim.Native.Nat.{◌-◌}
use native.Mathlib.Omega.{arith}
use lib.ListN.{length, length-set}
use Rattle.std.proofs.lemmas.List.{length-take-le}
use Rattle.syntax.proofs.Flats.{seen-moved, seen_in, seen-out}
use Rattle.syntax.proofs.Filters.{filtering-start, filtering-done}
use Rattle.pass_entries.specs.Masks.{in_mask}
use Rattle.pass_entries.specs.Entries.{entry_in, empty_flat_entry}
use Rattle.pass_context.specs.Holding.{entries_in}
use Rattle.pass_context.proofs.Counts.{entries-size, held-fits}
use Rattle.pass_context.proofs.Held.filter_by_set.Goals as goal

pub loop-i-init : goal.loop-i-init
loop-i-init c =
    let s = c.args.self in
    record { size = entries-size s; few = s.fits; turn = filtering-start (in_mask c.args.mask) (entries_in s) s.len (held-fits s) }

pub loop-i-preserved-then-bit : goal.loop-i-preserved-then-bit
loop-i-preserved-then-bit c =
    let l = c.loop-i in
    let kept = sym c.bit.ensures ∙ c.if-bit.true in
    record {
      size = l.invariant.size;
      few = l.invariant.few;
      turn = seen_in entry_in (in_mask c.args.mask) l.out.0 empty_flat_entry (omega arith) l.invariant.turn kept;
    }

pub loop-i-preserved : goal.loop-i-preserved
loop-i-preserved c =
    let l = c.loop-i in
    let gone = sym c.bit.ensures ∙ c.if-bit.false in
    record {
      size = rw (seen-moved entry_in l.out.0 l.i (l.n - 1) empty_flat_entry, length-set) l.invariant.size;
      few = omega (arith, l.invariant.few);
      turn = seen-out entry_in (in_mask c.args.mask) l.out.0 empty_flat_entry (omega arith) l.invariant.turn gone;
    }

pub returns : goal.returns
returns c =
    let l = c.loop-i in
    let e = filtering-done (in_mask c.args.mask) c.loop-i-test.false l.invariant.turn in
    record { count = sym (ap length (sym e) ∙ length-take-le l.n (map entry_in l.out.0) l.invariant.turn.within); list = e }
