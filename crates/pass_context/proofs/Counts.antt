-- A context at work has as many entries as it says. Assumes nothing.
use mathlib.Core.Path.{◌≡◌, refl, sym, ◌∙◌}
use Prim.Native.Nat.{◌≤◌}
use native.Mathlib.Omega.{arith}
use lib.ListN.{length, length-map}
use Rattle.std.proofs.lemmas.List.{length-take-le}
use Rattle.pass_entries.specs.Entries.{entry_in}
use Rattle.pass_context.specs.Holding.{entries_in, work_of, HoldsWork}
use Rattle.pass_context.specs.declared.Held.{Held}

-- the array is seen in its full length
pub entries-size : (h : Held) → length (entries_in h) ≡ 64
entries-size h = length-map h.entries entry_in ∙ h.size

pub held-fits : (h : Held) → h.len ≤ length (entries_in h)
held-fits h = omega (arith, entries-size h, h.fits)

pub work-count : (h : Held) → h.len ≡ length (work_of h)
work-count h = sym (length-take-le h.len (entries_in h) (held-fits h))

-- it holds its own list
pub work-holds : (h : Held) → HoldsWork h (work_of h)
work-holds h = record { count = work-count h; list = refl }
