-- One entry stored behind the others; the loops that store entries, from the first place on and behind the others. Assumes nothing.
use mathlib.Core.Path.{◌≡◌, ◌∙◌}
use mathlib.Core.List.{List, [], ◌∷◌, ◌++◌, map}
use Prim.Native.Nat.{ℕ, ◌+◌, ◌≤◌, ◌<◌}
use native.Mathlib.Omega.{arith}
use lib.ListN.{length, set}
use Rattle.syntax.proofs.Lists.{stored-count}
use Rattle.syntax.proofs.Flats.{seen_stored}
use Rattle.pass_work_spec.specs.declared.Entry.{Entry}
use Rattle.pass_work_spec.specs.Work.{Work}
use Rattle.pass_entries.specs.Entries.{entry_in}
use Rattle.pass_context.specs.Holding.{entries_in, work_of, HoldsWork}
use Rattle.pass_context.specs.declared.Held.{Held}
use Rattle.pass_entries.specs.declared.entries.FlatEntry.{FlatEntry}
use Rattle.pass_context.proofs.Counts.{entries-size}
use Rattle.pass_context.proofs.Stores.{Built, built-done}

pub stored-behind : (h : Held) {next : Held} (a : FlatEntry) (e : Entry) → h.len < 64 → entry_in a ≡ e → next.entries ≡ set h.entries h.len a → next.len ≡ h.len + 1
    → HoldsWork next (work_of h ++ (e ∷ []))
stored-behind h a e k q p n =
    let room : h.len < length (entries_in h) = omega (arith, entries-size h) in
    record {
      count = n ∙ stored-count (entries_in h) h.len e room;
      list = rw (n, p) (seen_stored entry_in h.entries h.len a e q room);
    }

-- ── loops: the first of the entries are done ──

-- in place
pub record Storing (whole l₀ : Work) (n : ℕ) (l : List FlatEntry) (len i : ℕ) : Type 0 where
  pub len-is : len ≡ n
  pub turn : Built whole l₀ (map entry_in l) 64 i

pub stored-all : {whole l₀ : Work} {i : ℕ} {h : Held} → h.len ≡ length whole → h.len ≤ i → Built whole l₀ (entries_in h) 64 i → HoldsWork h whole
stored-all q k s = record { count = q; list = built-done _ q k s }
