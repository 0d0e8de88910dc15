-- `Held::filter_by_set` meets its contract: i places are done, and the rule stands for the rest. Assumes nothing.
use mathlib.Core.Path.{◌≡◌}
use mathlib.Core.List.{List, map}
use Prim.Native.Nat.{ℕ, ◌-◌, ◌≤◌}
use lib.ListN.{length, take}
use Rattle.syntax.proofs.Filters.{Filtering}
use Rattle.pass_work_spec.specs.Work.{Work}
use Rattle.pass_entries.specs.declared.entries.FlatEntry.{FlatEntry}
use Rattle.pass_entries.specs.Entries.{entry_in}
use Rattle.pass_entries.specs.Masks.{in_mask, kept_by_mask}
use Rattle.pass_context.proofs.Held.filter_by_set.Given as goal

-- i places are done; the array keeps its length
pub record Inv (mask : ℕ) (whole : Work) (entries : List FlatEntry) (n i : ℕ) : Type 0 where
  pub size : length (map entry_in entries) ≡ 64
  pub few : n ≤ 64
  pub turn : Filtering (in_mask mask) whole (map entry_in entries) n i

abbrev pub invariant-loop-i : goal.invariant-loop-i
invariant-loop-i l = Inv l.mask (kept_by_mask l.mask (take l.initial.n (map entry_in l.initial.out.0))) l.out.0 l.n l.i

abbrev pub decreases-loop-i : goal.decreases-loop-i
decreases-loop-i l = l.n - l.i
