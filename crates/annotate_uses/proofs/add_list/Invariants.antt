-- `add_list` meets its contract: j bindings are added. Assumes nothing.
use Prim.Native.Nat.{ℕ, ◌-◌, ◌≤◌}
use mathlib.Core.Path.{◌≡◌}
use mathlib.Core.List.{List, ◌++◌}
use lib.ListN.{length, take, drop}
use Rattle.syntax.specs.Context.{Context, ids}
use Rattle.syntax.specs.declared.names.VarId.{VarId}
use Rattle.image_read_parts.specs.Parts.{list_of}
use Rattle.image_read_parts.specs.Recorded.{record_in}
use Rattle.annotate_uses.specs.Sets.{Room}
use Rattle.annotate_uses.proofs.add_list.Given as goal

-- the array and the count are a set with room for the bindings from place j on; those behind it come to the whole
pub record Adding (whole : List VarId) (Γ : Context) (array : List VarId) (count j : ℕ) : Type 0 where
  pub size : length array ≡ 128
  pub fits : count ≤ 128
  pub room : Room (record { ids = array; len = count; size = size; fits = fits }) (length Γ - j)
  pub turn : whole ≡ take count array ++ drop j (ids Γ)

abbrev pub invariant-loop-j : goal.invariant-loop-j
invariant-loop-j l =
    let Γ = list_of (record_in l.list.node.now) in
    Adding (take l.initial.all.1.0 l.initial.all.0 ++ ids Γ) Γ l.all.0 l.all.1.0 l.j
