-- Masks: sets of places in scope as the bits of a number.
use Rattle.std.specs.Prelude.{ℕ, ◌/◌, ◌%◌, ◌^◌, ◌≤◌, ◌<◌, ◌≡◌, Bool, ◌||◌, cond, List, [], ◌∷◌, eqb, ltb, length, get_or}
use Rattle.std.specs.Int.Bits.{bit_or}
use Rattle.syntax.specs.Names.{same_var_id}
use Rattle.syntax.specs.Sets.{elem}
use Rattle.syntax.specs.Filter.{filtered}
use Rattle.syntax.specs.declared.names.VarId.{VarId}
use Rattle.pass_work_spec.specs.declared.Entry.{Entry}
use Rattle.pass_work_spec.specs.Work.{Work}
use Rattle.pass_work_spec.specs.Placed.{Placed}

-- is the bit at place p set?
unfoldable pub marked : (mask p : ℕ) → Bool
marked mask p = eqb (mask / 2 ^ p % 2) 1

-- is the entry's place in the mask?
abbrev pub in_mask : (mask : ℕ) → Entry → Bool
in_mask mask e = marked mask e.place

-- the rule of `filter_by_set`: what stands at a place of the mask is retained
abbrev pub kept_by_mask : (mask : ℕ) → Work → Work
kept_by_mask mask W = filtered (in_mask mask) W

-- the mask tells which variables of the scope Δ are in the set
pub record Marks (mask : ℕ) (Δ s : List VarId) : Type 0 where
  pub bits : (i : ℕ) → i < length Δ → (d : VarId) → marked mask i ≡ elem (get_or Δ i d) s

-- ── more places ──

-- the mask with the bit at place p; a mask has 64 bits
abbrev pub with_bit_lem : (mask p : ℕ) → ℕ
with_bit_lem mask p = cond (ltb p 64) (bit_or mask (2 ^ p)) mask

-- does the entry stand for one of the two variables?
abbrev pub is_either : (fst snd : VarId) → Entry → Bool
is_either fst snd e = same_var_id e.source fst || same_var_id e.source snd

-- the mask with the places of the entries that stand for one of the two variables
abbrev pub with_places_lem : (fst snd : VarId) → Work → (mask : ℕ) → ℕ
with_places_lem fst snd [] mask = mask
with_places_lem fst snd (e ∷ W) mask = with_places_lem fst snd W (cond (is_either fst snd e) (with_bit_lem mask e.place) mask)

-- the places of the entries tell their sources, and a mask has a bit for each. (No field of `Held`: a context is built entry by entry, and only what reads
-- masks asks it.)
pub record InPlaces (W : Work) : Type 0 where
  pub scope : List VarId
  pub placed : Placed scope W
  pub few : length scope ≤ 64
