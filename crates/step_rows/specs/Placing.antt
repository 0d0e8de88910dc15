-- Where the IDs of a row stand: numbers at equal distances in bytes, of a list in an image or of slots in a store.
use Rattle.std.specs.Prelude.{ℕ, zero, suc, ◌+◌, ◌-◌, ◌*◌, ◌≤◌, List, [], ◌∷◌, length, drop}
use Rattle.syntax.specs.declared.names.VarId.{VarId}
use Rattle.image_spec.specs.Parse.{Parsed, refused, got, number}
use Rattle.step_rows.specs.declared.places.Places.{Places}

abbrev pub identified : ℕ → VarId
identified n = record { 0 = n }

abbrev pub number_from : Parsed ℕ ℕ → ℕ
number_from refused = 0
number_from (got n m) = n

-- the number in the w bytes from `at`; 0 where there are none
unfoldable pub number_at : List ℕ → (w at : ℕ) → ℕ
number_at bytes w at = number_from (number w (drop at bytes))

-- n IDs of w bytes each, one every `stride` bytes, the first at `at`
unfoldable pub ids_from : List ℕ → (stride w at n : ℕ) → List VarId
ids_from bytes stride w at zero = []
ids_from bytes stride w at (suc n) = identified (number_at bytes w at) ∷ ids_from bytes stride w (at + stride) n

-- the IDs at places in bytes
abbrev pub ids_in : List ℕ → Places → List VarId
ids_in bytes p = ids_from bytes p.stride p.width (p.from + p.offset) p.len

-- the elements are in the bytes, and each holds its number
pub record Inside (bytes : List ℕ) (p : Places) : Type 0 where
  pub width : p.width ≤ 4
  pub element : p.offset + p.width ≤ p.stride
  pub room : p.from + p.stride * p.len ≤ length bytes

-- the places without the first k
abbrev pub behind_of : Places → (k : ℕ) → Places
behind_of p k = record { from = p.from + p.stride * k; stride = p.stride; offset = p.offset; width = p.width; len = p.len - k }

-- the places of the IDs of the n slots from `at`: bytes 4 to 7 of sixteen
abbrev pub slot_places_lem : (at n : ℕ) → Places
slot_places_lem at n = record { from = at; stride = 16; offset = 4; width = 4; len = n }
