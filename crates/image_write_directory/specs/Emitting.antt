-- Records written one after the other: their bytes go to the buffer, and their lengths are noted beside it, for the directory.
use Rattle.std.specs.Prelude.{ℕ, ◌+◌, ◌-◌, ◌≡◌, List, [], ◌∷◌, map, length}
use Rattle.image_spec.specs.Parse.{each}
use Rattle.image_spec.specs.Records.{Record, record_bytes}
use Rattle.image_spec.specs.Image.{Entry}
use Rattle.image_write_parts.specs.Puts.{Puts}

-- how far the writing has come: the place of the next byte, the records so far, and the max_id
pub record Progress : Type 0 where
  pub at : ℕ
  pub count : ℕ
  pub max_id : ℕ

-- the lengths of records, with IDs of w bytes
abbrev pub sizes_of : (w : ℕ) → List Record → List ℕ
sizes_of w R = map (λ (r : Record). length (record_bytes w r)) R

-- from one progress to the other these records were written
pub record Emits (w : ℕ) (out out' lengths lengths' : List ℕ) (p q : Progress) (R : List Record) : Type 0 where
  pub bytes : Puts out out' p.at q.at (each (record_bytes w) R)
  pub noted : Puts lengths lengths' p.count q.count (sizes_of w R)

-- one record was written, up to `next`
pub record Noted (q p : Progress) (next : ℕ) (lengths lengths' : List ℕ) : Type 0 where
  pub at : q.at ≡ next
  pub max_id : q.max_id ≡ p.max_id
  pub puts : Puts lengths lengths' p.count q.count ((next - p.at) ∷ [])

-- the directory of records of these lengths, the first at `at`
abbrev pub entries_from : (at : ℕ) → (sizes : List ℕ) → List Entry
entries_from at [] = []
entries_from at (z ∷ zs) = (at, z) ∷ entries_from (at + z) zs

abbrev pub total : List ℕ → ℕ
total [] = 0
total (z ∷ zs) = z + total zs
