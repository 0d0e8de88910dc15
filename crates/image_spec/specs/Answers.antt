-- What a call answers, and what it reports: number, length and max_id.
use Rattle.std.specs.Prelude.{ℕ, ◌≡◌, Result, Ok, Err}
use Rattle.image_spec.specs.declared.Refusal.{Refusal}
use Rattle.image_spec.specs.declared.Refusal.TheVariants.{Size, LayoutNumber, Directory, RecordForm, Shape, Linearized, Limits, Binders, Scope, MaxId, Draws, Room, Place}
use Rattle.image_spec.specs.declared.Accepted.{Accepted}

-- document 01, "The questions, and the number for no"
abbrev pub number_of : Refusal → ℕ
-- 1. Has it 8 to 65,535 bytes?
number_of Size = 1
-- 2. Is the layout number 1?
number_of LayoutNumber = 2
-- 3. Is N at most 4,000, and do the pairs tile the bytes from 8 + 4 × N to the end?
number_of Directory = 3
-- 4. Is each record of kind 1 to 11 (document 02, A.1: 1 to 13), of exactly its length, every count at most 128, every code and mark in range, I64's four bytes zero?
number_of RecordForm = 4
-- 5. Are the records D definitions in the order above, at most 128 statements deep (a body is depth 1)?
number_of Shape = 5
-- 6. Is it free of Substitute and of environments?
number_of Linearized = 6
-- 7. Are there at most 2,000 records, depth 64, counts 32, and 64 bindings in scope, repeats counted?
number_of Limits = 7
-- 8. Does each binder take an ID not in scope there and not earlier in its list?
number_of Binders = 8
-- 9. Is each variable used in scope?
number_of Scope = 9
-- 10. Is max_id at least every binder's ID?
number_of MaxId = 10
-- 11. Is max_id plus the fresh IDs that the rules draw at most 65,535?
number_of Draws = 11
-- 12. Does the answer fit the lent buffer, an image also 65,535 bytes?
number_of Room = 12
-- 13. Is the record, given by its place from 0, below N and one with an annotation?
number_of Place = 13

-- the answer to a call: what an accepted call reports, or the question that refused it
abbrev pub Answer : Type 0
Answer = Result Accepted Refusal

pub record Report : Type 0 where
  pub number : ℕ
  pub length : ℕ
  pub max_id : ℕ

-- document 01, "The questions": 0 is acceptance. Acceptance reports the bytes written and max_id; a refusal reports length 0 and max_id 0
abbrev pub report : Answer → Report
report (Ok a) = record { number = 0; length = a.length; max_id = a.max_id }
report (Err q) = record { number = number_of q; length = 0; max_id = 0 }

-- what a call returned, and left in its two numbers, is this report
pub record Reports (r : Report) (number length max_id : ℕ) : Type 0 where
  pub number_is : number ≡ r.number
  pub length_is : length ≡ r.length
  pub max_id_is : max_id ≡ r.max_id
