-- The values of a start, as code tests them. (proofs/ValueLaws.antt: this is whether `givens` of step_spec/specs/Events.antt has them.)
use Rattle.std.specs.Prelude.{ℕ, ◌*◌, Bool, ◌&&◌, ◌||◌, List, eqb, ltb, length}
use Rattle.step_slots.specs.Slots.{Slot}
use Rattle.step_slots.specs.Views.{slots_at}
use Rattle.step_spec.specs.Store.{every_slot}

-- document 02, A.2: integers and outside numbers up to 255; without an ID
abbrev pub given_ok_lem : Slot → Bool
given_ok_lem t = eqb t.id 0 && (eqb t.sort 0 || (eqb t.sort 2 && ltb t.payload 256))

unfoldable pub are_given_lem : (n : ℕ) (values : List ℕ) → Bool
are_given_lem n values = eqb (length values) (16 * n) && every_slot given_ok_lem (slots_at values 0 n)
