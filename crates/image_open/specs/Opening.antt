-- What opening an image finds: the frame, the definitions and the max_id of what reading accepts, or reading's refusal.
use Rattle.std.specs.Prelude.{ℕ, ◌+◌, ◌≤◌, ◌≡◌, true, length, drop, List, Result, Ok, Err}
use Rattle.image_spec.specs.Parse.{got, number}
use Rattle.image_spec.specs.declared.Layout.{Layout}
use Rattle.image_spec.specs.declared.Refusal.{Refusal}
use Rattle.image_spec.specs.Layout.{header_size, body_at}
use Rattle.image_spec.specs.Image.{is_some}
use Rattle.image_spec.specs.Records.{Record}
use Rattle.image_spec.specs.Shape.{definitions}
use Rattle.image_spec.specs.Reading.{definition_count, record_count, Reading, refuse, accept, reading}
use Rattle.image_directory.specs.Slots.{Width}
use Rattle.image_directory.specs.declared.Frame.{Frame}

-- a layout whose fields the code reads. (No field of `Layout`: definitions and theorems are of every layout, also of those that no code reads.)
pub record Known (L : Layout) : Type 0 where
  pub id : Width L.id
  pub place : Width L.place

-- an image of the layout and of a size that it may have, and the numbers of its header: definitions, max_id, records
pub record Head (L : Layout) (s : List ℕ) (D m n : ℕ) : Type 0 where
  pub least : header_size L ≤ length s
  pub most : length s ≤ L.largest
  pub layout : number 2 (drop 0 s) ≡ got L.number (drop 2 s)
  pub definitions_are : number 2 (drop 2 s) ≡ got D (drop 4 s)
  pub max_id_is : number L.id (drop 4 s) ≡ got m (drop (4 + L.id) s)
  pub records_are : number L.place (drop (4 + L.id) s) ≡ got n (drop (4 + L.id + L.place) s)

-- question 5 has a yes: the records are D definitions, and nothing more
abbrev pub Shaped : ℕ → List Record → Type 0
Shaped D rs = is_some (definitions D rs) ≡ true

-- the frame of an image of n records
abbrev pub frame_of : Layout → ℕ → Frame
frame_of L n = record { id = L.id; place = L.place; count = n; from = header_size L; start = body_at L n }

-- what the header of an accepted image says, with its frame
pub record Contents : Type 0 where
  pub frame : Frame
  pub definitions : ℕ
  pub max_id : ℕ

abbrev pub opened_by : Layout → List ℕ → Reading → Result Contents Refusal
opened_by L s (refuse q) = Err q
opened_by L s (accept p) = Ok (record { frame = frame_of L (record_count L s); definitions = definition_count L s; max_id = p.max_id })

unfoldable pub opened_of : Layout → List ℕ → Result Contents Refusal
opened_of L s = opened_by L s (reading L s)
