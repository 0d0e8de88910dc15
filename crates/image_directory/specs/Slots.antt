-- What is left to ask of an image, as the loops over its directory go; and the records of an image that has passed questions 1 to 4.
use Rattle.std.specs.Prelude.{ℕ, ◌≤◌, ◌<◌, List, [], Bool, true, ◌≡◌, drop, Option, Some, None}
use Rattle.image_spec.specs.Parse.{Parsed, refused, got}
use Rattle.image_spec.specs.Layout.{max_records}
use Rattle.image_spec.specs.Records.{Record}
use Rattle.image_spec.specs.Image.{if_some, is_some, Entry, entry, tiled_from, records_from}
use Rattle.image_directory.specs.declared.Slot.{Slot}
use Rattle.image_directory.specs.declared.Frame.{Frame}

-- the widths of the fields that the code reads. (Asked of a number, or of a `Frame`'s, where it is not known yet that the image is `Ready`, which has it.)
abbrev pub Width : ℕ → Type 0
Width p = (0 < p) × (p ≤ 4)

abbrev pub slot_of : Parsed ℕ Entry → Option Slot
slot_of refused = None
slot_of (got e m) = Some (record { offset = e.0; size = e.1 })

-- the pair of numbers of p bytes each that begins at `at`
unfoldable pub slot_at : ℕ → ℕ → List ℕ → Option Slot
slot_at p at s = slot_of (entry p (drop at s))

-- question 4 of the records of n pairs of p bytes each that begin at `at`, where the first record begins at `here`
unfoldable pub formed_from : ℕ → ℕ → ℕ → ℕ → ℕ → List ℕ → Bool
formed_from w p n at here s = is_some (records_from w p n at here s)

-- the records of an image
unfoldable pub records_in : Frame → List ℕ → List Record
records_in g s = if_some (records_from g.id g.place g.count g.from g.start s) [] (λ rs. rs)

-- the image has passed questions 1 to 4, and this is its frame
pub record Ready (g : Frame) (s : List ℕ) : Type 0 where
  pub id : Width g.id
  pub place : Width g.place
  pub few : g.count ≤ max_records
  pub from : g.from ≤ 16
  pub tiled : tiled_from g.place g.count g.from g.start s ≡ true
  pub formed : formed_from g.id g.place g.count g.from g.start s ≡ true
