-- A value that stands at a place of bytes, what reading there must answer, and the record at an index.
use Rattle.std.specs.Prelude.{ℕ, ◌+◌, ◌≤◌, List, [], ◌∷◌, ◌++◌, ◌≡◌, length, drop}
use Rattle.std.proofs.Math.Option.{some}
use Rattle.syntax.specs.Context.{empty_binding}
use Rattle.image_spec.specs.Parse.{numbered}
use Rattle.image_spec.specs.Records.{Record, call, record_bytes}
use Rattle.image_directory.specs.Slots.{records_in}
use Rattle.image_directory.specs.declared.Frame.{Frame}

-- the bytes of s from `at` are those of the value, and then others
pub record Stands {A : Type 0} (e : A → List ℕ) (P : A → Type 0) (s : List ℕ) (at : ℕ) (a : A) : Type 0 where
  pub others : List ℕ
  pub bytes : drop at s ≡ e a ++ others
  pub fits : P a

-- what was read at `at` is the value that stands there, if any does
pub record ReadsAs {A : Type 0} (e : A → List ℕ) (P : A → Type 0) (s : List ℕ) (at : ℕ) (r : A) : Type 0 where
  pub is : (a : A) → Stands e P s at a → r ≡ a

-- .. and what a code stands for
pub record IsCode {A : Type 0} (vs : List A) (b : ℕ) (r : A) : Type 0 where
  pub is : (a : A) → numbered vs b ≡ some a → r ≡ a

-- n bytes from `at` are in s, and the code reads IDs of w bytes. (Asked: n differs from function to function.)
pub record Room (w at n : ℕ) (s : List ℕ) : Type 0 where
  pub width : w ≤ 4
  pub inside : at + n ≤ length s

-- the first record; a Call where there is none
abbrev pub head_of : List Record → Record
head_of [] = call empty_binding.var []
head_of (r ∷ rs) = r

-- n bytes from `at` are in the record at index i
pub record RoomIn (g : Frame) (i at n : ℕ) (s : List ℕ) : Type 0 where
  pub inside : at + n ≤ length (record_bytes g.id (head_of (drop i (records_in g s))))
