-- The sorts of slots by their bytes.
use Rattle.std.specs.Prelude.{ℕ, ◌≡◌, ◌≤◌, Option, Some, None, Result, MatchResult}
use Rattle.syntax.specs.declared.codes.NoCode.{NoCode}
use Rattle.step_slots.specs.declared.sort.Sort.{Sort}
use Rattle.step_slots.specs.declared.sort.Sort.TheVariants.{Integer, Cell, Outside, LetCell, CreateCell}

-- byte 0 of a slot: 0 an integer, 1 a cell, 2 an outside number, 3 a cell of a Let, 4 a cell of a Create
abbrev pub sort_code : Sort → ℕ
sort_code Integer = 0
sort_code Cell = 1
sort_code Outside = 2
sort_code LetCell = 3
sort_code CreateCell = 4

-- .. where there is one
abbrev pub own_code : Option Sort → ℕ
own_code None = 0
own_code (Some s) = sort_code s

-- the result is the sort with this byte, or an error with a byte that no sort has
abbrev pub Decodes : ℕ → Result Sort NoCode → Type 0
Decodes code r = MatchResult r (λ s. sort_code s ≡ code) (λ e. (e.0 ≡ code) × (5 ≤ code))
