-- Which branch an IfC takes: the operands' integers, and whether the comparison holds of them.
use Rattle.std.specs.Prelude.{Bool, List, ℤ, pos}
use Rattle.std.proofs.Math.Option.{Option, none, some}
use Rattle.syntax.specs.declared.names.Identifier.{Identifier}
use Rattle.syntax.specs.declared.ifc.IfSort.{IfSort}
use Rattle.model.specs.Integers.{holds}
use Rattle.step_slots.specs.Slots.{Slot}
use Rattle.step_entries.specs.Named.{named}
use Rattle.step_lookup.specs.Integer.{integer_in, of_both}

-- document 01: IfC without snd compares with 0
unfoldable pub second_in : List Slot → Option Identifier → Option ℤ
second_in entries none = some (pos 0)
second_in entries (some x) = integer_in (named x.id.0 entries)

-- does the comparison hold? Nothing where one operand has no integer
abbrev pub choice : IfSort → (fst snd : Option ℤ) → Option Bool
choice sort = of_both (λ (x y : ℤ). some (holds sort x y))
