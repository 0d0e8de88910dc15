-- The bytes of the pairs of a struct. Assumes nothing.
use Prim.Native.Nat.{ℕ}
use mathlib.Core.List.{List}
use Rattle.image_spec.specs.Fields.{pair_bytes}
use Rattle.syntax_substitution.specs.declared.Pair.{Pair}
use Rattle.syntax_substitution.specs.Pairs.{parts_of}

-- the elements of a struct of pairs
abbrev pub stored_bytes : ℕ → Pair → List ℕ
stored_bytes w p = pair_bytes w (parts_of p)
