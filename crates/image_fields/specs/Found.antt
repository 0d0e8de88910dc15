-- Where a parser stops: the place of what is left, or none where it refuses. Over any symbols: bytes, and records.
use Rattle.std.specs.Prelude.{ℕ, ◌-◌, List, Bool, true, false, cond, eqb, leb, ltb, length, drop, get_or, Option, Some, None}
use Rattle.image_spec.specs.Parse.{Parsed, refused, got, Parser}

abbrev pub found_in : {X A : Type 0} → ℕ → Parsed X A → Option ℕ
found_in n refused = None
found_in n (got a m) = Some (n - length m)

-- where p stops in s, begun at a place; none where that is past the end
unfoldable pub stop : {X A : Type 0} → Parser X A → List X → ℕ → Option ℕ
stop p s at = cond (leb at (length s)) (found_in (length s) (p (drop at s))) None

-- document 01, "The image": the mark at a place says whether something follows; none where no mark is there
abbrev pub mark_at : List ℕ → ℕ → Option Bool
mark_at s at = cond (ltb at (length s)) (cond (eqb (get_or s at 0) 0) (Some false) (cond (eqb (get_or s at 0) 1) (Some true) None)) None
