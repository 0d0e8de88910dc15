-- What stands before the body of a clause or of a definition.
use Rattle.std.specs.Prelude.{ℕ, ◌+◌, ◌≡◌, Bool, cond, ◌⊎◌, [], ◌∷◌, ◌++◌, length}
use Rattle.image_spec.specs.Records.{Record}
use Rattle.image_read_parts.specs.Parts.{list_of}
use Rattle.pass_work_spec.specs.Work.{Work, owns}
use Rattle.pass_step_spec.specs.Steps.{Step}

-- document 01, "The image": 1 definition, 11 clause. (The two of `IsHead` in image_shape, of which nothing else is used here.)
abbrev pub Enters : (kind : ℕ) → Type 0
Enters kind = (kind ≡ 1) ⊎ (kind ≡ 11)

-- document 01, "The Rust": the record stays as it is, and its parameters join the context, before it or behind it
unfoldable pub entering : Record → (before : Bool) → Work → (n m : ℕ) → Step
entering r before W n m = record {
  front = r ∷ [];
  context = cond before (owns n (list_of r) ++ W) (W ++ owns n (list_of r));
  in_scope_lem = n + length (list_of r);
  max_id = m;
}
