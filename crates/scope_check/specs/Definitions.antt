-- The definitions that an image's records are, and definitions that stand at a place of the records.
use Rattle.std.specs.Prelude.{ℕ, ◌≤◌, ◌≡◌, List, [], length}
use Rattle.model.specs.Syntax.{Def}
use Rattle.model.specs.Sizes.{depth}
use Rattle.image_spec.specs.Parse.{All}
use Rattle.image_spec.specs.Records.{Record}
use Rattle.image_spec.specs.Image.{if_some}
use Rattle.image_spec.specs.Shape.{flatten_defs, DefOk, definitions}
use Rattle.image_places_spec.specs.Places.{Begins}

unfoldable pub defs_in : ℕ → List Record → List Def
defs_in d rs = if_some (definitions d rs) [] (λ ds. ds)

-- n definitions stand at i, with bodies at most d deep
pub record DefsStand (d n : ℕ) (rs : List Record) (i : ℕ) (ds : List Def) : Type 0 where
  pub begins : Begins rs i (flatten_defs ds)
  pub shallow : All (λ (e : Def). depth e.body ≤ d) ds
  pub count : length ds ≡ n

-- the records are d definitions that question 5 lets pass, and nothing more.
pub record Defined (d : ℕ) (rs : List Record) : Type 0 where
  pub is : rs ≡ flatten_defs (defs_in d rs)
  pub shallow : All DefOk (defs_in d rs)
  pub count : length (defs_in d rs) ≡ d
