-- What stands behind the record at an index: its clauses and its bodies. Assumes nothing.
use Prim.Native.Nat.{ℕ, ◌+◌, ◌-◌}
use mathlib.Core.Path.{◌≡◌, ap}
use mathlib.Core.List.{List}
use lib.ListN.{length, drop}
use Rattle.model.specs.Syntax.{Clauses}
use Rattle.image_spec.specs.Records.{Record}
use Rattle.image_spec.specs.Kinds.{kind_of, clauses_of, bodies}
use Rattle.image_spec.specs.Shape.{flatten_clauses}
use Rattle.image_read_parts.specs.Standing.{head_of}
use Rattle.image_places_spec.specs.Views.{record_of}
use Rattle.image_places_spec.specs.Places.{stmt_at, clauses_at, bodies_at, StmtStands}
use Rattle.image_places_spec.proofs.PlaceLaws.{stmt-parts}
use Rattle.image_places_spec.proofs.Steps.{Above, above, Below, below, ClauseNext}

-- what stands behind the record at i
module _ (d : ℕ) (rs : List Record) (i : ℕ) (h : StmtStands d rs i (stmt_at d rs i)) where
  pub head_is : head_of (drop i rs) ≡ record_of (stmt_at d rs i)
  head_is = ap head_of (stmt-parts h).head

  pub above_at : (n : ℕ) → n ≡ clauses_of (head_of (drop i rs)) → Above d rs i n (stmt_at d rs i) (clauses_at (d - 1) n rs (i + 1))
  above_at = above d rs i h (head_of (drop i rs)) head_is

  pub below_at : (n m next : ℕ) → n ≡ clauses_of (head_of (drop i rs)) → m ≡ bodies (kind_of (head_of (drop i rs))) → next ≡ i + 1 + length (flatten_clauses (clauses_at (d - 1) n rs (i + 1)))
      → Below d rs i n m next (stmt_at d rs i) (head_of (drop i rs)) (clauses_at (d - 1) n rs (i + 1)) (bodies_at (d - 1) m rs next)
  below_at = below d rs i h (head_of (drop i rs)) head_is

-- the first record of clauses is a clause's
pub clause-kind : {d : ℕ} {rs : List Record} {place left here : ℕ} {P : Clauses → Type 0} → ClauseNext d rs place left here P → kind_of (head_of (drop here rs)) ≡ 11
clause-kind n = ap (λ (l : List Record). kind_of (head_of l)) n.head
