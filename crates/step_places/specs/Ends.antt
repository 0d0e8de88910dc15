-- The table of ends: for each record of a program the place behind the part that begins there.
use Rattle.std.specs.Prelude.{ℕ, zero, suc, ◌+◌, ◌≤◌, ◌<◌, ◌^◌, ◌≡◌, List, length, get_or}
use Rattle.model.specs.Syntax.{Stmt, Def}
use Rattle.image_spec.specs.Records.{Record}
use Rattle.image_spec.specs.Shape.{flatten}
use Rattle.image_places_spec.specs.Places.{Begins}
use Rattle.step_places.specs.Heads.{flatten_head}

-- the records of a part of a program: of a statement with its clauses and bodies, or of a definition or clause with its body
pub data Part : List Record → Type 0 where
  statement : (t : Stmt) → Part (flatten t)
  headed : (kind : ℕ) (e : Def) → Part (flatten_head kind e)

-- the place behind the part that begins at i. A place that the table does not have stays
abbrev pub behind : (ends : List ℕ) → ℕ → ℕ
behind ends i = get_or ends i i

-- the place behind n parts, one after the other, the first of which begins at i
unfoldable pub hops : (ends : List ℕ) (n : ℕ) → ℕ → ℕ
hops ends zero i = i
hops ends (suc n) i = hops ends n (behind ends i)

-- the table is right for every part that begins at `from` or later
pub record EndsFrom (from : ℕ) (rs : List Record) (ends : List ℕ) : Type 0 where
  pub end : (i : ℕ) (part : List Record) → from ≤ i → Part part → Begins rs i part → behind ends i ≡ i + length part

-- .. for every part
abbrev pub Ends : List Record → List ℕ → Type 0
Ends rs ends = EndsFrom 0 rs ends

-- what code answers for n hops. (It fits the table, where the place from which it hopped does.)
pub record Hopped (ends : List ℕ) (n from r : ℕ) : Type 0 where
  pub is : r ≡ hops ends n from
  pub small : from < 2 ^ 32 → r < 2 ^ 32
