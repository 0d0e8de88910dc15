-- Definitions and clauses in one form: a head, which is a record with a name and a context, and behind it a body.
use Rattle.std.specs.Prelude.{ℕ, ◌≤◌, ◌≡◌, cond, List, [], ◌∷◌, eqb, length}
use Rattle.syntax.specs.Context.{Context}
use Rattle.syntax.specs.declared.names.Identifier.{Identifier}
use Rattle.model.specs.Syntax.{Clauses, end, clause, Def}
use Rattle.model.specs.Sizes.{depth}
use Rattle.image_spec.specs.Parse.{each, All}
use Rattle.image_spec.specs.Records.{Record, definition, clause'}
use Rattle.image_spec.specs.Shape.{flatten}
use Rattle.image_places_spec.specs.Places.{Begins}

-- the record of a definition where the kind is 1, else of a clause (whose kind is 11)
abbrev pub head_record : (kind : ℕ) → Identifier → Context → Record
head_record k x Γ = cond (eqb k 1) (definition x Γ) (clause' x Γ)

-- .. and the records of its body
abbrev pub flatten_head : (kind : ℕ) → Def → List Record
flatten_head k e = head_record k e.name e.context ∷ flatten e.body

-- clauses in the form of definitions
unfoldable pub heads_in : Clauses → List Def
heads_in end = []
heads_in (clause x Γ body rest) = record { name = x; context = Γ; body = body } ∷ heads_in rest

-- n heads of a kind stand from i on, with bodies at most d deep
pub record HeadsStand (kind d n : ℕ) (rs : List Record) (i : ℕ) (es : List Def) : Type 0 where
  pub begins : Begins rs i (each (flatten_head kind) es)
  pub shallow : All (λ (e : Def). depth e.body ≤ d) es
  pub count : length es ≡ n
