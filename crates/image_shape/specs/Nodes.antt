-- The records of an image as the walk over them sees them: kind, number of clauses, and what follows.
use Rattle.std.specs.Prelude.{ℕ, ◌+◌, List, [], ◌∷◌, ◌≡◌, ◌⊎◌, cond, eqb, drop, Option, Some, None}
use Rattle.syntax.specs.Context.{Context}
use Rattle.syntax.specs.declared.names.Identifier.{Identifier}
use Rattle.image_spec.specs.Parse.{Parser}
use Rattle.image_spec.specs.Records.{Record}
use Rattle.image_spec.specs.Kinds.{clauses_of, bodies}
use Rattle.image_kinds.specs.Codes.{code_of, named_kind}
use Rattle.image_spec.specs.Shape.{clause_head, definition_head}
use Rattle.image_shape.specs.declared.Node.{Node}
use Rattle.image_shape.specs.declared.Parts.{Parts}

-- the first record
abbrev pub node_of : List Record → Option Node
node_of [] = None
node_of (r ∷ rs) = Some (record { kind = named_kind r; clauses = clauses_of r })

-- the kinds of a record with one body and no more: of a definition and of a clause. (Asked of a `Kind`: a type of the two would be turned into one again.)
abbrev pub IsHead : ℕ → Type 0
IsHead k = (k ≡ 1) ⊎ (k ≡ 11)

abbrev pub head_parser : ℕ → Parser Record (Identifier × Context)
head_parser k = cond (eqb k 1) definition_head clause_head

-- the parts of the statement whose record is at a place, where there is one
abbrev pub parts_of : ℕ → Option Node → Option Parts
parts_of i None = None
parts_of i (Some n) = cond (eqb (code_of n.kind) 1) None (cond (eqb (code_of n.kind) 11) None (Some (record { clauses = n.clauses; bodies = bodies (code_of n.kind); next = i + 1 })))

unfoldable pub parts_at : List Record → ℕ → Option Parts
parts_at rs i = parts_of i (node_of (drop i rs))
