-- The tag of a record, which kinds have one, and where it stands. w is the number of bytes of an ID.
use Rattle.std.specs.Prelude.{ℕ, ◌+◌, Bool, true, false, cond, [], ◌∷◌, eqb, get_or}
use Rattle.syntax.specs.declared.names.Identifier.{Identifier}
use Rattle.image_spec.specs.Records.{Record, definition, substitute, call, let', switch, create, invoke, literal, op, ifc, clause', print, exit}
use Rattle.image_read_nodes.specs.Nodes.{no_identifier}

-- has a record of the kind a tag?
abbrev pub has_tag : ℕ → Bool
has_tag k = get_or (false ∷ false ∷ false ∷ false ∷ true ∷ false ∷ false ∷ true ∷ []) k false

-- the tag of a Let or an Invoke
abbrev pub tag_in : Record → Identifier
tag_in (definition x Γ) = no_identifier
tag_in (substitute ps) = no_identifier
tag_in (call x Γ) = no_identifier
tag_in (let' v t g Γ) = g
tag_in (switch v t n) = no_identifier
tag_in (create v t e n) = no_identifier
tag_in (invoke v g t Γ) = g
tag_in (literal z v) = no_identifier
tag_in (op f o s v) = no_identifier
tag_in (ifc c f s) = no_identifier
tag_in (clause' x Γ) = no_identifier
tag_in (print n v) = no_identifier
tag_in (exit v) = no_identifier

-- .. and where it stands: behind var and type, or behind var
abbrev pub tag_at : (w k : ℕ) → ℕ
tag_at w k = cond (eqb k 4) (6 + (w + w)) (3 + w)
