-- The record at an index, what follows it, and the identifiers that stand in it.
use Rattle.std.specs.Prelude.{ℕ, ◌≡◌, Bool, true, false, cond, List, [], ◌∷◌, ◌++◌, ◌+◌, eqb, get_or, drop, length}
use Rattle.std.proofs.Math.Option.{Option, none}
use Rattle.syntax.specs.Context.{empty_binding}
use Rattle.syntax.specs.declared.names.Identifier.{Identifier}
use Rattle.syntax.specs.declared.names.VarId.{VarId}
use Rattle.image_spec.specs.Fields.{list_bytes}
use Rattle.image_spec.specs.Records.{Record, definition, substitute, call, let', switch, create, invoke, literal, op, ifc, clause', print, exit}
use Rattle.image_spec.specs.Kinds.{kind_of, clauses_of, bodies}
use Rattle.image_directory.specs.declared.Frame.{Frame}
use Rattle.image_read_parts.specs.Parts.{list_of}
use Rattle.image_read_parts.specs.Indexed.{record_at, At}
use Rattle.image_read_parts.specs.Recorded.{record_in}
use Rattle.image_read_parts.specs.declared.record.RecordAt.{RecordAt}
use Rattle.image_kinds.specs.Codes.{code_of}
use Rattle.image_read_nodes.specs.declared.Follows.{Follows}

-- what is said to follow the record at index i: its clauses, then its bodies
pub record Followed (g : Frame) (s : List ℕ) (i : ℕ) (f : Follows) : Type 0 where
  pub at : At g s i (code_of f.kind)
  pub clauses : f.clauses ≡ clauses_of (record_at g s i)
  pub bodies : f.bodies ≡ bodies (kind_of (record_at g s i))

-- has a record of the kind a list as its tail?
abbrev pub has_list : ℕ → Bool
has_list k = get_or (false ∷ true ∷ false ∷ true ∷ true ∷ false ∷ false ∷ true ∷ false ∷ false ∷ false ∷ true ∷ []) k false

-- the record has a list, which stands at this place of the bytes
pub record ListAt (r : RecordAt) (at : ℕ) : Type 0 where
  pub list : has_list (code_of r.kind) ≡ true
  pub stands : drop at r.image.bytes.now ≡ list_bytes r.image.frame.id (list_of (record_in r)) ++ drop (at + length (list_bytes r.image.frame.id (list_of (record_in r)))) r.image.bytes.now

-- from place j on: this one, and those from the place behind on
pub record IsNext (xs : List VarId) (j : ℕ) (x : VarId) : Type 0 where
  pub is : drop j xs ≡ x ∷ drop (j + 1) xs

-- what stands for an identifier where there is none
abbrev pub no_identifier : Identifier
no_identifier = empty_binding.var

-- the first identifier of a record
abbrev pub first_of : Record → Identifier
first_of (definition x Γ) = x
first_of (substitute ps) = no_identifier
first_of (call x Γ) = x
first_of (let' v t g Γ) = v
first_of (switch v t n) = v
first_of (create v t e n) = v
first_of (invoke v g t Γ) = v
first_of (literal z v) = v
first_of (op f o s v) = f
first_of (ifc c f s) = f
first_of (clause' x Γ) = x
first_of (print n v) = v
first_of (exit v) = v

-- .. and where it stands
abbrev pub first_at : ℕ → ℕ
first_at k = cond (eqb k 8) 9 (cond (eqb k 10) 2 (cond (eqb k 12) 2 1))

-- the second operand of an Op
abbrev pub operand_of : Record → Identifier
operand_of (definition x Γ) = no_identifier
operand_of (substitute ps) = no_identifier
operand_of (call x Γ) = no_identifier
operand_of (let' v t g Γ) = no_identifier
operand_of (switch v t n) = no_identifier
operand_of (create v t e n) = no_identifier
operand_of (invoke v g t Γ) = no_identifier
operand_of (literal z v) = no_identifier
operand_of (op f o s v) = s
operand_of (ifc c f s) = no_identifier
operand_of (clause' x Γ) = no_identifier
operand_of (print n v) = no_identifier
operand_of (exit v) = no_identifier

-- the var of an Op
abbrev pub target_of : Record → Identifier
target_of (definition x Γ) = no_identifier
target_of (substitute ps) = no_identifier
target_of (call x Γ) = no_identifier
target_of (let' v t g Γ) = no_identifier
target_of (switch v t n) = no_identifier
target_of (create v t e n) = no_identifier
target_of (invoke v g t Γ) = no_identifier
target_of (literal z v) = no_identifier
target_of (op f o s v) = v
target_of (ifc c f s) = no_identifier
target_of (clause' x Γ) = no_identifier
target_of (print n v) = no_identifier
target_of (exit v) = no_identifier

-- the second operand of an IfC, if there is one
abbrev pub second_of : Record → Option Identifier
second_of (definition x Γ) = none
second_of (substitute ps) = none
second_of (call x Γ) = none
second_of (let' v t g Γ) = none
second_of (switch v t n) = none
second_of (create v t e n) = none
second_of (invoke v g t Γ) = none
second_of (literal z v) = none
second_of (op f o s v) = none
second_of (ifc c f s) = s
second_of (clause' x Γ) = none
second_of (print n v) = none
second_of (exit v) = none
