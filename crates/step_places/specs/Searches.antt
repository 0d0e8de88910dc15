-- What a search for a clause or a definition answers: the place of its record, which is a head, with its body behind it.
use Rattle.std.specs.Prelude.{ℕ, ◌+◌, ◌≡◌, Bool, false, ◌&&◌, Option, Some, None, List, [], ◌∷◌, eqb, drop}
use Rattle.std.proofs.Math.Option.{Option as Optional, none, some}
use Rattle.syntax.specs.Context.{Context}
use Rattle.syntax.specs.Names.{same_name}
use Rattle.syntax.specs.declared.names.Name.{Name}
use Rattle.syntax.specs.declared.names.Identifier.{Identifier}
use Rattle.model.specs.Syntax.{Stmt, Clauses, Def}
use Rattle.model.specs.Machine.{nth, find_def, find_clause_lem}
use Rattle.image_spec.specs.Records.{Record}
use Rattle.image_spec.specs.Kinds.{kind_of}
use Rattle.image_places_spec.specs.Places.{StmtStands, ClausesStand}
use Rattle.image_directory.specs.declared.Frame.{Frame}
use Rattle.image_directory.specs.Slots.{records_in}
use Rattle.image_read_parts.specs.Standing.{head_of}
use Rattle.image_read_nodes.specs.Nodes as nodes
use Rattle.image_read_parts.specs.Indexed.{At}
use Rattle.scope_check.specs.Definitions.{DefsStand}
use Rattle.step_spec.specs.Located.{clause_place, label_place, definition_place}
use Rattle.step_places.specs.Heads.{head_record, HeadsStand}

-- a tag or label as the code has it
abbrev pub name_of : ℕ → Name
name_of n = record { 0 = n }

-- is the first of these records of this kind, and has it this name?
abbrev pub is_named_lem : (kind : ℕ) → Name → List Record → Bool
is_named_lem k f [] = false
is_named_lem k f (r ∷ rs) = eqb (kind_of r) k && same_name f (nodes.first_of r).name

-- what is to be found, if anything, and the answer: the place of its head, so that its body is at `place`
pub data Finds {A : Type 0} (context_of : A → Context) (body_of : A → Stmt) (kind d : ℕ) (rs : List Record) (place : ℕ) : Optional A → Option ℕ → Type 0 where
  absent : Finds context_of body_of kind d rs place none None
  found : {a : A} {j : ℕ} (x : Identifier) → head_of (drop j rs) ≡ head_record kind x (context_of a) → StmtStands d rs (j + 1) (body_of a) → j + 1 ≡ place
      → Finds context_of body_of kind d rs place (some a) (Some j)

abbrev pub FindsDef : (kind d : ℕ) → List Record → (place : ℕ) → Optional Def → Option ℕ → Type 0
FindsDef = Finds (λ e. e.context) (λ e. e.body)

-- the answer, if it is a place, is that of a record of this kind: of every image, also where the records are no program's
abbrev pub PlaceOf : Frame → List ℕ → (kind : ℕ) → Option ℕ → Type 0
PlaceOf g s k r = (j : ℕ) → r ≡ Some j → At g s j k

-- the answer for the first with this name of the n heads from i on
pub record FindsHead (g : Frame) (s : List ℕ) (kind n i name : ℕ) (r : Option ℕ) : Type 0 where
  pub at : PlaceOf g s kind r
  pub finds : (d : ℕ) (es : List Def) → HeadsStand kind d n (records_in g s) i es → FindsDef kind d (records_in g s) (label_place (name_of name) es i) (find_def (name_of name) es) r

-- .. for the first with this tag of the n clauses from i on
pub record FindsClause (g : Frame) (s : List ℕ) (n i tag : ℕ) (r : Option ℕ) : Type 0 where
  pub at : PlaceOf g s 11 r
  pub finds : (d : ℕ) (cs : Clauses) → ClausesStand d n (records_in g s) i cs
      → Finds (λ c. c.0) (λ c. c.1) 11 d (records_in g s) (clause_place (name_of tag) cs i) (find_clause_lem (name_of tag) cs) r

-- .. for the first with this label of the n definitions
pub record FindsLabel (g : Frame) (s : List ℕ) (n label : ℕ) (r : Option ℕ) : Type 0 where
  pub at : PlaceOf g s 1 r
  pub finds : (d : ℕ) (es : List Def) → DefsStand d n (records_in g s) 0 es → FindsDef 1 d (records_in g s) (label_place (name_of label) es 0) (find_def (name_of label) es) r

-- .. for the one at place k of the n definitions
pub record FindsDefinition (g : Frame) (s : List ℕ) (n k : ℕ) (r : Option ℕ) : Type 0 where
  pub at : PlaceOf g s 1 r
  pub finds : (d : ℕ) (es : List Def) → DefsStand d n (records_in g s) 0 es → FindsDef 1 d (records_in g s) (definition_place k es 0) (nth k es) r
