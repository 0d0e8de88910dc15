-- Are the IDs that a statement shows in order? By its record. (proofs/OrderlyLaws.antt: it is the linear machine's `in_order_lem`.)
use Rattle.std.specs.Prelude.{ℕ, ◌-◌, ◌≡◌, Bool, true, false, ◌&&◌, List, [], ◌∷◌, ◌++◌, length}
use Rattle.std.proofs.Math.Option.{none, some}
use Rattle.syntax.specs.Sets.{distinct}
use Rattle.syntax.specs.Context.{ids}
use Rattle.syntax.specs.declared.names.VarId.{VarId}
use Rattle.model.specs.FreeVars.{optional_id}
use Rattle.model.specs.Linear.{before_last, ends_in_lem, present, targets, sources}
use Rattle.image_spec.specs.Records.{Record, definition, substitute, call, let', switch, create, invoke, literal, op, ifc, clause', print, exit}
use Rattle.step_rows.specs.declared.places.Places.{Places}
use Rattle.step_rows.specs.declared.row.Row.{Row}

-- can the ID come behind those of the list?
abbrev pub added : List VarId → VarId → Bool
added l x = distinct (l ++ (x ∷ []))

-- are the IDs the last of the list, and can the ID come in their place?
abbrev pub replaced : (last : List VarId) → List VarId → VarId → Bool
replaced xs l x = ends_in_lem xs l && added (before_last (length xs) l) x

-- are the IDs that the statement with this record shows in order, where the list has the IDs l? What is no statement's is not
unfoldable pub orderly : Record → (l : List VarId) → Bool
orderly (definition x Γ) l = false
orderly (substitute ps) l = distinct (targets ps) && present (sources ps) l
orderly (call x Γ) l = true
orderly (let' v t g Γ) l = replaced (ids Γ) l v.id
orderly (switch v t n) l = ends_in_lem (v.id ∷ []) l
orderly (create v t none n) l = false
orderly (create v t (some Γ) n) l = replaced (ids Γ) l v.id
orderly (invoke v g t Γ) l = ends_in_lem (v.id ∷ []) l
orderly (literal z v) l = added l v.id
orderly (op f o s v) l = present (f.id ∷ s.id ∷ []) l && added l v.id
orderly (ifc c f s) l = present (f.id ∷ optional_id s) l
orderly (clause' x Γ) l = false
orderly (print n v) l = present (v.id ∷ []) l
orderly (exit v) l = present (v.id ∷ []) l

-- places without the last k
abbrev pub front_of : Places → (k : ℕ) → Places
front_of p k = record { from = p.from; stride = p.stride; offset = p.offset; width = p.width; len = p.len - k }

-- the row is the other one without its last k
pub record IsFront (row : Row) (k : ℕ) (front : Row) : Type 0 where
  pub bytes : front.bytes.now ≡ row.bytes.now
  pub places : front.places ≡ front_of row.places k
