-- How much a step writes before the clauses: records and bytes, from the record and the context alone. Only how many bindings there are
-- counts, so this is known before the clauses are linearized. w is the number of bytes of an ID.
use Rattle.std.specs.Prelude.{ℕ, ◌+◌, ◌*◌, Bool, cond, List, [], ◌∷◌, ◌++◌, length}
use Rattle.std.proofs.Math.Option.{Option, none, some}
use Rattle.syntax.specs.Context.{Context, same_context}
use Rattle.syntax.specs.declared.names.VarId.{VarId}
use Rattle.syntax.specs.declared.names.Identifier.{Identifier}
use Rattle.syntax.specs.declared.context.Chirality.TheVariants.{Prd, Cns}
use Rattle.model.specs.Rules.{bind}
use Rattle.image_spec.specs.Kinds.{kind_of, fixed}
use Rattle.image_spec.specs.Records.{Record, definition, substitute, call, let', switch, create, invoke, literal, op, ifc, clause', print, exit}
use Rattle.pass_work_spec.specs.Work.{Work, bindings, used, used_all_lem, kept}
use Rattle.pass_step_spec.specs.Steps.{environment}

-- the wanted list. A record that wants nothing has the context as it is.
unfoldable pub wanted : Record → (freeClauses freeNext : List VarId) → Work → Context
wanted (definition x Γ) fc fn W = bindings W
wanted (substitute ps) fc fn W = bindings W
wanted (call label args) fc fn W = used_all_lem W args
wanted (let' var ty tag args) fc fn W = bindings (kept fn W) ++ used_all_lem W args
wanted (switch var ty clauses) fc fn W = bindings (kept fc W) ++ (bind (used W var) Prd ty ∷ [])
wanted (create var ty env clauses) fc fn W = bindings (kept fn W) ++ bindings (environment fc fn W)
wanted (invoke var tag ty args) fc fn W = used_all_lem W args ++ (bind (used W var) Cns ty ∷ [])
wanted (literal lit var) fc fn W = bindings (kept fn W)
wanted (op fst o snd var) fc fn W = bindings (kept (fst.id ∷ snd.id ∷ fn) W)
wanted (ifc sort fst snd) fc fn W = bindings W
wanted (clause' x Γ) fc fn W = bindings W
wanted (print newline var) fc fn W = bindings (kept (var.id ∷ fn) W)
wanted (exit var) fc fn W = bindings W

-- does the context not differ from the wanted list?
unfoldable pub right_of : Record → (freeClauses freeNext : List VarId) → Work → Bool
right_of r fc fn W = same_context (bindings W) (wanted r fc fn W)

-- the Substitute, if there is one, and the record
unfoldable pub front_records : Record → (freeClauses freeNext : List VarId) → Work → ℕ
front_records r fc fn W = cond (right_of r fc fn W) 1 2

-- ── bytes ──

module _ (w : ℕ) where
  -- document 01, "The image": List: count byte, bindings; a binding has 10 bytes, of which four are of IDs
  abbrev pub list_size : (count : ℕ) → ℕ
  list_size k = 1 + k * (6 + (w + w))

  -- document 01, "The image": 2 Substitute: count byte, pairs of binding and identifier
  abbrev pub pairs_size : (count : ℕ) → ℕ
  pairs_size k = 1 + k * (8 + (w + (w + w)))

  -- document 01, "The image": mark byte, snd if the mark is 1
  abbrev pub option_size : Option Identifier → ℕ
  option_size none = 1
  option_size (some x) = 3 + w

  -- what follows the fixed part of the record that is written
  unfoldable pub tail_size : Record → (freeClauses freeNext : List VarId) → Work → ℕ
  tail_size (definition x Γ) fc fn W = list_size (length Γ)
  tail_size (substitute ps) fc fn W = pairs_size (length ps)
  tail_size (call label args) fc fn W = list_size 0
  tail_size (let' var ty tag args) fc fn W = list_size (length args)
  tail_size (switch var ty clauses) fc fn W = 1
  tail_size (create var ty env clauses) fc fn W = 1 + (list_size (length (environment fc fn W)) + 1)
  tail_size (invoke var tag ty args) fc fn W = list_size 0
  tail_size (literal lit var) fc fn W = 0
  tail_size (op fst o snd var) fc fn W = 0
  tail_size (ifc sort fst snd) fc fn W = option_size snd
  tail_size (clause' x Γ) fc fn W = list_size (length Γ)
  tail_size (print newline var) fc fn W = 0
  tail_size (exit var) fc fn W = 0

  -- the bytes of the Substitute, if there is one, and of the record
  unfoldable pub front_bytes : Record → (freeClauses freeNext : List VarId) → Work → ℕ
  front_bytes r fc fn W = cond (right_of r fc fn W) 0 (1 + pairs_size (length (wanted r fc fn W))) + (fixed w (kind_of r) + tail_size r fc fn W)
