-- The places of entries: the scope in the order of binding has an entry's source at the entry's place. And room: under question 7 this holds,
-- with at most 64 variables in scope, at every statement that the pass comes to.
use Rattle.std.specs.Prelude.{ℕ, ◌+◌, ◌≤◌, ◌<◌, ◌≡◌, Bool, true, false, cond, length, get_or}
use mathlib.Core.List.{List, [], ◌∷◌, ◌++◌, Memᴰ}
use Rattle.syntax.specs.Context.{Context, ids}
use Rattle.syntax.specs.declared.names.VarId.{VarId}
use Rattle.syntax.specs.declared.context.Chirality.TheVariants.{Prd, Cns, Ext}
use Rattle.syntax.specs.declared.types.Ty.TheVariants.{I64}
use Rattle.model.specs.Syntax.{Stmt, Clauses, Substitute, Call, Let, Switch, Create, Invoke, Literal, Op, IfC, PrintI64, Exit, end, clause, Def}
use Rattle.model.specs.FreeVars.{free_vars, free_vars_clauses}
use Rattle.model.specs.Rules.{bind}
use Rattle.pass_work_spec.specs.declared.Entry.{Entry}
use Rattle.pass_work_spec.specs.Work.{Work, own, owns, kept, moved_behind, respelled_unless}

-- the entry's place is in the scope Δ, and its source stands there
pub record PlacedAt (Δ : List VarId) (e : Entry) : Type 0 where
  pub below : e.place < length Δ
  pub source : (d : VarId) → get_or Δ e.place d ≡ e.source

-- each entry's is, and there are no more entries than variables in scope
pub record Placed (Δ : List VarId) (W : Work) : Type 0 where
  pub fits : length W ≤ length Δ
  pub each : (e : Entry) → Memᴰ e W → PlacedAt Δ e

-- with n variables in scope. document 01, question 7: 64 bindings in scope
pub record Fits (Δ : List VarId) (W : Work) (n : ℕ) : Type 0 where
  pub placed : Placed Δ W
  pub count : length Δ ≡ n
  pub room : n ≤ 64

-- the context at work fits at the statement and at every statement below it: each part with the context that its rule gives it,
-- whatever names are drawn
unfoldable mutual
  pub AllFit : Stmt → (Δ : List VarId) → Work → (n : ℕ) → Type 0
  AllFit (Substitute ps next) Δ W n = Fits Δ W n
  AllFit (Call label args) Δ W n = Fits Δ W n
  AllFit (Let var ty tag args next) Δ W n = Fits Δ W n × AllFit next (Δ ++ (var.id ∷ [])) (kept (free_vars next) W ++ (own n (bind var Prd ty) ∷ [])) (n + 1)
  AllFit (Switch var ty cs) Δ W n = Fits Δ W n × AllFitClauses cs false Δ (kept (free_vars_clauses cs) W) n
  AllFit (Create var ty env cs next) Δ W n =
      Fits Δ W n
      × AllFitClauses cs true Δ (kept (free_vars_clauses cs) (moved_behind (length (kept (free_vars next) W)) W)) n
      × ((right : Bool) (freshened : Context) → AllFit next (Δ ++ (var.id ∷ [])) (respelled_unless right (kept (free_vars next) W) freshened ++ (own n (bind var Cns ty) ∷ [])) (n + 1))
  AllFit (Invoke var tag ty args) Δ W n = Fits Δ W n
  AllFit (Literal lit var next) Δ W n = Fits Δ W n × AllFit next (Δ ++ (var.id ∷ [])) (kept (free_vars next) W ++ (own n (bind var Ext I64) ∷ [])) (n + 1)
  AllFit (Op fst op snd var next) Δ W n = Fits Δ W n × AllFit next (Δ ++ (var.id ∷ [])) (kept (fst.id ∷ snd.id ∷ free_vars next) W ++ (own n (bind var Ext I64) ∷ [])) (n + 1)
  AllFit (IfC sort fst snd thenc elsec) Δ W n = Fits Δ W n × AllFit thenc Δ W n × AllFit elsec Δ W n
  AllFit (PrintI64 newline var next) Δ W n = Fits Δ W n × AllFit next Δ (kept (var.id ∷ free_vars next) W) n
  AllFit (Exit var) Δ W n = Fits Δ W n

  pub AllFitClauses : Clauses → (before : Bool) → (Δ : List VarId) → Work → (n : ℕ) → Type 0
  AllFitClauses end before Δ W n = Fits Δ W n
  AllFitClauses (clause xtor context body rest) before Δ W n =
      AllFit body (Δ ++ ids context) (cond before (owns n context ++ W) (W ++ owns n context)) (n + length context) × AllFitClauses rest before Δ W n

-- of each definition
abbrev pub AllFitDefs : List Def → Type 0
AllFitDefs [] = Unit {0}
AllFitDefs (d ∷ ds) = AllFit d.body (ids d.context) (owns 0 d.context) (length d.context) × AllFitDefs ds
