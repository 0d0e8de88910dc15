-- Free variables and annotations (traits/free_vars.rs and the `free_vars` of each statement). A set is a list in which an ID may stand twice.
use Rattle.std.specs.Prelude.{cond, List, [], ◌∷◌, ◌++◌, ltb}
use Rattle.std.proofs.Math.Option.{Option, none, some}
use Rattle.syntax.specs.Names.{same_var_id}
use Rattle.syntax.specs.Context.{ids}
use Rattle.syntax.specs.Sets.{without}
use Rattle.syntax.specs.declared.names.VarId.{VarId}
use Rattle.syntax.specs.declared.names.Identifier.{Identifier}
use Rattle.syntax.specs.declared.context.ContextBinding.{ContextBinding}
use Rattle.model.specs.Syntax.{Stmt, Clauses, Substitute, Call, Let, Switch, Create, Invoke, Literal, Op, IfC, PrintI64, Exit, end, clause}

-- the ID of an optional variable
abbrev pub optional_id : Option Identifier → List VarId
optional_id none = []
optional_id (some x) = x.id ∷ []

-- substitute.rs: each pair in turn adds its source and then removes its target
abbrev pub free_pairs : List (ContextBinding × Identifier) → List VarId → List VarId
free_pairs [] s = s
free_pairs (p ∷ ps) s = free_pairs ps (without (p.1.id ∷ s) (p.0.var.id ∷ []))

unfoldable mutual
  pub free_vars : Stmt → List VarId
  free_vars (Substitute ps next) = free_pairs ps (free_vars next)
  free_vars (Call label args) = ids args
  free_vars (Let var ty tag args next) = without (free_vars next) (var.id ∷ []) ++ ids args
  free_vars (Switch var ty cs) = var.id ∷ free_vars_clauses cs
  free_vars (Create var ty env cs next) = without (free_vars next) (var.id ∷ []) ++ free_vars_clauses cs
  free_vars (Invoke var tag ty args) = var.id ∷ ids args
  free_vars (Literal lit var next) = without (free_vars next) (var.id ∷ [])
  free_vars (Op fst op snd var next) = fst.id ∷ snd.id ∷ without (free_vars next) (var.id ∷ [])
  free_vars (IfC sort fst snd thenc elsec) = fst.id ∷ optional_id snd ++ (free_vars thenc ++ free_vars elsec)
  free_vars (PrintI64 newline var next) = var.id ∷ free_vars next
  free_vars (Exit var) = var.id ∷ []

  -- clause.rs: what a body has free, without the clause's parameters
  pub free_vars_clauses : Clauses → List VarId
  free_vars_clauses end = []
  free_vars_clauses (clause xtor context body rest) = without (free_vars body) (ids context) ++ free_vars_clauses rest

-- document 01, "The image": an annotation is a two-byte count and the IDs ascending. The members of a set, each once, ascending:
abbrev pub insert : VarId → List VarId → List VarId
insert x [] = x ∷ []
insert x (y ∷ s) = cond (ltb x.0 y.0) (x ∷ y ∷ s) (cond (same_var_id x y) (y ∷ s) (y ∷ insert x s))

abbrev pub ascending : List VarId → List VarId
ascending [] = []
ascending (x ∷ s) = insert x (ascending s)

-- the annotations of a statement: document 01, question 13: one with an annotation (Let, Switch, Create, Literal, Op);
-- document 02, A.1: PrintI64 carrying an annotation;
-- "The image": Create's is that of its clauses, then that of its next
unfoldable pub annotations : Stmt → List (List VarId)
annotations (Substitute ps next) = []
annotations (Call label args) = []
annotations (Let var ty tag args next) = ascending (free_vars next) ∷ []
annotations (Switch var ty cs) = ascending (free_vars_clauses cs) ∷ []
annotations (Create var ty env cs next) = ascending (free_vars_clauses cs) ∷ ascending (free_vars next) ∷ []
annotations (Invoke var tag ty args) = []
annotations (Literal lit var next) = ascending (free_vars next) ∷ []
annotations (Op fst op snd var next) = ascending (free_vars next) ∷ []
annotations (IfC sort fst snd thenc elsec) = []
annotations (PrintI64 newline var next) = ascending (free_vars next) ∷ []
annotations (Exit var) = []
