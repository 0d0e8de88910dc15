-- A program has as many flat records as `records` counts: `flatten-length`, `flatten_defs-length`. Assumes nothing.
use Prim.Native.Nat.{suc}
use mathlib.Core.List.{List, [], ◌∷◌}
use mathlib.Core.Path.{◌≡◌, refl, ap, ◌∙◌}
use lib.ListN.{length, length-append}
use Rattle.model.specs.Syntax.{Stmt, Substitute, Call, Let, Switch, Create, Invoke, Literal, Op, IfC, PrintI64, Exit, Clauses, end, clause, Def}
use Rattle.model.specs.Sizes.{records, records_clauses, records_defs}
use Rattle.image_spec.specs.Shape.{flatten, flatten_clauses, flatten_defs}

mutual
  unfolding flatten records

  pub flatten-length : (s : Stmt) → length (flatten s) ≡ records s
  flatten-length (Substitute ps next) = ap suc (flatten-length next)
  flatten-length (Call label args) = refl
  flatten-length (Let var ty tag args next) = ap suc (flatten-length next)
  flatten-length (Switch var ty cs) = ap suc (flatten_clauses-length cs)
  flatten-length (Create var ty env cs next) = ap suc (length-append (flatten_clauses cs) (flatten next) ∙ rw (flatten_clauses-length cs, flatten-length next))
  flatten-length (Invoke var tag ty args) = refl
  flatten-length (Literal lit var next) = ap suc (flatten-length next)
  flatten-length (Op fst op snd var next) = ap suc (flatten-length next)
  flatten-length (IfC sort fst snd thenc elsec) = ap suc (length-append (flatten thenc) (flatten elsec) ∙ rw (flatten-length thenc, flatten-length elsec))
  flatten-length (PrintI64 newline var next) = ap suc (flatten-length next)
  flatten-length (Exit var) = refl

  pub flatten_clauses-length : (cs : Clauses) → length (flatten_clauses cs) ≡ records_clauses cs
  flatten_clauses-length end = refl
  flatten_clauses-length (clause xtor context body others) =
      ap suc (length-append (flatten body) (flatten_clauses others) ∙ rw (flatten-length body, flatten_clauses-length others))

pub flatten_defs-length : (ds : List Def) → length (flatten_defs ds) ≡ records_defs ds
unfolding flatten_defs
flatten_defs-length [] = refl
flatten_defs-length (d ∷ ds) = ap suc (length-append (flatten d.body) (flatten_defs ds) ∙ rw (flatten-length d.body, flatten_defs-length ds))
