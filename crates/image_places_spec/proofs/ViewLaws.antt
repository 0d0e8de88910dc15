-- A statement's records are its own, those of its clauses and those of its bodies. Assumes nothing.
use Prim.Native.Nat.{ℕ, ◌-◌, ◌≤◌, ◌<◌}
use mathlib.Core.Path.{◌≡◌, refl}
use mathlib.Core.List.{◌∷◌, ◌++◌, append-nil}
use native.Mathlib.Omega.{arith}
use lib.ListN.{length}
use Rattle.model.specs.Syntax.{Stmt, Substitute, Call, Let, Switch, Create, Invoke, Literal, Op, IfC, PrintI64, Exit}
use Rattle.model.specs.Sizes.{depth, depth_clauses, count_clauses}
use Rattle.image_spec.specs.Parse.{each, All}
use Rattle.image_spec.specs.Kinds.{kind_of, clauses_of, bodies}
use Rattle.image_spec.specs.Shape.{flatten, flatten_clauses}
use Rattle.image_places_spec.specs.Views.{record_of, clauses_in, bodies_of}

pub flatten-view : (t : Stmt) → flatten t ≡ record_of t ∷ (flatten_clauses (clauses_in t) ++ each flatten (bodies_of t))
unfolding flatten
flatten-view (Substitute ps next) = rw append-nil refl
flatten-view (Call label args) = refl
flatten-view (Let var ty tag args next) = rw append-nil refl
flatten-view (Switch var ty cs) = rw append-nil refl
flatten-view (Create var ty env cs next) = rw append-nil refl
flatten-view (Invoke var tag ty args) = refl
flatten-view (Literal lit var next) = rw append-nil refl
flatten-view (Op fst o snd var next) = rw append-nil refl
flatten-view (IfC sort fst snd thenc elsec) = rw append-nil refl
flatten-view (PrintI64 newline var next) = rw append-nil refl
flatten-view (Exit var) = refl

-- the table of kinds says how many there are
pub clauses-counted : (t : Stmt) → count_clauses (clauses_in t) ≡ clauses_of (record_of t)
clauses-counted (Substitute ps next) = refl
clauses-counted (Call label args) = refl
clauses-counted (Let var ty tag args next) = refl
clauses-counted (Switch var ty cs) = refl
clauses-counted (Create var ty env cs next) = refl
clauses-counted (Invoke var tag ty args) = refl
clauses-counted (Literal lit var next) = refl
clauses-counted (Op fst o snd var next) = refl
clauses-counted (IfC sort fst snd thenc elsec) = refl
clauses-counted (PrintI64 newline var next) = refl
clauses-counted (Exit var) = refl

pub bodies-counted : (t : Stmt) → length (bodies_of t) ≡ bodies (kind_of (record_of t))
bodies-counted (Substitute ps next) = refl
bodies-counted (Call label args) = refl
bodies-counted (Let var ty tag args next) = refl
bodies-counted (Switch var ty cs) = refl
bodies-counted (Create var ty env cs next) = refl
bodies-counted (Invoke var tag ty args) = refl
bodies-counted (Literal lit var next) = refl
bodies-counted (Op fst o snd var next) = refl
bodies-counted (IfC sort fst snd thenc elsec) = refl
bodies-counted (PrintI64 newline var next) = refl
bodies-counted (Exit var) = refl

-- a statement is at least one deep, and what follows it less deep than it
pub record Shallower (d : ℕ) (t : Stmt) : Type 0 where
  pub positive : 0 < d
  pub clauses : depth_clauses (clauses_in t) ≤ d - 1
  pub bodies : All (λ (s : Stmt). depth s ≤ d - 1) (bodies_of t)

pub shallower : (d : ℕ) (t : Stmt) → depth t ≤ d → Shallower d t
unfolding depth
shallower d (Substitute ps next) h = record { positive = omega arith; clauses = omega arith; bodies = (omega arith, tt) }
shallower d (Call label args) h = record { positive = omega arith; clauses = omega arith; bodies = tt }
shallower d (Let var ty tag args next) h = record { positive = omega arith; clauses = omega arith; bodies = (omega arith, tt) }
shallower d (Switch var ty cs) h = record { positive = omega arith; clauses = omega arith; bodies = tt }
shallower d (Create var ty env cs next) h = record { positive = omega arith; clauses = omega arith; bodies = (omega arith, tt) }
shallower d (Invoke var tag ty args) h = record { positive = omega arith; clauses = omega arith; bodies = tt }
shallower d (Literal lit var next) h = record { positive = omega arith; clauses = omega arith; bodies = (omega arith, tt) }
shallower d (Op fst o snd var next) h = record { positive = omega arith; clauses = omega arith; bodies = (omega arith, tt) }
shallower d (IfC sort fst snd thenc elsec) h = record { positive = omega arith; clauses = omega arith; bodies = (omega arith, (omega arith, tt)) }
shallower d (PrintI64 newline var next) h = record { positive = omega arith; clauses = omega arith; bodies = (omega arith, tt) }
shallower d (Exit var) h = record { positive = omega arith; clauses = omega arith; bodies = tt }
