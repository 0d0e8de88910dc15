-- A step that brings IDs and does not stop: none of them is there twice. Assumes nothing.
use mathlib.Core.Path.{◌≡◌, refl, sym}
use mathlib.Core.Bool.{Bool, true, false, false≢true}
use Rattle.syntax.specs.Sets.{distinct}
use Rattle.model.specs.Syntax.{Stmt}
use Rattle.model.specs.Machine.{Entries, keys, Cells, at, Event, Outcome, shows}
use Rattle.model.specs.Linear.{stop_unless, shows_unless_twice}
use Rattle.step_spec.specs.Located.{is_stop}

pub not_twice : (e : Event) (s : Stmt) (l : Entries) (K : Cells) → is_stop (shows_unless_twice e s l K) ≡ false → shows_unless_twice e s l K ≡ shows e (at s l K)
not_twice e s l K h = go (distinct (keys l)) (shows e (at s l K)) h
  where
    go : (b : Bool) (r : Outcome) → is_stop (stop_unless b r) ≡ false → stop_unless b r ≡ r
    go true r h = refl
    go false r h = absurd (false≢true (sym h))
