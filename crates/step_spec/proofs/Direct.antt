-- The stepper's step in the form that code follows: by the statement at the position, with the cells that were there and at most one more.
-- Assumes nothing.
use Prim.Native.Nat.{ℕ}
use mathlib.Core.Path.{◌≡◌, refl, sym, ap, ◌∙◌}
use mathlib.Core.Bool.{true, false}
use mathlib.Core.List.{List, [], ◌∷◌, ◌++◌, map, append-nil}
use mathlib.Core.Option.{Option}
use lib.ListN.{length, drop, length-map}
use lib.Seq.{drop_at}
use Rattle.model.specs.Syntax.{Stmt, Prog}
use Rattle.model.specs.Machine.{Entries, Cell, Cells, at, ended, Event}
use Rattle.step_spec.specs.Located.{Machine, Kept, Located, cell_in, next_place_lem, keep, moved, is_stop}

-- a state that has neither ended nor stopped, before the statement at i
abbrev pub before : (i : ℕ) → Entries → List Kept → Located
before i ε K = record { position = i; environment = ε; cells = K; has_ended = false; has_stopped = false }

module _ (M : Machine) (P : Prog) where
  module _ (l : Located) where
    added : (new : Cells) → drop (length l.cells) (map (cell_in P) l.cells ++ new) ≡ new
    added new = drop_at (map (cell_in P) l.cells) new (length l.cells) (length-map l.cells (cell_in P))

    none_added : drop (length l.cells) (map (cell_in P) l.cells) ≡ []
    none_added = ap (drop (length l.cells)) (sym (append-nil (map (cell_in P) l.cells))) ∙ added []

    -- after a step that made no cell
    pub moved_same : (e : Option Event) (t : Stmt) (ε : Entries) → moved M P l e (at t ε (map (cell_in P) l.cells))
        ≡ record { position = next_place_lem P l e; environment = ε; cells = l.cells; has_ended = false; has_stopped = is_stop (M.step P (at t ε (map (cell_in P) l.cells))) }
    unfolding moved
    moved_same e t ε = rw (none_added, append-nil l.cells) refl

    -- after one that made cell c
    pub moved_made : (e : Option Event) (t : Stmt) (ε : Entries) (c : Cell) → moved M P l e (at t ε (map (cell_in P) l.cells ++ (c ∷ [])))
        ≡ record {
          position = next_place_lem P l e;
          environment = ε;
          cells = l.cells ++ (keep l.position c ∷ []);
          has_ended = false;
          has_stopped = is_stop (M.step P (at t ε (map (cell_in P) l.cells ++ (c ∷ []))));
        }
    unfolding moved
    moved_made e t ε c = rw (added (c ∷ [])) refl

    -- after the one that ended the run
    pub moved-ended : (e : Option Event) (t : Stmt) (ε : Entries) → moved M P l e (ended t ε (map (cell_in P) l.cells))
        ≡ record { position = next_place_lem P l e; environment = ε; cells = l.cells; has_ended = true; has_stopped = is_stop (M.step P (ended t ε (map (cell_in P) l.cells))) }
    unfolding moved
    moved-ended e t ε = rw (none_added, append-nil l.cells) refl
