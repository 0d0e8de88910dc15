-- The definitions do something: one program (model/proofs/Examples.antt, `closures`) is started and stepped on the source machine, and every byte of
-- store and events is compared, by computation. Assumes nothing.
use Prim.Native.Nat.{ℕ}
use mathlib.Core.Path.{◌≡◌, refl}
use mathlib.Core.List.{List, [], ◌∷◌, ◌++◌}
use lib.ListN.{replicate, take, drop}
use Rattle.syntax.specs.Filter.{retained, fill, filtered}
use Rattle.syntax.specs.Fresh.{fresh, freshen}
use Rattle.model.specs.FreeVars.{free_vars}
use Rattle.model.specs.Renaming.{rename_unless}
use Rattle.model.specs.Rules.{arrange, freshen_unless_lem, fresh_var_unless, move_behind_lem}
use Rattle.model.specs.Pass.{linearize_stmt, linearize_defs, linearize}
use Rattle.model.specs.Linear.{in_order_lem, linear_enter_lem, linear_work, linear_step_lem, linear_start}
use Rattle.model.specs.Integers.{wrap, eval_op, holds}
use Rattle.model.specs.Source.{source_enter_lem, source_work, source_step_lem, source_start}
use Rattle.model.proofs.Examples.{closures}
use Rattle.image_spec.specs.Shape.{clauses, step, stmt, flatten, flatten_defs}
use Rattle.image_spec.specs.Reading.{accept}
use Rattle.image_places_spec.specs.Places.{stmt_at}
use Rattle.step_spec.specs.Located.{source_machine, linear_machine, project, clause_place, label_place, definition_place, next_place_lem, moved, located_step, located_start}
use Rattle.step_slots.specs.Slots.{slot_parser}
use Rattle.step_spec.specs.Store.{heap_of, environment_of, raw_of, store_bytes, raw_parser, leading, blocks, cells_in, statement_at, create_at, formed, state_in, state_from}
use Rattle.step_spec.specs.Events.{event_bytes, givens}
use Rattle.step_spec.specs.Calls.{Result, starting, stepping, making}

-- the integer 5 and the outside number 3
abbrev values : List ℕ
values =
    0 ∷ 0 ∷ 0 ∷ 0 ∷ 0 ∷ 0 ∷ 0 ∷ 0 ∷ 5 ∷ 0 ∷ 0 ∷ 0 ∷ 0 ∷ 0 ∷ 0 ∷ 0
    ∷ 2 ∷ 0 ∷ 0 ∷ 0 ∷ 0 ∷ 0 ∷ 0 ∷ 0 ∷ 3 ∷ 0 ∷ 0 ∷ 0 ∷ 0 ∷ 0 ∷ 0 ∷ 0 ∷ []

abbrev started : Result
started = starting source_machine (accept closures) 0 values (replicate 300 0)

-- Create, Literal, Let, Switch, IfC, Invoke, Op, and Invoke of the outside number with one argument value
abbrev shown : List ℕ
shown =
    6 ∷ 1 ∷ 0 ∷ 0 ∷ 0 ∷ 0 ∷ 0 ∷ 0 ∷ 0 ∷ 0 ∷ 0 ∷ 0 ∷ 0 ∷ 0 ∷ 0 ∷ 0
    ∷ 8 ∷ 0 ∷ 0 ∷ 0 ∷ 0 ∷ 0 ∷ 0 ∷ 0 ∷ 7 ∷ 0 ∷ 0 ∷ 0 ∷ 0 ∷ 0 ∷ 0 ∷ 0
    ∷ 4 ∷ 1 ∷ 3 ∷ 0 ∷ 0 ∷ 0 ∷ 0 ∷ 0 ∷ 1 ∷ 0 ∷ 0 ∷ 0 ∷ 0 ∷ 0 ∷ 0 ∷ 0
    ∷ 5 ∷ 1 ∷ 3 ∷ 0 ∷ 0 ∷ 0 ∷ 0 ∷ 0 ∷ 1 ∷ 0 ∷ 0 ∷ 0 ∷ 0 ∷ 0 ∷ 0 ∷ 0
    ∷ 10 ∷ 1 ∷ 0 ∷ 0 ∷ 0 ∷ 0 ∷ 0 ∷ 0 ∷ 0 ∷ 0 ∷ 0 ∷ 0 ∷ 0 ∷ 0 ∷ 0 ∷ 0
    ∷ 7 ∷ 1 ∷ 2 ∷ 0 ∷ 0 ∷ 0 ∷ 0 ∷ 0 ∷ 0 ∷ 0 ∷ 0 ∷ 0 ∷ 0 ∷ 0 ∷ 0 ∷ 0
    ∷ 9 ∷ 0 ∷ 0 ∷ 0 ∷ 0 ∷ 0 ∷ 0 ∷ 0 ∷ 12 ∷ 0 ∷ 0 ∷ 0 ∷ 0 ∷ 0 ∷ 0 ∷ 0
    ∷ 7 ∷ 2 ∷ 4 ∷ 0 ∷ 1 ∷ 0 ∷ 0 ∷ 0 ∷ 3 ∷ 0 ∷ 0 ∷ 0 ∷ 0 ∷ 0 ∷ 0 ∷ 0
    ∷ 0 ∷ 0 ∷ 0 ∷ 0 ∷ 0 ∷ 0 ∷ 0 ∷ 0 ∷ 12 ∷ 0 ∷ 0 ∷ 0 ∷ 0 ∷ 0 ∷ 0 ∷ 0 ∷ []

-- at the Invoke in record 4, ended: two cells, of the Create in record 1 with two entries and of a Let with two values; five entries. Then two
-- slots that an earlier step had written: bytes behind the state stay
abbrev left : List ℕ
left =
    4 ∷ 0 ∷ 0 ∷ 0 ∷ 1 ∷ 0 ∷ 0 ∷ 0 ∷ 2 ∷ 0 ∷ 0 ∷ 0 ∷ 0 ∷ 0 ∷ 0 ∷ 0
    ∷ 6 ∷ 0 ∷ 0 ∷ 0 ∷ 0 ∷ 0 ∷ 0 ∷ 0 ∷ 5 ∷ 0 ∷ 0 ∷ 0 ∷ 0 ∷ 0 ∷ 0 ∷ 0
    ∷ 0 ∷ 0 ∷ 0 ∷ 0 ∷ 0 ∷ 0 ∷ 0 ∷ 0 ∷ 0 ∷ 0 ∷ 0 ∷ 0 ∷ 0 ∷ 0 ∷ 0 ∷ 0
    ∷ 0 ∷ 0 ∷ 0 ∷ 0 ∷ 0 ∷ 0 ∷ 0 ∷ 0 ∷ 0 ∷ 0 ∷ 0 ∷ 0 ∷ 0 ∷ 0 ∷ 0 ∷ 0
    ∷ 4 ∷ 0 ∷ 0 ∷ 0 ∷ 1 ∷ 0 ∷ 0 ∷ 0 ∷ 0 ∷ 0 ∷ 0 ∷ 0 ∷ 0 ∷ 0 ∷ 0 ∷ 0
    ∷ 0 ∷ 0 ∷ 0 ∷ 0 ∷ 1 ∷ 0 ∷ 0 ∷ 0 ∷ 5 ∷ 0 ∷ 0 ∷ 0 ∷ 0 ∷ 0 ∷ 0 ∷ 0
    ∷ 2 ∷ 0 ∷ 0 ∷ 0 ∷ 11 ∷ 0 ∷ 0 ∷ 0 ∷ 3 ∷ 0 ∷ 0 ∷ 0 ∷ 0 ∷ 0 ∷ 0 ∷ 0
    ∷ 3 ∷ 0 ∷ 0 ∷ 0 ∷ 3 ∷ 0 ∷ 0 ∷ 0 ∷ 1 ∷ 0 ∷ 0 ∷ 0 ∷ 0 ∷ 0 ∷ 0 ∷ 0
    ∷ 0 ∷ 0 ∷ 0 ∷ 0 ∷ 0 ∷ 0 ∷ 0 ∷ 0 ∷ 7 ∷ 0 ∷ 0 ∷ 0 ∷ 0 ∷ 0 ∷ 0 ∷ 0
    ∷ 0 ∷ 0 ∷ 0 ∷ 0 ∷ 0 ∷ 0 ∷ 0 ∷ 0 ∷ 7 ∷ 0 ∷ 0 ∷ 0 ∷ 0 ∷ 0 ∷ 0 ∷ 0
    ∷ 0 ∷ 0 ∷ 0 ∷ 0 ∷ 5 ∷ 0 ∷ 0 ∷ 0 ∷ 12 ∷ 0 ∷ 0 ∷ 0 ∷ 0 ∷ 0 ∷ 0 ∷ 0
    ∷ 0 ∷ 0 ∷ 0 ∷ 0 ∷ 3 ∷ 0 ∷ 0 ∷ 0 ∷ 7 ∷ 0 ∷ 0 ∷ 0 ∷ 0 ∷ 0 ∷ 0 ∷ 0
    ∷ 2 ∷ 0 ∷ 0 ∷ 0 ∷ 4 ∷ 0 ∷ 0 ∷ 0 ∷ 3 ∷ 0 ∷ 0 ∷ 0 ∷ 0 ∷ 0 ∷ 0 ∷ 0
    ∷ 0 ∷ 0 ∷ 0 ∷ 0 ∷ 1 ∷ 0 ∷ 0 ∷ 0 ∷ 5 ∷ 0 ∷ 0 ∷ 0 ∷ 0 ∷ 0 ∷ 0 ∷ 0
    ∷ 2 ∷ 0 ∷ 0 ∷ 0 ∷ 11 ∷ 0 ∷ 0 ∷ 0 ∷ 3 ∷ 0 ∷ 0 ∷ 0 ∷ 0 ∷ 0 ∷ 0 ∷ 0
    ∷ 0 ∷ 0 ∷ 0 ∷ 0 ∷ 1 ∷ 0 ∷ 0 ∷ 0 ∷ 5 ∷ 0 ∷ 0 ∷ 0 ∷ 0 ∷ 0 ∷ 0 ∷ 0
    ∷ 2 ∷ 0 ∷ 0 ∷ 0 ∷ 11 ∷ 0 ∷ 0 ∷ 0 ∷ 3 ∷ 0 ∷ 0 ∷ 0 ∷ 0 ∷ 0 ∷ 0 ∷ 0 ∷ []

abbrev whole : Result
whole = stepping source_machine (accept closures) 100 started.store (replicate 150 9)

-- .. in two calls: the first has room for three events
abbrev first : Result
first = stepping source_machine (accept closures) 100 started.store (replicate 63 9)

abbrev second : Result
second = stepping source_machine (accept closures) 100 first.store (replicate 150 9)

-- .. in a store of 256 bytes, which has room for the state after three steps (240) and not for the one after four (272)
abbrev short : Result
short = stepping source_machine (accept closures) 100 (starting source_machine (accept closures) 0 values (replicate 256 0)).store (replicate 150 9)

-- .. on the linear machine: the linearized program; and the source itself, which stops at its Create without an environment
abbrev linear : Result
linear = stepping linear_machine (accept (linearize closures)) 100 (starting linear_machine (accept (linearize closures)) 0 values (replicate 300 0)).store (replicate 150 9)

abbrev copied : Result
copied = starting linear_machine (accept closures) 0 values (replicate 300 0)

pub record Worked : Type 0 where
  pub eight_steps : whole ≡ record { number = 0; steps = 8; length = 144; store = left ++ replicate 28 0; events = shown ++ replicate 6 9 }
  pub three_steps : first.number ∷ first.steps ∷ first.length ∷ [] ≡ 15 ∷ 3 ∷ 48 ∷ []
  pub five_more : second.number ∷ second.steps ∷ second.length ∷ [] ≡ 0 ∷ 5 ∷ 96 ∷ []
  pub same_events : take 48 first.events ++ take 96 second.events ≡ shown
  pub same_store : second.store ≡ whole.store
  pub linear_steps : linear.number ∷ linear.steps ∷ linear.length ∷ [] ≡ 0 ∷ 12 ∷ 144 ∷ []
  pub linear_events : linear.events ≡ shown ++ replicate 6 9
  pub linear_ends : take 2 (drop 4 linear.store) ≡ 1 ∷ 0 ∷ []
  pub source_stops : take 2 (drop 4 copied.store) ≡ 0 ∷ 1 ∷ []
  pub no_steps : stepping linear_machine (accept closures) 100 copied.store (replicate 150 9) ≡ record { number = 0; steps = 0; length = 0; store = copied.store; events = replicate 150 9 }
  pub no_room : short.number ∷ short.steps ∷ short.length ∷ [] ≡ 15 ∷ 3 ∷ 48 ∷ []

pub worked : Worked
unfolding making located_step located_start project moved next_place_lem clause_place label_place definition_place stmt_at stmt step clauses
    flatten_defs flatten heap_of environment_of raw_of store_bytes state_from raw_parser slot_parser leading blocks cells_in formed statement_at
    create_at state_in event_bytes givens source_step_lem source_work source_enter_lem source_start eval_op wrap holds linear_step_lem in_order_lem
    linear_work linear_enter_lem linear_start fresh freshen retained fill filtered arrange freshen_unless_lem rename_unless fresh_var_unless
    move_behind_lem linearize_stmt free_vars linearize_defs linearize
worked = record {
  eight_steps = refl;
  three_steps = refl;
  five_more = refl;
  same_events = refl;
  same_store = refl;
  linear_steps = refl;
  linear_events = refl;
  linear_ends = refl;
  source_stops = refl;
  no_steps = refl;
  no_room = refl;
}
