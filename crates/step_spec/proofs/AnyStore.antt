-- The same of every store that question 14 passes, however it came about, whose stopped flag is the machine's; and a store can be copied.
-- Assumes nothing.
use Prim.Native.Nat.{ℕ, ◌+◌, ◌^◌, ◌≤◌, ◌<◌}
use mathlib.Core.Path.{◌≡◌, refl, sym, ap, ◌∙◌, subst}
use mathlib.Core.Bool.{Bool, true, false}
use mathlib.Core.List.{List, [], ◌∷◌, ◌++◌, map}
use mathlib.Core.Option.{some}
use native.Mathlib.Omega.{arith}
use lib.ListN.{length, take, length-map, length-append}
use lib.Seq.{take_at}
use Rattle.model.specs.Syntax.{Stmt, Prog}
use Rattle.model.specs.Machine.{Entries, Cells, begun}
use Rattle.image_spec.specs.Parse.{each, All}
use Rattle.image_spec.specs.Shape.{flatten, flatten_clauses, flatten_defs, DefOk}
use Rattle.image_spec.specs.Records.{Record, RecordOk}
use Rattle.image_spec.specs.Reading.{accept}
use Rattle.image_places_spec.specs.Views.{clauses_in}
use Rattle.image_places_spec.specs.Places.{Begins}
use Rattle.step_spec.specs.Located.{Kept, held, made, Located, records_in, stmt_in, cell_in, state_of, project, is_stop}
use Rattle.step_spec.specs.Store.{store_bytes, store_size, EntryFits, KeptFits, Fits, state_from}
use Rattle.image_spec.specs.declared.Layout.{Layout}
use Rattle.step_spec.specs.Calls.{Stepper, source_stepper, linear_stepper, Result, step_call_lem}
use Rattle.step_spec.specs.Claims.{Request, calls, steps_of, shown_in, store_left, After, Fair}
use Rattle.step_spec.proofs.Lists.{all_left, all_drop}
use Rattle.step_spec.proofs.Standing.{KeptStands, clauses-stand}
use Rattle.step_spec.proofs.Anywhere.{fits-placed}
use Rattle.step_spec.proofs.OneToOne.{only_its_bytes}
use Rattle.step_spec.proofs.Stored.{store-size, state-stored}
use Rattle.step_spec.proofs.Representable.{DefsOk, CellFits, Holds, StateFits}
use Rattle.step_spec.proofs.Sound.{Lawful, source_lawful, linear_lawful, Sound}
use Rattle.step_spec.proofs.Stepping.{after, Readable, read-readable, check_readable}

all-begins : (Q : Record → Type 0) (rs front : List Record) (i : ℕ) → All Q rs → Begins rs i front → All Q front
all-begins Q rs front i h b = all_left Q front b.rest (subst (All Q) b.split (all_drop Q i rs h))

module _ (w : ℕ) (narrow : 256 ^ w ≤ 256 ^ 4) (P : Prog) (shallow : All DefOk P.defs) (defs : DefsOk w narrow P.defs) where
  records-ok : All (RecordOk w) (records_in P)
  unfolding flatten_defs
  records-ok = defs

  cells_fit : (n : ℕ) (ks : List Kept) → All (KeptStands P) ks → All (KeptFits P n) ks → All (CellFits w narrow n) (map (cell_in P) ks)
  cells_fit n [] s h = tt
  cells_fit n (held tag fields ∷ ks) s h = (h.0, cells_fit n ks s.1 h.1)
  cells_fit n (made i entries ∷ ks) s h =
      ((h.0.1, all-begins (RecordOk w) (records_in P) (flatten_clauses (clauses_in (stmt_in P i))) (i + 1) records-ok (clauses-stand s.0.0).begins), cells_fit n ks s.1 h.1)

  either : (b : Bool) (t : Stmt) (ε : Entries) (K : Cells) → Holds w narrow (length K) t ε K → StateFits w narrow (state_of b t ε K)
  either true t ε K h = h
  either false t ε K h = h

  -- every state that has bytes is sound
  pub fits-sound : (l : Located) → Fits P l → Sound w narrow P l
  unfolding project
  fits-sound l h =
      let p = fits-placed P shallow l h in
      let e = length-map l.cells (cell_in P) in
      record {
        placed = p;
        fits = either l.has_ended (stmt_in P l.position) l.environment (map (cell_in P) l.cells) (record {
          stmt = all-begins (RecordOk w) (records_in P) (flatten (stmt_in P l.position)) l.position records-ok p.here.begins;
          entries = subst (λ (n : ℕ). All (EntryFits n) l.environment) (sym e) h.environment;
          cells = subst (λ (n : ℕ). All (CellFits w narrow n) (map (cell_in P) l.cells)) (sym e) (cells_fit (length l.cells) l.cells p.cells h.cells);
        });
      }

-- document 02, A.2: each call does what the machine of document 01 does: from a store that holds l, as from a start at the state that l stands for
abbrev pub FromStore : Stepper → Type 0
FromStore S = (image : List ℕ) (P : Prog) → S.asks image ≡ accept P → (store : List ℕ) → length store < 2 ^ 64
    → (l : Located) → state_from P store ≡ some l → l.has_stopped ≡ is_stop (S.machine.step P (project P l))
    → (qs : List Request) (rs : List Result) → rs ≡ calls S image store qs
    → After S.machine P (begun (project P l)) (steps_of rs) (each shown_in rs) (store_left store rs)
    × ((q : Request) → Fair S.machine P (begun (project P l)) (steps_of rs) q.steps (length q.events) (step_call_lem S image q.steps (store_left store rs) q.events))

from-store : (S : Stepper) → Lawful S.machine → ((image : List ℕ) (P : Prog) → S.asks image ≡ accept P → Readable P) → FromStore S
from-store S lawful readable image P e store k l s f qs rs q =
    let o = readable image P e in
    after S o.w o.narrow lawful P o.shallow o.defs o.few (begun (project P l)) image e store (record {
      located = l;
      reached = record { ran = refl; stopped_is = f; sound = fits-sound o.w o.narrow P o.shallow o.defs l (only_its_bytes P store l s).fits; events = tt };
      stored = s;
      short = k;
    }) qs rs q

module _ (L : Layout) (w : L.id ≤ 4) where
  pub source-from-store : FromStore (source_stepper L)
  source-from-store = from-store (source_stepper L) source_lawful (check_readable L w)

  pub linear-from-store : FromStore (linear_stepper L)
  linear-from-store = from-store (linear_stepper L) linear_lawful (read-readable L w)

-- the state's bytes in front of any others are a store with that state: to move a store is to copy its state's bytes
pub copied : (P : Prog) → length (records_in P) < 256 ^ 4 → (s : List ℕ) → length s < 2 ^ 64 → (l : Located) → state_from P s ≡ some l → (rest : List ℕ)
    → state_from P (take (store_size l) s ++ rest) ≡ some l
copied P few s k l e rest =
    let h = only_its_bytes P s l e in
    let t : take (store_size l) s ≡ store_bytes l = ap (take (store_size l)) h.bytes ∙ take_at (store_bytes l) h.rest (store_size l) (store-size l) in
    ap (λ (z : List ℕ). state_from P (z ++ rest)) t
    ∙ state-stored P few l h.fits (omega (arith, store-size l, ap length h.bytes, length-append (store_bytes l) h.rest)) rest
