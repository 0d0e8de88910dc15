-- A stepper's state whose places are those of statements and whose machine's state has bytes has bytes itself; steps and starts give such states.
-- Assumes nothing.
use Prim.Native.Nat.{ℕ, zero, suc, ◌^◌, ◌≤◌, ◌<◌}
use mathlib.Core.Path.{◌≡◌, refl, subst}
use mathlib.Core.Bool.{Bool, true, false, cond}
use mathlib.Core.List.{List, [], ◌∷◌, map}
use mathlib.Core.Option.{Option, none, some}
use native.Mathlib.Omega.{arith}
use borrow.Author.Tests.{ltb-true}
use lib.Dec.{ltb, eqb}
use lib.ListN.{length, length-map}
use mir.Syntax.{w64}
use mir.Val.{SFits, to_z}
use mir.ValLaws.{to_z-Fits}
use Rattle.syntax.specs.Context.{ids}
use Rattle.syntax.specs.Sets.{distinct}
use Rattle.model.specs.Syntax.{Stmt, Def, Prog}
use Rattle.model.specs.Machine.{Entries, keys, Cells, State, at, nth, pair_up, Given, integer, outside_number, value, Start, begun, no_start, stopped}
use Rattle.model.specs.Source.{source_begun, source_start_at, source_start}
use Rattle.model.specs.Linear.{stopped_if_twice, linear_begun, linear_start_at, linear_start}
use Rattle.image_spec.specs.Parse.{times, whole, All}
use Rattle.image_spec.proofs.ParseLaws.{whole-right, times_exact}
use Rattle.step_spec.specs.Located.{Machine, source_machine, linear_machine, Kept, held, made, Located, stmt_in, cell_in, state_of, project}
use Rattle.step_slots.specs.Slots.{Slot, SlotOk, slot_parser}
use Rattle.step_spec.specs.Store.{ValueFits, EntryFits, KeptFits, Fits}
use Rattle.step_spec.specs.Events.{given_by_lem, given_in, and_given, givens_in, givens}
use Rattle.step_spec.proofs.Standing.{KeptStands, Placed, statement-here}
use Rattle.step_slots.proofs.SlotLaws.{slot_exact}
use Rattle.step_spec.proofs.Projects.{Followed, source-followed, linear-followed}
use Rattle.step_spec.proofs.Representable.{DefsOk, CellFits, Holds, StateFits, Keeps, paired-fit, ids-fit, nth_ok}
use Rattle.step_spec.proofs.SourceKeeps.{source_keeps}
use Rattle.step_spec.proofs.LinearKeeps.{linear-keeps}

-- ── a start's values ──

abbrev pub GivenFits : Given → Type 0
GivenFits (integer z) = SFits w64 z
GivenFits (outside_number n) = n < 256

given_by : (k p : ℕ) (v : Given) → p < 256 ^ 8 → given_by_lem k p ≡ some v → GivenFits v
given_by zero p v h e = let q : integer (to_z w64 p) ≡ v = cc in subst GivenFits q (to_z-Fits w64 p (record { fits = h }))
given_by (suc zero) p v h e = let z : ◌≡◌ {A = ℕ} 0 1 = cc in absurd (omega arith)
given_by (suc (suc zero)) p v h e = go (ltb p 256) refl e
  where
    go : (b : Bool) → ltb p 256 ≡ b → cond b (some (outside_number p)) none ≡ some v → GivenFits v
    go true f g = let q : outside_number p ≡ v = cc in subst GivenFits q (ltb-true p 256 f)
    go false f g = let z : ◌≡◌ {A = ℕ} 0 1 = cc in absurd (omega arith)
given_by (suc (suc (suc k))) p v h e = let z : ◌≡◌ {A = ℕ} 0 1 = cc in absurd (omega arith)

given_in_lem : (s : Slot) (v : Given) → SlotOk s → given_in s ≡ some v → GivenFits v
given_in_lem s v o e = go (eqb s.id 0) e
  where
    go : (b : Bool) → cond b (given_by_lem s.sort s.payload) none ≡ some v → GivenFits v
    go true f = given_by s.sort s.payload v o.1.1.1 f
    go false f = let z : ◌≡◌ {A = ℕ} 0 1 = cc in absurd (omega arith)

givens_in_lem : (ss : List Slot) (vs : List Given) → All SlotOk ss → givens_in ss ≡ some vs → All GivenFits vs
givens_in_lem [] vs o e = let q : [] ≡ vs = cc in subst (All GivenFits) q tt
givens_in_lem (s ∷ ss) vs o e = go (given_in s) (givens_in ss) refl refl e (λ us f. givens_in_lem ss us o.1 f)
  where
    go : (a : Option Given) (b : Option (List Given)) → given_in s ≡ a → givens_in ss ≡ b → and_given a b ≡ some vs → ((us : List Given) → givens_in ss ≡ some us → All GivenFits us) → All GivenFits vs
    go none b p q f k = let z : ◌≡◌ {A = ℕ} 0 1 = cc in absurd (omega arith)
    go (some v) none p q f k = let z : ◌≡◌ {A = ℕ} 0 1 = cc in absurd (omega arith)
    go (some v) (some us) p q f k = let r : v ∷ us ≡ vs = cc in subst (All GivenFits) r (given_in_lem s v o.0 p, k us q)

pub givens-fit : (n : ℕ) (bytes : List ℕ) (vs : List Given) → givens n bytes ≡ some vs → All GivenFits vs
unfolding givens
givens-fit n bytes vs e = go (whole (times n slot_parser bytes)) refl e
  where
    go : (o : Option (List Slot)) → whole (times n slot_parser bytes) ≡ o → Rattle.image_spec.specs.Image.if_some o none givens_in ≡ some vs → All GivenFits vs
    go none p f = let z : ◌≡◌ {A = ℕ} 0 1 = cc in absurd (omega arith)
    go (some ss) p f = givens_in_lem ss vs (whole-right (times_exact slot_exact n) bytes ss p).0.1 f

values-given : (n : ℕ) (vs : List Given) → All GivenFits vs → All (ValueFits n) (map value vs)
values-given n [] h = tt
values-given n (integer z ∷ vs) h = (h.0, values-given n vs h.1)
values-given n (outside_number k ∷ vs) h = (h.0, values-given n vs h.1)

-- ── what is asked of a machine ──

module _ (w : ℕ) (narrow : 256 ^ w ≤ 256 ^ 4) where
  abbrev pub StartFits : Start → Type 0
  StartFits (begun s) = StateFits w narrow s
  StartFits no_start = Unit {0}
  StartFits (stopped s) = StateFits w narrow s

-- the stepper follows it, and its states have bytes
pub record Lawful (M : Machine) : Type 0 where
  pub followed : Followed M
  pub keeps : (w : ℕ) (narrow : 256 ^ w ≤ 256 ^ 4) (P : Prog) → DefsOk w narrow P.defs → (s : State) → StateFits w narrow s → Keeps w narrow (M.step P s)
  pub starts : (w : ℕ) (narrow : 256 ^ w ≤ 256 ^ 4) (P : Prog) → DefsOk w narrow P.defs → (n : ℕ) (vs : List Given) → All GivenFits vs → StartFits w narrow (M.start P n vs)

module _ (w : ℕ) (narrow : 256 ^ w ≤ 256 ^ 4) (P : Prog) (defs : DefsOk w narrow P.defs) (n : ℕ) (vs : List Given) (fit : All GivenFits vs) where
  opened : (d : Def) (ε : Entries) → nth n P.defs ≡ some d → pair_up (ids d.context) (map value vs) ≡ some ε → StateFits w narrow (at d.body ε [])
  opened d ε e p =
      let o = nth_ok w narrow n P.defs d defs e in
      record { stmt = o.1; entries = paired-fit 0 (ids d.context) (map value vs) ε (ids-fit w narrow d.context o.0) (values-given 0 vs fit) p; cells = tt }

  source-at : (o : Option Def) → nth n P.defs ≡ o → StartFits w narrow (source_start_at o vs)
  source-at none e = tt
  source-at (some d) e = go (pair_up (ids d.context) (map value vs)) refl
    where
      go : (o : Option Entries) → pair_up (ids d.context) (map value vs) ≡ o → StartFits w narrow (source_begun d.body o)
      go none p = tt
      go (some ε) p = opened d ε e p

  linear-at : (o : Option Def) → nth n P.defs ≡ o → StartFits w narrow (linear_start_at o vs)
  linear-at none e = tt
  linear-at (some d) e = go (pair_up (ids d.context) (map value vs)) refl
    where
      twice : (b : Bool) (ε : Entries) → StateFits w narrow (at d.body ε []) → StartFits w narrow (stopped_if_twice b (at d.body ε []))
      twice true ε h = h
      twice false ε h = h

      go : (o : Option Entries) → pair_up (ids d.context) (map value vs) ≡ o → StartFits w narrow (linear_begun d.body o)
      go none p = tt
      go (some ε) p = twice (distinct (keys ε)) ε (opened d ε e p)

  source-starts : StartFits w narrow (source_start P n vs)
  unfolding source_start
  source-starts = source-at (nth n P.defs) refl

  linear-starts : StartFits w narrow (linear_start P n vs)
  unfolding linear_start
  linear-starts = linear-at (nth n P.defs) refl

pub source_lawful : Lawful source_machine
source_lawful = record { followed = source-followed; keeps = source_keeps; starts = source-starts }

pub linear_lawful : Lawful linear_machine
linear_lawful = record { followed = linear-followed; keeps = linear-keeps; starts = linear-starts }

-- ── states that have bytes ──

module _ (w : ℕ) (narrow : 256 ^ w ≤ 256 ^ 4) (P : Prog) where
  pub record Sound (l : Located) : Type 0 where
    pub placed : Placed P l
    pub fits : StateFits w narrow (project P l)

  holds : (b : Bool) (t : Stmt) (ε : Entries) (K : Cells) → StateFits w narrow (state_of b t ε K) → Holds w narrow (length K) t ε K
  holds true t ε K h = h
  holds false t ε K h = h

  kept-fit : (n : ℕ) (ks : List Kept) → All (KeptStands P) ks → All (CellFits w narrow n) (map (cell_in P) ks) → All (KeptFits P n) ks
  kept-fit n [] p h = tt
  kept-fit n (held tag fields ∷ ks) p h = (h.0, kept-fit n ks p.1 h.1)
  kept-fit n (made i entries ∷ ks) p h = ((p.0.1, h.0.0), kept-fit n ks p.1 h.1)

  pub sound-fits : (l : Located) → Sound l → Fits P l
  unfolding project
  sound-fits l s =
      let h = holds l.has_ended (stmt_in P l.position) l.environment (map (cell_in P) l.cells) s.fits in
      let e = length-map l.cells (cell_in P) in
      record {
        position = statement-here P l.position s.placed.here;
        cells = kept-fit (length l.cells) l.cells s.placed.cells (subst (λ (n : ℕ). All (CellFits w narrow n) (map (cell_in P) l.cells)) e h.cells);
        environment = subst (λ (n : ℕ). All (EntryFits n) l.environment) e h.entries;
      }
