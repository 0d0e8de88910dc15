-- IfC: the step of either machine. Assumes nothing.
use Rattle.std.specs.Prelude.{Result, Err}
use Prim.Native.Nat.{ℕ, ◌+◌}
use mathlib.Core.Path.{◌≡◌, refl, sym, ap, ap₂, ◌∙◌, subst}
use mathlib.Core.Bool.{Bool, true, false, cond}
use mathlib.Core.List.{List, map}
use mathlib.Core.Option.{Option, none, some}
use native.Mathlib.Omega.{arith}
use lib.IntN.{ℤ}
use Rattle.syntax.specs.declared.names.Identifier.{Identifier}
use Rattle.syntax.specs.declared.ifc.IfSort.{IfSort}
use Rattle.model.specs.Syntax.{Stmt, IfC, Prog}
use Rattle.model.specs.Lists.{lookup}
use Rattle.model.specs.Integers.{holds}
use Rattle.model.specs.Machine.{at, Outcome, shows, or_halt, as_int, second, IfC'}
use Rattle.model.specs.Source.{source_work}
use Rattle.model.specs.Linear.{linear_work}
use Rattle.image_spec.specs.Records.{Record, ifc}
use Rattle.image_spec.specs.Shape.{flatten_clauses, max_depth}
use Rattle.image_places_spec.specs.Places.{StmtStands}
use Rattle.image_directory.specs.declared.Frame.{Frame}
use Rattle.image_directory.specs.Slots as image
use Rattle.image_read_parts.specs.Indexed.{record_at}
use Rattle.step_spec.specs.declared.MachineKind.{MachineKind}
use Rattle.step_spec.specs.declared.MachineKind.TheVariants.{Source, Linear}
use Rattle.step_spec.specs.Located.{Machine, Located, records_in, stmt_in, cell_in, project, second_place, next_place_lem, located_step}
use Rattle.step_spec.specs.Store.{bit}
use Rattle.step_spec.specs.Events.{event_head, event_bytes}
use Rattle.step_header.specs.declared.Header.{Header}
use Rattle.step_header.specs.Headers.{entries_in}
use Rattle.step_entries.specs.Named.{named}
use Rattle.step_write.specs.declared.Step.{Step}
use Rattle.step_write.specs.declared.Stop.{Stop}
use Rattle.step_write.specs.declared.Stop.TheVariants.{NoStep}
use Rattle.step_places.specs.Ends.{Ends, Hopped}
use Rattle.step_places.proofs.NextPlaces.{else_place}
use Rattle.step_rule.specs.Rules.{machine_for, ImageOf, Stored, resting, Makes}
use Rattle.step_rule.proofs.Views.{viewed}
use Rattle.step_rule.proofs.Statements.{Is, is_ifc, placed, here}
use Rattle.step_rule.proofs.Machines.{source-works, linear-works}
use Rattle.step_lookup.specs.Integer.{integer_in}
use Rattle.step_lookup.proofs.LookupLaws.{integer_as, integer-seen, two_integers, Asks, goes_with, nothing-made}
use Rattle.step_stay.specs.Staying.{Stays}
use Rattle.step_stay.proofs.StayingLaws.{stays-makes}
use Rattle.step_statement_ifc.specs.Choices.{second_in, choice}

-- which branch is taken, as the slots show the operands
abbrev pub shown : (store : List ℕ) → Header → IfSort → (fst : Identifier) (snd : Option Identifier) → Option Bool
shown store h sort fst snd = choice sort (integer_in (named fst.id.0 (entries_in store h))) (second_in (entries_in store h) snd)

second-seen : {M : Machine} {P : Prog} {store : List ℕ} {h : Header} {l : Located} → Stored M P store h l → (snd : Option Identifier)
    → second_in (entries_in store h) snd ≡ integer_as (second snd l.environment)
unfolding second_in
second-seen o none = refl
second-seen o (some x) = integer-seen o x.id

module _ (P : Prog) (l : Located) (sort : IfSort) (fst : Identifier) (snd : Option Identifier) (thenc elsec : Stmt) (e : stmt_in P l.position ≡ IfC sort fst snd thenc elsec) where
  -- the step to a branch
  abbrev takes : Bool → Outcome
  takes t = shows (IfC' t) (at (cond t thenc elsec) l.environment (map (cell_in P) l.cells))

  -- what the machine does
  works : (b : MachineKind) {store : List ℕ} {h : Header} → Stored (machine_for b) P store h l → (machine_for b).step P (project P l)
      ≡ or_halt (lookup fst.id l.environment) λ v. or_halt (second snd l.environment) λ w. or_halt (as_int v) λ x. or_halt (as_int w) λ y. takes (holds sort x y)
  unfolding source_work linear_work
  works Linear o = linear-works o (IfC sort fst snd thenc elsec) e
  works Source o = source-works o (IfC sort fst snd thenc elsec) e

  goes : (b : MachineKind) {store : List ℕ} {h : Header} → Stored (machine_for b) P store h l → Asks (shown store h sort fst snd) takes ((machine_for b).step P (project P l))
  goes b o =
      let x = lookup fst.id l.environment in
      let y = second snd l.environment in
      record {
        is = works b o
            ∙ (two_integers x y (λ (i j : ℤ). some (holds sort i j)) takes
            ∙ ap₂ {C = Outcome} (λ (i j : Option ℤ). or_halt (choice sort i j) takes) (sym (integer-seen o fst.id)) (sym (second-seen o snd)));
      }

  -- where the branches stand
  then_at : (h : Header) → h.position ≡ l.position → h.position + 1 ≡ next_place_lem P l (some (IfC' true))
  unfolding next_place_lem flatten_clauses
  then_at h p = rw e (omega (arith, p))

  else_at : (h : Header) {r : ℕ} {ends : List ℕ} → h.position ≡ l.position → Ends (records_in P) ends → StmtStands max_depth (records_in P) l.position (stmt_in P l.position)
      → Hopped ends 1 (h.position + 1) r → r ≡ next_place_lem P l (some (IfC' false))
  unfolding next_place_lem
  else_at h {r} {ends} p n s j =
      else_place n sort fst snd thenc elsec (subst (StmtStands max_depth (records_in P) l.position) e s) (subst (λ (i : ℕ). Hopped ends 1 (i + 1) r) p j)
      ∙ ap (second_place l.position) (sym e)

-- the statement that has the record
there : {sort : IfSort} {fst : Identifier} {snd : Option Identifier} {t : Stmt} → Is t (ifc sort fst snd) → (thenc : Stmt) × (elsec : Stmt) × (t ≡ IfC sort fst snd thenc elsec)
there (is_ifc thenc elsec) = (thenc, elsec, refl)

module _ (b : MachineKind) {P : Prog} {frame : Frame} {definitions : ℕ} {bytes store : List ℕ} {h : Header} {l : Located} {sort : IfSort} {fst : Identifier} {snd : Option Identifier}
    (p : ImageOf P frame definitions bytes) (o : Stored (machine_for b) P store h l) (e : record_at frame bytes h.position ≡ ifc sort fst snd) (events : List ℕ) (at' : ℕ) where
  pub ifc-halts : none ≡ shown store h sort fst snd → Makes store events at' (resting (located_step (machine_for b) P l)) store events (Err NoStep)
  ifc-halts w = let t = there (here p o (ifc sort fst snd) e) in nothing-made o events at' (goes P l sort fst snd t.0 t.1 t.2 b o) w

  module _ {store' events' : List ℕ} {m : Result Step Stop} where
    ifc-makes : (c : Bool) {r : ℕ} → some c ≡ shown store h sort fst snd → r ≡ next_place_lem P l (some (IfC' c)) → Stays store events h at' r false (event_head 10 (bit c) 0 0 0) store' events' m
        → Makes store events at' (resting (located_step (machine_for b) P l)) store' events' m
    unfolding event_bytes
    ifc-makes c w q s =
        let t = there (here p o (ifc sort fst snd) e) in
        stays-makes o (IfC' c) refl (cond c t.0 t.1) (goes_with (goes P l sort fst snd t.0 t.1 t.2 b o) c w) q s

    pub then_makes : some true ≡ shown store h sort fst snd → Stays store events h at' (h.position + 1) false (event_head 10 1 0 0 0) store' events' m
        → Makes store events at' (resting (located_step (machine_for b) P l)) store' events' m
    then_makes w s = let t = there (here p o (ifc sort fst snd) e) in ifc-makes true w (then_at P l sort fst snd t.0 t.1 t.2 h (viewed o).position) s

    pub else_makes : {r : ℕ} {ends : List ℕ} → some false ≡ shown store h sort fst snd → Ends (image.records_in frame bytes) ends → Hopped ends 1 (h.position + 1) r
        → Stays store events h at' r false (event_head 10 0 0 0 0) store' events' m → Makes store events at' (resting (located_step (machine_for b) P l)) store' events' m
    else_makes {r} {ends} w n j s =
        let t = there (here p o (ifc sort fst snd) e) in
        let q = else_at P l sort fst snd t.0 t.1 t.2 h (viewed o).position (subst (λ (rs : List Record). Ends rs ends) p.records n) (placed p o).here j in
        ifc-makes false w q s
