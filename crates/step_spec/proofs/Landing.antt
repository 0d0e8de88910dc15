-- What a step of a machine must be for the stepper to follow it: the state that it leads to is the one that `moved` stands for. Assumes nothing.
use Prim.Native.Nat.{ℕ, zero, suc, ◌+◌}
use mathlib.Core.Path.{◌≡◌, refl, sym, ap, ◌∙◌, subst}
use mathlib.Core.Bool.{Bool, true, false, cond}
use mathlib.Core.List.{List, [], ◌∷◌, ◌++◌, map, append-nil, map-append}
use mathlib.Core.Option.{Option, none, some}
use lib.ListN.{length, drop, length-map}
use lib.Seq.{drop_at}
use native.Mathlib.Omega.{arith}
use Rattle.syntax.specs.Context.{Context}
use Rattle.syntax.specs.declared.names.Name.{Name}
use Rattle.model.specs.Syntax.{Stmt, Clauses, Prog}
use Rattle.model.specs.Machine.{Value, int, cell, outside, Entries, Cell, Cells, State, at, ended, Event, IfC', Invoke', Outcome, shows, silent, halts, stops}
use Rattle.model.specs.Machine.{or_halt, nth, find_clause_lem, clo, as_closure, invoked}
use Rattle.image_spec.specs.Parse.{All}
use Rattle.image_spec.specs.Shape.{max_depth}
use Rattle.image_places_spec.specs.Views.{clauses_in, bodies_of}
use Rattle.image_places_spec.specs.Places.{StmtStands}
use Rattle.image_places_spec.proofs.PlaceLaws.{stmt_is}
use Rattle.step_spec.specs.Located.{Machine, Located, Kept, held, made, records_in, stmt_in, cell_in, project, bodies_place, second_place, clause_place, next_place_lem, keep, moved}
use Rattle.step_spec.proofs.Lists.{all-++, all-at}
use Rattle.step_spec.proofs.Standing.{Stands, KeptStands, Placed, stands_as, first-stands, second-stands, entered}

module _ (M : Machine) (P : Prog) (l : Located) where
  -- the machine's state s is the one that the stepper's stands for after a step with this event
  pub record Lands (e : Option Event) (s : State) : Type 0 where
    pub is : project P (moved M P l e s) ≡ s
    pub placed : Placed P (moved M P l e s)

  pub data Follows : Outcome → Type 0 where
    follows-shows : {e : Event} {s : State} → Lands (some e) s → Follows (shows e s)
    follows-silent : {s : State} → Lands none s → Follows (silent s)
    follows-halts : Follows halts
    follows-stops : Follows stops

  pub or_follows : {A : Type 0} (o : Option A) (k : A → Outcome) → ((a : A) → o ≡ some a → Follows (k a)) → Follows (or_halt o k)
  or_follows none k h = follows-halts
  or_follows (some a) k h = h a refl

-- ── where a step leads ──

module _ (M : Machine) (P : Prog) (l : Located) (placed : Placed P l) where
  abbrev K : Cells
  K = map (cell_in P) l.cells

  -- what the step adds
  new-cells : (new : Cells) → drop (length l.cells) (K ++ new) ≡ new
  new-cells new = drop_at K new (length l.cells) (length-map l.cells (cell_in P))

  pub land : (e : Option Event) (t : Stmt) (ε : Entries) (new : Cells) → StmtStands max_depth (records_in P) (next_place_lem P l e) t
      → map (cell_in P) (map (keep l.position) new) ≡ new → All (KeptStands P) (map (keep l.position) new) → Lands M P l e (at t ε (K ++ new))
  unfolding project moved
  land e t ε new s c a = record {
    is = rw (new-cells new, stmt_is s, map-append (cell_in P) l.cells (map (keep l.position) new), c) refl;
    placed = record { here = stands_as P _ t s; cells = rw (new-cells new) (all-++ (KeptStands P) l.cells (map (keep l.position) new) placed.cells a) };
  }

  -- a step that makes no cell
  pub land-same : (e : Option Event) (t : Stmt) (ε : Entries) → StmtStands max_depth (records_in P) (next_place_lem P l e) t → Lands M P l e (at t ε K)
  land-same e t ε s = subst (λ (z : Cells). Lands M P l e (at t ε z)) (append-nil K) (land e t ε [] s refl tt)

  -- the step that ends the run
  pub land-ended : (v : Event) (t : Stmt) (ε : Entries) → next_place_lem P l (some v) ≡ l.position → stmt_in P l.position ≡ t → Lands M P l (some v) (ended t ε K)
  unfolding project moved
  land-ended v t ε p e =
      let c : drop (length l.cells) K ≡ [] = ap (drop (length l.cells)) (sym (append-nil K)) ∙ new-cells [] in
      record {
        is = rw (c, append-nil l.cells, p, e) refl;
        placed = record { here = rw p placed.here; cells = rw (c, append-nil l.cells) placed.cells };
      }

  pub land-branch : (ε : Entries) (b : Bool) (thenc elsec : Stmt) → StmtStands max_depth (records_in P) (next_place_lem P l (some (IfC' true))) thenc
      → StmtStands max_depth (records_in P) (next_place_lem P l (some (IfC' false))) elsec → Follows M P l (shows (IfC' b) (at (cond b thenc elsec) ε K))
  land-branch ε true thenc elsec h k = follows-shows (land-same (some (IfC' true)) thenc ε h)
  land-branch ε false thenc elsec h k = follows-shows (land-same (some (IfC' false)) elsec ε k)

  -- ── statements ──

  module _ (t : Stmt) (e : stmt_in P l.position ≡ t) where
    stands : StmtStands max_depth (records_in P) l.position t
    stands = subst (StmtStands max_depth (records_in P) l.position) e placed.here

    pub at_first : (next : Stmt) (ts : List Stmt) → bodies_of t ≡ next ∷ ts → StmtStands max_depth (records_in P) (bodies_place l.position (stmt_in P l.position)) next
    at_first next ts b = rw e (first-stands next ts b stands)

    pub at_second : (one two : Stmt) → bodies_of t ≡ one ∷ two ∷ [] → StmtStands max_depth (records_in P) (second_place l.position (stmt_in P l.position)) two
    at_second one two b = rw e (second-stands one two b stands)

    pub at-clause : (tag : Name) (c : Context × Stmt) → find_clause_lem tag (clauses_in t) ≡ some c
        → StmtStands max_depth (records_in P) (clause_place tag (clauses_in (stmt_in P l.position)) (l.position + 1)) c.1
    at-clause tag c f = rw e (entered tag c stands f)

  -- ── a closure that is invoked ──

  record Closure (i : ℕ) (ε : Entries) (cs : Clauses) : Type 0 where
    place : ℕ
    kept : nth i l.cells ≡ some (made place ε)
    are : cs ≡ clauses_in (stmt_in P place)

  nth-map : (ks : List Kept) (i : ℕ) → nth i (map (cell_in P) ks) ≡ elim (nth i ks) as (λ _. Option Cell) [ none ↦ none | some k ↦ some (cell_in P k) ]
  nth-map [] i = refl
  nth-map (k ∷ ks) zero = refl
  nth-map (k ∷ ks) (suc i) = nth-map ks i

  closure-at : (i : ℕ) (o : Option Kept) (j : ℕ) (ε : Entries) (cs : Clauses) → nth i l.cells ≡ o
      → as_closure i (elim o as (λ _. Option Cell) [ none ↦ none | some k ↦ some (cell_in P k) ]) ≡ some (clo j ε cs) → Closure j ε cs
  closure-at i none j ε cs h e = let z : ◌≡◌ {A = ℕ} 0 1 = cc in absurd (omega arith)
  closure-at i (some (held tag fields)) j ε cs h e = let z : ◌≡◌ {A = ℕ} 0 1 = cc in absurd (omega arith)
  closure-at i (some (made p η)) j ε cs h e =
      let a : i ≡ j = cc in
      let b : η ≡ ε = cc in
      record { place = p; kept = ap (λ (z : ℕ). nth z l.cells) (sym a) ∙ h ∙ ap (λ (z : Entries). some (made p z)) b; are = cc }

  closure-of : (v : Value) (j : ℕ) (ε : Entries) (cs : Clauses) → invoked K v ≡ some (clo j ε cs) → Closure j ε cs
  closure-of (int z) j ε cs e = let z : ◌≡◌ {A = ℕ} 0 1 = cc in absurd (omega arith)
  closure-of (cell i) j ε cs e = closure-at i (nth i l.cells) j ε cs refl (ap (as_closure i) (sym (nth-map l.cells i)) ∙ e)
  closure-of (outside n) j ε cs e = let z : ◌≡◌ {A = ℕ} 0 1 = cc in absurd (omega arith)

  pub at-invoked : (v : Value) (j : ℕ) (ε : Entries) (cs : Clauses) (tag : Name) (c : Context × Stmt) → invoked K v ≡ some (clo j ε cs) → find_clause_lem tag cs ≡ some c
      → StmtStands max_depth (records_in P) (next_place_lem P l (some (Invoke' j tag))) c.1
  unfolding next_place_lem
  at-invoked v j ε cs tag c e f =
      let h = closure-of v j ε cs e in
      let s : Stands P h.place = (all-at (KeptStands P) l.cells j (made h.place ε) placed.cells h.kept).0 in
      rw h.kept (entered tag c s (subst (λ (z : Clauses). find_clause_lem tag z ≡ some c) h.are f))
