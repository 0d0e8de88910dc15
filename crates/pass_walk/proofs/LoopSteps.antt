-- What is left of clauses and of bodies in the walk that linearizes: the first of them, and what is written once it is done. Assumes nothing.
use Prim.Native.Nat.{ℕ, ◌+◌, ◌-◌, ◌*◌}
use mathlib.Core.Path.{◌≡◌, refl, sym, ap, ◌∙◌, subst}
use mathlib.Core.Bool.{Bool, cond}
use mathlib.Core.List.{List, [], ◌∷◌, ◌++◌}
use native.Mathlib.Omega.{arith}
use lib.ListN.{length}
use Rattle.syntax.specs.Context.{ids}
use Rattle.syntax.specs.declared.names.VarId.{VarId}
use Rattle.model.specs.Syntax.{Stmt, Clauses}
use Rattle.model.specs.FreeVars.{free_vars}
use Rattle.image_spec.specs.Parse.{each, All}
use Rattle.image_spec.specs.Records.{Record, clause'}
use Rattle.image_spec.specs.Shape.{flatten, flatten_clauses}
use Rattle.image_directory.specs.Slots.{Ready, records_in}
use Rattle.image_directory.specs.declared.Frame.{Frame}
use Rattle.image_directory.proofs.Places.{records-length}
use Rattle.image_write_directory.specs.Emitting.{Emits, Progress}
use Rattle.image_read_parts.specs.Standing.{head_of}
use Rattle.image_read_parts.specs.Parts.{list_of}
use Rattle.image_places_spec.specs.Places.{stmt_at, StmtStands, Begins}
use Rattle.image_places_spec.proofs.PlaceLaws.{begins-left, begins-right}
use Rattle.image_places_spec.proofs.Steps.{ClausesLeft, ClauseNext, clause-turn, clauses-end, BodiesLeft, BodyNext, body-next, body-turn, bodies-end}
use Rattle.scope_spec.specs.FreeRows.{mask_of, row_under, rows_stmt, rows_clauses, rows_bodies}
use Rattle.scope_spec.proofs.FreeViews.{rows-length}
use Rattle.image_read_parts.specs.Indexed.{record_at}
use Rattle.image_read_nodes.proofs.StepLaws.{clause-kind}
use Rattle.pass_work_spec.specs.Work.{Work, owns, work_stmt, work_clauses}
use Rattle.pass_work_spec.specs.Placed.{AllFit, AllFitClauses}
use Rattle.pass_work_spec.proofs.Rooms.{here-fits, clauses-fit}
use Rattle.pass_work_spec.proofs.Bounds.{work_rises_clauses}
use Rattle.pass_context.specs.Holding.{work_of, HoldsWork}
use Rattle.pass_context.proofs.Counts.{work-count}
use Rattle.pass_context.specs.declared.Held.{Held}
use Rattle.pass_step_spec.specs.Steps.{work_bodies}
use Rattle.pass_step_spec.proofs.WorkViews.{body_done, rest_done, clause-view, bodies-view}
use Rattle.pass_step_spec.proofs.StepBounds.{bodies_rise}
use Rattle.pass_step.specs.Stepping.{RoomAt, SourceAt, Workable, Steps, Stepped}
use Rattle.pass_clause.specs.Entering.{entering}
use Rattle.pass_walk.specs.Walking.{RoomTo, StmtAhead, ClausesAhead, BodiesAhead, LinearizedTo, Linearized, Sources}
use Rattle.pass_walk.proofs.RoomLaws.{room-here, room-first, Writing, writing-begun, writing_on, writing_as, writing-done}
use Rattle.pass_walk.proofs.SourceLaws.{source-at}

-- ── a body under its parameters ──

-- a record with parameters is written, and this is the context of its body
pub record Entered (w : ℕ) (out out' lengths lengths' : List ℕ) (p : Progress) (st : Stepped) (r : Record) (W : Work) (n : ℕ) : Type 0 where
  pub emits : Emits w out out' lengths lengths' p st.progress (r ∷ [])
  pub context : HoldsWork st.context W
  pub in_scope_lem : st.in_scope ≡ n
  pub max_id : st.progress.max_id ≡ p.max_id

pub entered : {w : ℕ} {out out' lengths lengths' : List ℕ} {p : Progress} {st : Stepped} {r r' : Record} (before : Bool) (W : Work) (n : ℕ) → r ≡ r'
    → Steps w out out' lengths lengths' p st (entering r before W n p.max_id)
    → Entered w out out' lengths lengths' p st r' (cond before (owns n (list_of r') ++ W) (W ++ owns n (list_of r'))) (n + length (list_of r'))
unfolding entering
entered {w} {out} {out'} {lengths} {lengths'} {p} {st} before W n e x =
    let y = subst (λ (z : Record). Steps w out out' lengths lengths' p st (entering z before W n p.max_id)) e x in
    record { emits = y.emits; context = y.context; in_scope_lem = y.in_scope_lem; max_id = y.max_id }

-- the body at i has the rows from 2 i on, fits, and there is room for it
pub body-ahead : {g : Frame} {s rows out out' lengths lengths' : List ℕ} {width d i n : ℕ} {p : Progress} {st : Stepped} {r : Record} {W : Work} (Δ : List VarId) → Sources g s
    → StmtStands d (records_in g s) i (stmt_at d (records_in g s) i) → Entered width out out' lengths lengths' p st r W n
    → Begins rows (2 * i) (rows_stmt (stmt_at d (records_in g s) i) Δ) → AllFit (stmt_at d (records_in g s) i) Δ W n
    → (let b = work_stmt (stmt_at d (records_in g s) i) W n p.max_id in RoomTo width st.progress (flatten b.0) b.1)
    → StmtAhead g s rows width d i st.context st.in_scope st.progress (stmt_at d (records_in g s) i)
body-ahead {g} {s} {width = width} {d = d} {i = i} {n = n} {p = p} {st = st} {W = W} Δ q x e b f r =
    let t = stmt_at d (records_in g s) i in
    let same : work_stmt t W n p.max_id ≡ work_stmt t (work_of st.context) st.in_scope st.progress.max_id = sym (rw (e.context.list, e.in_scope_lem, e.max_id) refl) in
    record {
      sources = q;
      stands = x;
      scope = Δ;
      rows_are = b;
      fits = rw (e.context.list, e.in_scope_lem) f;
      room = subst (λ (u : Stmt × ℕ). RoomTo width st.progress (flatten u.0) u.1) same r;
    }

-- ── what is left of clauses ──

-- the first clauses are written; the rows have the masks of those that are left, the context fits, and there is room
pub record ClausesWriting (w : ℕ) (rows : List ℕ) (before : Bool) (held : Held) (n : ℕ) (all : List Record) (top : ℕ) (out out' lengths lengths' : List ℕ) (p : Progress) (z : Linearized) (cs : Clauses) : Type 0 where
  pub scope : List VarId
  pub rows_are : Begins rows (2 * z.next) (rows_clauses cs scope)
  pub fits : AllFitClauses cs before scope (work_of held) n
  pub writing : Writing w all top out out' lengths lengths' p z.progress (flatten_clauses (work_clauses cs before (work_of held) n z.progress.max_id).0) (work_clauses cs before (work_of held) n z.progress.max_id).1

pub clauses-begun : {g : Frame} {s rows : List ℕ} {width d k i : ℕ} {before : Bool} {held : Held} {n : ℕ} {p : Progress} {cs : Clauses} (out lengths : List ℕ) → ClausesAhead g s rows width d k i before held n p cs
    → ClausesWriting width rows before held n (flatten_clauses (work_clauses cs before (work_of held) n p.max_id).0) (work_clauses cs before (work_of held) n p.max_id).1 out out lengths lengths p (record { next = i; progress = p }) cs
clauses-begun out lengths h = record { scope = h.scope; rows_are = h.rows_are; fits = h.fits; writing = writing-begun out lengths h.room }

module _ {g : Frame} {s rows : List ℕ} {width : ℕ} (q : Sources g s) {d : ℕ} {before : Bool} {held : Held} {n : ℕ} {all : List Record} {top : ℕ} {out out' lengths lengths' : List ℕ} {p : Progress} {place left : ℕ} {z : Linearized}
    (x : ClauseNext d (records_in g s) place left z.next (ClausesWriting width rows before held n all top out out' lengths lengths' p z)) where
  abbrev t : Stmt
  t = stmt_at d (records_in g s) (z.next + 1)

  abbrev m : ℕ
  m = z.progress.max_id

  abbrev Δ : List VarId
  Δ = x.holds.scope

  abbrev body_is : Stmt × ℕ
  body_is = body_done x.name x.context t x.rest before (work_of held) n m

  abbrev rest_is : Clauses × ℕ
  rest_is = rest_done x.name x.context t x.rest before (work_of held) n m

  is_clause : record_at g s z.next ≡ clause' x.name x.context
  is_clause = ap head_of x.head

  fits : AllFit t (Δ ++ ids x.context) (cond before (owns n x.context ++ work_of held) (work_of held ++ owns n x.context)) (n + length x.context) × AllFitClauses x.rest before Δ (work_of held) n
  unfolding AllFit
  fits = x.holds.fits

  -- the clause's record, its body and the clauses behind it are ahead
  ahead : Writing width all top out out' lengths lengths' p z.progress ((clause' x.name x.context ∷ []) ++ (flatten body_is.0 ++ flatten_clauses rest_is.0)) rest_is.1
  ahead = let v = clause-view x.name x.context t x.rest before (work_of held) n m in writing_as v.flat v.max x.holds.writing

  rows-ahead : Begins rows (2 * (z.next + 1)) (rows_stmt t (Δ ++ ids x.context) ++ rows_clauses x.rest Δ)
  unfolding rows_stmt row_under
  rows-ahead = subst (λ (j : ℕ). Begins rows j (rows_stmt t (Δ ++ ids x.context) ++ rows_clauses x.rest Δ)) (omega arith)
      (begins-right (0 ∷ mask_of (free_vars t) (Δ ++ ids x.context) ∷ []) _ x.holds.rows_are)

  pub clause-source : Ready g s → SourceAt g s z.next 11
  clause-source ready = source-at ready q (record { inside = omega (arith, x.inside, records-length g s ready); kind = clause-kind x })

  pub clause-workable : Workable held n (length (list_of (record_at g s z.next)))
  clause-workable =
      let f = clauses-fit x.rest before Δ (work_of held) n fits.1 in
      let b = (here-fits t _ _ _ fits.0).room in
      let e = ap (λ (r : Record). length (list_of r)) is_clause in
      record { room = omega (arith, work-count held, f.placed.fits, f.count, b, e); places = omega (arith, b, e) }

  pub clause-room : RoomAt z.progress
  clause-room = room-here x.holds.writing.room (work_rises_clauses _ before (work_of held) n m)

  module _ {out₁ lengths₁ : List ℕ} {st : Stepped} (y : Steps width out' out₁ lengths' lengths₁ z.progress st (entering (record_at g s z.next) before (work_of held) n m)) where
    here : Entered width out' out₁ lengths' lengths₁ z.progress st (clause' x.name x.context) (cond before (owns n x.context ++ work_of held) (work_of held ++ owns n x.context)) (n + length x.context)
    here = entered before (work_of held) n is_clause y

    behind : Writing width all top out out₁ lengths lengths₁ p st.progress (flatten body_is.0 ++ flatten_clauses rest_is.0) rest_is.1
    behind = writing_on (clause' x.name x.context ∷ []) (flatten body_is.0 ++ flatten_clauses rest_is.0) ahead refl here.emits

    pub clause-body : StmtAhead g s rows width d (z.next + 1) st.context st.in_scope st.progress t
    clause-body = body-ahead (Δ ++ ids x.context) q x.body here (begins-left (rows_stmt t (Δ ++ ids x.context)) _ rows-ahead) fits.0
        (room-first (flatten body_is.0) (flatten_clauses rest_is.0) behind.room (work_rises_clauses x.rest before (work_of held) n body_is.1))

    pub clause-done : {out₂ lengths₂ : List ℕ} {v : Linearized}
        → (let b = work_stmt t (work_of st.context) st.in_scope st.progress.max_id in LinearizedTo width out₁ out₂ lengths₁ lengths₂ st.progress v (z.next + 1 + length (flatten t)) (flatten b.0) b.1)
        → ClausesLeft d (records_in g s) place (left - 1) v.next (ClausesWriting width rows before held n all top out out₂ lengths lengths₂ p v)
    clause-done {out₂} {lengths₂} {v} w =
        let same : work_stmt t (work_of st.context) st.in_scope st.progress.max_id ≡ body_is = rw (here.context.list, here.in_scope_lem, here.max_id) in
        let body : Emits width out₁ out₂ lengths₁ lengths₂ st.progress v.progress (flatten body_is.0) =
        subst (λ (u : Stmt × ℕ). Emits width out₁ out₂ lengths₁ lengths₂ st.progress v.progress (flatten u.0)) same w.writes.emits in
        let max : v.progress.max_id ≡ body_is.1 = w.writes.max_id ∙ ap (λ (u : Stmt × ℕ). u.1) same in
        let rest : work_clauses x.rest before (work_of held) n v.progress.max_id ≡ rest_is = ap (λ (u : ℕ). work_clauses x.rest before (work_of held) n u) max in
        clause-turn x w.next_is (record {
          scope = Δ;
          rows_are = subst (λ (j : ℕ). Begins rows j (rows_clauses x.rest Δ)) (omega (arith, w.next_is, rows-length t (Δ ++ ids x.context))) (begins-right (rows_stmt t (Δ ++ ids x.context)) (rows_clauses x.rest Δ) rows-ahead);
          fits = fits.1;
          writing = writing_as (ap (λ (u : Clauses × ℕ). flatten_clauses u.0) (sym rest)) (ap (λ (u : Clauses × ℕ). u.1) (sym rest)) (writing_on (flatten body_is.0) (flatten_clauses rest_is.0) behind refl body);
        })

pub clauses-done : {w : ℕ} {rows : List ℕ} {d : ℕ} {rs : List Record} {before : Bool} {held : Held} {n : ℕ} {all : List Record} {top : ℕ} {out out' lengths lengths' : List ℕ} {p : Progress} {place left : ℕ} {z : Linearized}
    → ClausesLeft d rs place left z.next (ClausesWriting w rows before held n all top out out' lengths lengths' p z) → left ≡ 0 → LinearizedTo w out out' lengths lengths' p z place all top
unfolding work_stmt flatten
clauses-done l h = let e = clauses-end l h in record { next_is = e.0; writes = writing-done e.1.writing }

-- ── what is left of bodies ──

pub record BodiesWriting (w : ℕ) (rows : List ℕ) (held : Held) (n : ℕ) (all : List Record) (top : ℕ) (out out' lengths lengths' : List ℕ) (p : Progress) (z : Linearized) (ts : List Stmt) : Type 0 where
  pub scope : List VarId
  pub rows_are : Begins rows (2 * z.next) (rows_bodies ts scope)
  pub fits : All (λ (t : Stmt). AllFit t scope (work_of held) n) ts
  pub writing : Writing w all top out out' lengths lengths' p z.progress (each flatten (work_bodies ts (work_of held) n z.progress.max_id).0) (work_bodies ts (work_of held) n z.progress.max_id).1

pub bodies-begun : {g : Frame} {s rows : List ℕ} {width d k i : ℕ} {held : Held} {n : ℕ} {p : Progress} {ts : List Stmt} (out lengths : List ℕ) → BodiesAhead g s rows width d k i held n p ts
    → BodiesWriting width rows held n (each flatten (work_bodies ts (work_of held) n p.max_id).0) (work_bodies ts (work_of held) n p.max_id).1 out out lengths lengths p (record { next = i; progress = p }) ts
bodies-begun out lengths h = record { scope = h.scope; rows_are = h.rows_are; fits = h.fits; writing = writing-begun out lengths h.room }

module _ {g : Frame} {s rows : List ℕ} {width : ℕ} (q : Sources g s) {d : ℕ} {held : Held} {n : ℕ} {all : List Record} {top : ℕ} {out out' lengths lengths' : List ℕ} {p : Progress} {place left : ℕ} {z : Linearized}
    (x : BodyNext d (records_in g s) place left z.next (BodiesWriting width rows held n all top out out' lengths lengths' p z)) where
  abbrev first : Stmt
  first = stmt_at d (records_in g s) z.next

  abbrev first_is : Stmt × ℕ
  first_is = work_stmt first (work_of held) n z.progress.max_id

  ahead' : Writing width all top out out' lengths lengths' p z.progress (flatten first_is.0 ++ each flatten (work_bodies x.rest (work_of held) n first_is.1).0) (work_bodies x.rest (work_of held) n first_is.1).1
  ahead' = let v = bodies-view first x.rest (work_of held) n z.progress.max_id in writing_as v.flat v.max x.holds.writing

  pub first_body : StmtAhead g s rows width d z.next held n z.progress first
  first_body = record {
    sources = q;
    stands = x.body;
    scope = x.holds.scope;
    rows_are = begins-left (rows_stmt first x.holds.scope) _ x.holds.rows_are;
    fits = x.holds.fits.0;
    room = room-first (flatten first_is.0) _ ahead'.room (bodies_rise x.rest (work_of held) n first_is.1);
  }

  pub body-done : {out₁ lengths₁ : List ℕ} {v : Linearized}
      → LinearizedTo width out' out₁ lengths' lengths₁ z.progress v (z.next + length (flatten first)) (flatten first_is.0) first_is.1
      → BodiesLeft d (records_in g s) place (left - 1) v.next (BodiesWriting width rows held n all top out out₁ lengths lengths₁ p v)
  body-done {v = v} w =
      let rest : work_bodies x.rest (work_of held) n first_is.1 ≡ work_bodies x.rest (work_of held) n v.progress.max_id = ap (λ (u : ℕ). work_bodies x.rest (work_of held) n u) (sym w.writes.max_id) in
      body-turn x w.next_is (record {
        scope = x.holds.scope;
        rows_are = subst (λ (j : ℕ). Begins rows j (rows_bodies x.rest x.holds.scope)) (omega (arith, w.next_is, rows-length first x.holds.scope))
            (begins-right (rows_stmt first x.holds.scope) (rows_bodies x.rest x.holds.scope) x.holds.rows_are);
        fits = x.holds.fits.1;
        writing = writing_as (ap (λ (u : List Stmt × ℕ). each flatten u.0) rest) (ap (λ (u : List Stmt × ℕ). u.1) rest) (writing_on (flatten first_is.0) _ ahead' refl w.writes.emits);
      })

pub bodies-done : {w : ℕ} {rows : List ℕ} {d : ℕ} {rs : List Record} {held : Held} {n : ℕ} {all : List Record} {top : ℕ} {out out' lengths lengths' : List ℕ} {p : Progress} {place left : ℕ} {z : Linearized}
    → BodiesLeft d rs place left z.next (BodiesWriting w rows held n all top out out' lengths lengths' p z) → left ≡ 0 → LinearizedTo w out out' lengths lengths' p z place all top
unfolding work_bodies
bodies-done l h = let e = bodies-end l h in record { next_is = e.0; writes = writing-done e.1.writing }

-- ── one body is its statement ──

module _ {g : Frame} {s rows : List ℕ} {width d k i : ℕ} {held : Held} {n : ℕ} {p : Progress} {ts : List Stmt} (one : k ≡ 1) (h : BodiesAhead g s rows width d k i held n p ts) where
  abbrev bodies_are : List Stmt × ℕ
  bodies_are = work_bodies ts (work_of held) n p.max_id

  only : (out lengths : List ℕ) → BodyNext d (records_in g s) (i + length (each flatten ts)) k i (BodiesWriting width rows held n (each flatten bodies_are.0) bodies_are.1 out out lengths lengths p (record { next = i; progress = p }))
  only out lengths = body-next (record { rest = ts; stand = h.stand; size = refl; holds = bodies-begun out lengths h }) (omega (arith, one))

  pub one-body : StmtAhead g s rows width d i held n p (stmt_at d (records_in g s) i)
  one-body = first_body h.sources (only [] [])

  pub one-body-done : {out out' lengths lengths' : List ℕ} {v : Linearized}
      → (let t = stmt_at d (records_in g s) i in let b = work_stmt t (work_of held) n p.max_id in LinearizedTo width out out' lengths lengths' p v (i + length (flatten t)) (flatten b.0) b.1)
      → LinearizedTo width out out' lengths lengths' p v (i + length (each flatten ts)) (each flatten bodies_are.0) bodies_are.1
  one-body-done {out} {lengths = lengths} w = bodies-done (body-done h.sources (only out lengths) w) (omega (arith, one))
