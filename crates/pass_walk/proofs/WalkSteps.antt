-- The steps of the walk that linearizes. A statement: what its clauses need (`clauses-ahead`), what its bodies need once its records are
-- written (`Reached`, `bodies-ahead`), and what is done then (`statement-done`). Assumes nothing.
use Prim.Native.Nat.{ℕ, ◌+◌, ◌-◌, ◌*◌}
use mathlib.Core.Path.{◌≡◌, refl, sym, ap, ◌∙◌, subst}
use mathlib.Core.Bool.{Bool}
use mathlib.Core.List.{List, [], ◌++◌, append-nil, append_assoc}
use native.Mathlib.Omega.{arith}
use denote.Enum.Bare.{sameb}
use lib.ListN.{length, get_or}
use Rattle.model.specs.Syntax.{Stmt, Clauses, end}
use Rattle.image_spec.specs.Parse.{each}
use Rattle.image_spec.specs.Records.{Record, record_bytes}
use Rattle.image_spec.specs.Kinds.{clauses_of}
use Rattle.image_spec.specs.Shape.{flatten, flatten_clauses}
use Rattle.image_kinds.specs.declared.kinds.Kind.{Kind}
use Rattle.image_kinds.specs.declared.kinds.Kind.TheVariants.{Create}
use Rattle.image_kinds.specs.contracts.kinds.Kind.{the_type}
use Rattle.image_kinds.proofs.KindNames.{code-kind}
use Rattle.image_directory.specs.Slots.{records_in}
use Rattle.image_directory.specs.declared.Frame.{Frame}
use Rattle.image_write_directory.specs.Emitting.{Emits, Progress}
use Rattle.image_write_directory.proofs.EmitLaws.{emits_none, emits_then, emits_reserved, emits-count}
use Rattle.image_places_spec.specs.Views.{record_of, clauses_in, binders}
use Rattle.image_places_spec.specs.Places.{stmt_at, clauses_at, Begins}
use Rattle.image_places_spec.proofs.Steps.{Above, Below}
use Rattle.scope_spec.specs.FreeRows.{rows_clauses, rows_bodies}
use Rattle.image_read_parts.specs.Indexed.{record_at}
use Rattle.image_read_nodes.specs.Nodes.{Followed}
use Rattle.image_read_nodes.specs.declared.Follows.{Follows}
use Rattle.image_read_nodes.proofs.StepLaws.{above_at}
use Rattle.pass_work_spec.specs.Work.{Work, work_stmt, work_clauses}
use Rattle.pass_context.specs.Holding.{work_of, HoldsWork}
use Rattle.pass_context.specs.declared.Held.{Held}
use Rattle.pass_step_spec.specs.Steps.{Step, step_of, clause_context, params_first, work_bodies}
use Rattle.pass_step_spec.specs.Fronts.{front_records, front_bytes}
use Rattle.pass_step_spec.proofs.WorkViews.{free_in_clauses, free_in_bodies, clauses_done, step_done, bodies_done}
use Rattle.pass_step_spec.proofs.FrontLaws.{front-records, front-bytes}
use Rattle.pass_step.specs.Drawn.{drawn_to}
use Rattle.pass_step.specs.Stepping.{Says, RoomAt, Steps, Opens, OpensAs, Stepped, Opened}
use Rattle.pass_walk.specs.Walking.{RoomTo, StmtAhead, ClausesAhead, BodiesAhead, LinearizedTo, Linearized}
use Rattle.pass_walk.proofs.RoomLaws.{emits-at, room-first, room-second}
use Rattle.pass_walk.proofs.SourceLaws.{params_first_lem}
use Rattle.pass_walk.proofs.StatementLaws.{is_record, view, fit, drawn-step, drawn-bodies, room-view, rows-clauses, rows-bodies}

module _ {g : Frame} {s rows : List ℕ} {width d i : ℕ} {held : Held} {n : ℕ} {p : Progress} (h : StmtAhead g s rows width d i held n p (stmt_at d (records_in g s) i)) where
  abbrev here : Stmt
  here = stmt_at d (records_in g s) i

  abbrev W : Work
  W = work_of held

  abbrev C : Clauses × ℕ
  C = clauses_done here W n p.max_id

  abbrev S : Step
  S = step_done here W n p.max_id

  abbrev B : List Stmt × ℕ
  B = bodies_done here W n p.max_id

  -- ── its clauses ──

  -- so many are ahead, in the context that was opened for them
  pub record Begun (k : ℕ) (before : Bool) (o : Opened) : Type 0 where
    pub count : k ≡ clauses_of (record_at g s i)
    pub first : before ≡ params_first (record_at g s i)
    pub opens : Opens width (record_at g s i) (free_in_clauses here) (free_in_bodies here) W p o

  pub begun : {f : Follows} {before : Bool} {o : Opened} {clauses next : ℕ} → Followed g s i f → before ≡ sameb the_type f.kind Create
      → Says clauses (free_in_clauses here) W → Says next (free_in_bodies here) W → OpensAs width (record_at g s i) clauses next W p o → Begun f.clauses before o
  begun {f = follows} f e first second o = record {
    count = f.clauses;
    first = e ∙ ap (λ (z : Kind). sameb the_type z Create) (code-kind follows.kind (record_at g s i) (sym f.at.kind)) ∙ params_first_lem (record_at g s i);
    opens = o.opens (free_in_clauses here) (free_in_bodies here) first second;
  }

  module _ {k : ℕ} {before : Bool} {o : Opened} (x : Begun k before o) where
    abbrev cs : Clauses
    cs = clauses_at (d - 1) k (records_in g s) (i + 1)

    a : Above d (records_in g s) i k here cs
    a = above_at d (records_in g s) i h.stands k x.count

    first : before ≡ params_first (record_of here)
    first = x.first ∙ ap params_first (is_record h)

    in_clauses : work_of o.context ≡ clause_context (record_of here) (free_in_clauses here) (free_in_bodies here) W
    in_clauses = x.opens.context.list ∙ ap (λ (r : Record). clause_context r (free_in_clauses here) (free_in_bodies here) W) (is_record h)

    pub same-clauses : work_clauses cs before (work_of o.context) n o.progress.max_id ≡ C
    same-clauses = rw (a.are_clauses, first, in_clauses, x.opens.max_id)

    -- behind the place of the step's records
    behind-at : o.progress.at ≡ p.at + length (each (record_bytes width) S.front)
    behind-at = x.opens.at ∙ ap (λ (z : ℕ). p.at + z)
        (ap (λ (r : Record). front_bytes width r (free_in_clauses here) (free_in_bodies here) W) (is_record h) ∙ sym (front-bytes (record_of here) (free_in_clauses here) (free_in_bodies here) W n C.1 width))

    behind-count : o.progress.count ≡ p.count + length S.front
    behind-count = x.opens.count ∙ ap (λ (z : ℕ). p.count + z)
        (ap (λ (r : Record). front_records r (free_in_clauses here) (free_in_bodies here) W) (is_record h) ∙ sym (front-records (record_of here) (free_in_clauses here) (free_in_bodies here) W n C.1))

    -- room for the step, with the max_id after the clauses
    pub room-drawn : {out out₁ lengths lengths₁ : List ℕ} {z : Linearized} {place : ℕ} {q : Progress}
        → (let all = work_clauses cs before (work_of o.context) n o.progress.max_id in LinearizedTo width out out₁ lengths lengths₁ o.progress z place (flatten_clauses all.0) all.1)
        → q ≡ drawn_to p z.progress.max_id → RoomAt q
    room-drawn {z = z} y e =
        let m : z.progress.max_id ≡ C.1 = y.writes.max_id ∙ ap (λ (v : Clauses × ℕ). v.1) same-clauses in
        subst RoomAt (sym e) (record { at = omega (arith, (room-view h).at); count = omega (arith, (room-view h).count); max_id = omega (arith, m, (room-view h).max_id, drawn-step h, drawn-bodies h) })

    pub clauses-ahead : ClausesAhead g s rows width (d - 1) k (i + 1) before o.context n o.progress cs
    clauses-ahead = record {
      sources = h.sources;
      stand = a.clauses;
      scope = h.scope;
      rows_are = subst (λ (z : Clauses). Begins rows (2 * (i + 1)) (rows_clauses z h.scope)) (sym a.are_clauses) (rows-clauses h);
      fits = rw (a.are_clauses, first, in_clauses) (fit h).clauses;
      room = subst (λ (z : Clauses × ℕ). RoomTo width o.progress (flatten_clauses z.0) z.1) (sym same-clauses)
          (room-first (flatten_clauses C.0) (each flatten B.0) (room-second S.front (flatten_clauses C.0 ++ each flatten B.0) (room-view h) behind-at behind-count) (omega (arith, drawn-step h, drawn-bodies h)));
    }

  -- ── its bodies ──

  -- the step's records and the clauses are written, up to q, and this is the context for the bodies
  pub record Reached (out out' lengths lengths' : List ℕ) (q : Progress) (st : Stepped) : Type 0 where
    pub emits : Emits width out out' lengths lengths' p q (S.front ++ flatten_clauses C.0)
    pub context : HoldsWork st.context S.context
    pub in_scope_lem : st.in_scope ≡ S.in_scope_lem
    pub max_id : q.max_id ≡ S.max_id

  -- without clauses
  pub next-straight : {k : ℕ} → k ≡ clauses_of (record_at g s i) → clauses_in here ≡ end → i + 1 ≡ i + 1 + length (flatten_clauses (clauses_at (d - 1) k (records_in g s) (i + 1)))
  unfolding flatten
  next-straight c e = omega (arith, ap (λ (z : Clauses). length (flatten_clauses z)) ((above_at d (records_in g s) i h.stands _ c).are_clauses ∙ e))

  pub reached-straight : {out out' lengths lengths' : List ℕ} {st : Stepped} → clauses_in here ≡ end
      → Steps width out out' lengths lengths' p st (step_of (record_at g s i) (free_in_clauses here) (free_in_bodies here) W n p.max_id)
      → Reached out out' lengths lengths' st.progress st
  unfolding work_stmt flatten
  reached-straight {out} {out'} {lengths} {lengths'} {st} e x =
      let none : C ≡ (end, p.max_id) = rw e in
      let same : step_of (record_at g s i) (free_in_clauses here) (free_in_bodies here) W n p.max_id ≡ S = rw (is_record h, none) in
      let y : Steps width out out' lengths lengths' p st S = subst (Steps width out out' lengths lengths' p st) same x in
      record {
        emits = subst (Emits width out out' lengths lengths' p st.progress) (sym (ap (λ (z : Clauses × ℕ). S.front ++ flatten_clauses z.0) none ∙ append-nil S.front)) y.emits;
        context = y.context;
        in_scope_lem = y.in_scope_lem;
        max_id = y.max_id;
      }

  -- behind clauses, once they are done
  pub reached-opened : {k : ℕ} {before : Bool} {o : Opened} (x : Begun k before o)
      {out out₁ out₂ lengths lengths₁ lengths₂ : List ℕ} {z : Linearized} {place : ℕ} {q r : Progress} {st : Stepped}
      → (let cs = work_clauses (clauses_at (d - 1) k (records_in g s) (i + 1)) before (work_of o.context) n o.progress.max_id in LinearizedTo width out out₁ lengths lengths₁ o.progress z place (flatten_clauses cs.0) cs.1)
      → q ≡ drawn_to p z.progress.max_id
      → Steps width out₁ out₂ lengths₁ lengths₂ q st (step_of (record_at g s i) (free_in_clauses here) (free_in_bodies here) W n q.max_id)
      → r ≡ drawn_to z.progress st.progress.max_id
      → Reached out out₂ lengths lengths₂ r st
  reached-opened {o = o} x {out} {out₁} {out₂} {lengths} {lengths₁} {lengths₂} {z} {place} {q} {r} {st} y e t u =
      let max : z.progress.max_id ≡ C.1 = y.writes.max_id ∙ ap (λ (v : Clauses × ℕ). v.1) (same-clauses x) in
      let same : step_of (record_at g s i) (free_in_clauses here) (free_in_bodies here) W n z.progress.max_id ≡ S = rw (is_record h, max) in
      let t' : Steps width out₁ out₂ lengths₁ lengths₂ (drawn_to p z.progress.max_id) st S =
      subst (Steps width out₁ out₂ lengths₁ lengths₂ (drawn_to p z.progress.max_id) st) same
      (subst (λ (v : Progress). Steps width out₁ out₂ lengths₁ lengths₂ v st (step_of (record_at g s i) (free_in_clauses here) (free_in_bodies here) W n v.max_id)) e t) in
      let clauses : Emits width out out₁ lengths lengths₁ o.progress z.progress (flatten_clauses C.0) =
      subst (λ (v : Clauses × ℕ). Emits width out out₁ lengths lengths₁ o.progress z.progress (flatten_clauses v.0)) (same-clauses x) y.writes.emits in
      let front : Emits width out₁ out₂ lengths₁ lengths₂ p st.progress S.front = record { bytes = t'.emits.bytes; noted = t'.emits.noted } in
      let both : Emits width out out₂ lengths lengths₂ p z.progress (S.front ++ flatten_clauses C.0) = emits_reserved (behind-at x) (behind-count x) clauses front in
      let drawn : Emits width out out₂ lengths lengths₂ p (drawn_to z.progress st.progress.max_id) (S.front ++ flatten_clauses C.0) = record { bytes = both.bytes; noted = both.noted } in
      record {
        emits = subst (λ (v : Progress). Emits width out out₂ lengths lengths₂ p v (S.front ++ flatten_clauses C.0)) (sym u) drawn;
        context = t'.context;
        in_scope_lem = t'.in_scope_lem;
        max_id = ap (λ (v : Progress). v.max_id) u ∙ t'.max_id;
      }

  module _ {k m next : ℕ} {cs : Clauses} {ts : List Stmt} (b : Below d (records_in g s) i k m next here (record_at g s i) cs ts)
      {out out₁ lengths lengths₁ : List ℕ} {q : Progress} {st : Stepped} (r : Reached out out₁ lengths lengths₁ q st) where
    same-bodies : work_bodies ts (work_of st.context) st.in_scope q.max_id ≡ B
    same-bodies = rw (b.are_bodies, r.context.list, r.in_scope_lem, r.max_id)

    pub bodies-ahead : BodiesAhead g s rows width (d - 1) m next st.context st.in_scope q ts
    bodies-ahead = record {
      sources = h.sources;
      stand = b.bodies;
      scope = h.scope ++ binders (record_of here);
      rows_are = subst (λ (z : List Stmt). Begins rows (2 * next) (rows_bodies z (h.scope ++ binders (record_of here)))) (sym b.are_bodies)
          (rows-bodies h next (b.clauses_size ∙ ap (λ (z : Clauses). i + 1 + length (flatten_clauses z)) b.are_clauses));
      fits = rw (b.are_bodies, r.context.list, r.in_scope_lem) ((fit h).bodies C.1);
      room = subst (λ (z : List Stmt × ℕ). RoomTo width q (each flatten z.0) z.1) (sym same-bodies)
          (room-second (S.front ++ flatten_clauses C.0) (each flatten B.0)
          (subst (λ (z : List Record). RoomTo width p z B.1) (sym (append_assoc S.front (flatten_clauses C.0) (each flatten B.0))) (room-view h))
          (emits-at r.emits) (emits-count r.emits));
    }

    pub statement-done : {out₂ lengths₂ : List ℕ} {z : Linearized}
        → (let bs = work_bodies ts (work_of st.context) st.in_scope q.max_id in LinearizedTo width out₁ out₂ lengths₁ lengths₂ q z (next + length (each flatten ts)) (each flatten bs.0) bs.1)
        → LinearizedTo width out out₂ lengths lengths₂ p z (i + length (flatten here)) (flatten (work_stmt here W n p.max_id).0) (work_stmt here W n p.max_id).1
    statement-done {out₂} {lengths₂} {z} y =
        let all : (S.front ++ flatten_clauses C.0) ++ each flatten (work_bodies ts (work_of st.context) st.in_scope q.max_id).0 ≡ flatten (work_stmt here W n p.max_id).0 =
        ap (λ (v : List Stmt × ℕ). (S.front ++ flatten_clauses C.0) ++ each flatten v.0) same-bodies ∙ append_assoc S.front (flatten_clauses C.0) (each flatten B.0) ∙ sym (view h).flat in
        record {
          next_is = y.next_is ∙ sym b.size;
          writes = record {
            emits = subst (Emits width out out₂ lengths lengths₂ p z.progress) all (emits_then r.emits y.writes.emits);
            max_id = y.writes.max_id ∙ ap (λ (v : List Stmt × ℕ). v.1) same-bodies ∙ sym (view h).max;
          };
        }

    -- without bodies
    pub statement-ended : ts ≡ []
        → LinearizedTo width out out₁ lengths lengths₁ p (record { next = next; progress = q }) (i + length (flatten here)) (flatten (work_stmt here W n p.max_id).0) (work_stmt here W n p.max_id).1
    unfolding work_bodies flatten
    statement-ended e = statement-done (
        subst (λ (us : List Stmt). let bs = work_bodies us (work_of st.context) st.in_scope q.max_id in
        LinearizedTo width out₁ out₁ lengths₁ lengths₁ q (record { next = next; progress = q }) (next + length (each flatten us)) (each flatten bs.0) bs.1)
        (sym e) (record { next_is = omega arith; writes = record { emits = emits_none width out₁ lengths₁ q; max_id = refl } }))
