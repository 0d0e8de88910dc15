-- One definition: what stands before its body, the body, and what is written then. And definitions one after the other: the first of those that
-- are left, and what is left behind it. Assumes nothing.
use Prim.Native.Nat.{ℕ, ◌+◌, ◌-◌, ◌*◌, ◌≤◌}
use mathlib.Core.Path.{◌≡◌, refl, sym, ap, ◌∙◌, subst}
use mathlib.Core.Bool.{false}
use mathlib.Core.List.{List, [], ◌∷◌, ◌++◌, append-nil, append_assoc}
use native.Mathlib.Omega.{arith}
use lib.ListN.{length, length-append}
use Rattle.syntax.specs.Context.{ids}
use Rattle.model.specs.Syntax.{Stmt, Def}
use Rattle.model.specs.FreeVars.{free_vars}
use Rattle.image_spec.specs.Records.{Record, definition}
use Rattle.image_spec.specs.Kinds.{kind_of}
use Rattle.image_spec.specs.Shape.{flatten, flatten_defs}
use Rattle.image_directory.specs.Slots.{Ready, records_in}
use Rattle.image_directory.specs.declared.Frame.{Frame}
use Rattle.image_directory.proofs.Places.{records-length}
use Rattle.image_write_directory.specs.Emitting.{Emits, Progress}
use Rattle.image_write_directory.proofs.EmitLaws.{emits_then, emits-count}
use Rattle.image_read_parts.specs.Standing.{head_of}
use Rattle.image_read_parts.specs.Parts.{list_of}
use Rattle.image_places_spec.specs.Places.{stmt_at, Begins}
use Rattle.image_places_spec.proofs.PlaceLaws.{begins-left, begins-right, head-within}
use Rattle.scope_spec.specs.FreeRows.{mask_of, row_under, rows_stmt, rows_defs}
use Rattle.scope_spec.proofs.FreeViews.{rows-length}
use Rattle.image_read_nodes.specs.Nodes.{first_of}
use Rattle.image_read_parts.specs.Indexed.{record_at}
use Rattle.scope_check.proofs.DefLaws.{DefParts, def-parts, DefsLeft, DefNext, def_of, def-turn, defs-end}
use Rattle.pass_work_spec.specs.Work.{Work, owns, work_stmt, work_defs}
use Rattle.pass_work_spec.specs.Placed.{AllFitDefs}
use Rattle.pass_work_spec.proofs.Rooms.{here-fits}
use Rattle.pass_context.specs.Holding.{work_of, HoldsWork}
use Rattle.pass_context.specs.declared.Held.{Held}
use Rattle.pass_step_spec.proofs.WorkViews.{def_done, defs_done, defs-view}
use Rattle.pass_step_spec.proofs.StepBounds.{defs_rise}
use Rattle.pass_step.specs.Stepping.{RoomAt, SourceAt, Workable, Steps, Stepped}
use Rattle.pass_clause.specs.Entering.{entering}
use Rattle.pass_walk.specs.Walking.{StmtAhead, RoomTo, Writes, LinearizedTo, Linearized, Sources}
use Rattle.pass_walk.proofs.RoomLaws.{emits-at, room-here, room-first, room-second, Writing, writing-begun, writing_on, writing_as, writing-done}
use Rattle.pass_walk.proofs.SourceLaws.{source-at}
use Rattle.pass_walk.proofs.LoopSteps.{Entered, entered, body-ahead}
use Rattle.pass_definitions.specs.Defining.{def_at, DefsAhead}

-- ── one definition by itself ──

-- its records, and the max_id at its end
module _ (e : Def) (m : ℕ) where
  abbrev done : Stmt × ℕ
  done = def_done e [] m

  alone-records : flatten_defs (work_defs (e ∷ []) m).0 ≡ (definition e.name e.context ∷ []) ++ flatten done.0
  unfolding work_defs flatten_defs
  alone-records = ap (λ (R : List Record). definition e.name e.context ∷ R) (append-nil (flatten done.0))

  alone-max : (work_defs (e ∷ []) m).1 ≡ done.1
  unfolding work_defs
  alone-max = refl

alone-length : (e : Def) → length (flatten_defs (e ∷ [])) ≡ 1 + length (flatten e.body)
unfolding flatten_defs
alone-length e = omega (arith, length-append (flatten e.body) [])

rows-alone : (e : Def) (es : List Def) → rows_defs (e ∷ es) ≡ rows_defs (e ∷ []) ++ rows_defs es
unfolding rows_defs row_under
rows-alone e es =
    ap (λ (l : List ℕ). 0 ∷ mask_of (free_vars e.body) (ids e.context) ∷ l)
    (ap (λ (l : List ℕ). l ++ rows_defs es) (sym (append-nil (rows_stmt e.body (ids e.context)))))

rows-alone-length : (e : Def) → length (rows_defs (e ∷ [])) ≡ 2 + 2 * length (flatten e.body)
unfolding rows_defs row_under
rows-alone-length e = omega (arith, rows-length e.body (ids e.context), length-append (rows_stmt e.body (ids e.context)) [])

module _ {g : Frame} {s rows : List ℕ} {width i : ℕ} {p : Progress} (h : DefsAhead g s rows width 1 i p (def_at (records_in g s) i ∷ [])) where
  abbrev one : Def
  one = def_at (records_in g s) i

  abbrev m : ℕ
  m = p.max_id

  parts : DefParts 64 1 (records_in g s) i one []
  parts = def-parts one [] h.stand

  is_definition : record_at g s i ≡ definition one.name one.context
  is_definition = ap head_of parts.head

  room : RoomTo width p ((definition one.name one.context ∷ []) ++ flatten (done one m).0) (done one m).1
  room = subst (λ (R : List Record). RoomTo width p R (done one m).1) (alone-records one m) (subst (RoomTo width p (flatten_defs (work_defs (one ∷ []) m).0)) (alone-max one m) h.room)

  rows-body : Begins rows (2 * (i + 1)) (rows_stmt one.body (ids one.context))
  unfolding rows_defs row_under
  rows-body =
      subst (λ (j : ℕ). Begins rows j (rows_stmt one.body (ids one.context))) (omega arith)
      (begins-left (rows_stmt one.body (ids one.context)) [] (begins-right (0 ∷ mask_of (free_vars one.body) (ids one.context) ∷ []) _ h.rows_are))

  pub def-inside : i + 1 ≤ length (records_in g s)
  def-inside = omega (arith, head-within (records_in g s) i (definition one.name one.context) parts.head)

  pub def-source : Ready g s → SourceAt g s i 1
  def-source ready = source-at ready h.sources (record { inside = omega (arith, def-inside, records-length g s ready); kind = ap kind_of is_definition })

  pub def-room : RoomAt p
  def-room = room-here h.room (defs_rise (one ∷ []) m)

  pub def-workable : {none : Held} → HoldsWork none [] → Workable none 0 (length (list_of (record_at g s i)))
  def-workable o =
      let b = (here-fits one.body _ _ _ h.fits.0).room in
      let e = ap (λ (r : Record). length (list_of r)) is_definition in
      record { room = omega (arith, o.count, b, e); places = omega (arith, b, e) }

  -- its record is written, and its parameters are the context
  module _ {none : Held} (o : HoldsWork none []) {out out₁ lengths lengths₁ : List ℕ} {st : Stepped}
      (y : Steps width out out₁ lengths lengths₁ p st (entering (record_at g s i) false (work_of none) 0 m)) where
    here : Entered width out out₁ lengths lengths₁ p st (definition one.name one.context) (owns 0 one.context) (length one.context)
    here =
        let e = entered false (work_of none) 0 is_definition y in
        record { emits = e.emits; context = subst (λ (W : Work). HoldsWork st.context (W ++ owns 0 one.context)) o.list e.context; in_scope_lem = e.in_scope_lem ∙ omega arith; max_id = e.max_id }

    pub def_body : StmtAhead g s rows width 64 (i + 1) st.context st.in_scope st.progress one.body
    def_body = body-ahead (ids one.context) h.sources parts.body here rows-body h.fits.0
        (room-second (definition one.name one.context ∷ []) (flatten (done one m).0) room (emits-at here.emits) (emits-count here.emits))

    pub def-done : {out₂ lengths₂ : List ℕ} {v : Linearized}
        → (let b = work_stmt one.body (work_of st.context) st.in_scope st.progress.max_id in LinearizedTo width out₁ out₂ lengths₁ lengths₂ st.progress v (i + 1 + length (flatten one.body)) (flatten b.0) b.1)
        → LinearizedTo width out out₂ lengths lengths₂ p v (i + length (flatten_defs (one ∷ []))) (flatten_defs (work_defs (one ∷ []) m).0) (work_defs (one ∷ []) m).1
    def-done {out₂} {lengths₂} {v} w =
        let same : work_stmt one.body (work_of st.context) st.in_scope st.progress.max_id ≡ done one m = rw (here.context.list, here.in_scope_lem, here.max_id) in
        let body : Emits width out₁ out₂ lengths₁ lengths₂ st.progress v.progress (flatten (done one m).0) =
        subst (λ (u : Stmt × ℕ). Emits width out₁ out₂ lengths₁ lengths₂ st.progress v.progress (flatten u.0)) same w.writes.emits in
        record {
          next_is = w.next_is ∙ omega (arith, alone-length one);
          writes = record {
            emits = subst (Emits width out out₂ lengths lengths₂ p v.progress) (sym (alone-records one m)) (emits_then here.emits body);
            max_id = w.writes.max_id ∙ ap (λ (u : Stmt × ℕ). u.1) same ∙ sym (alone-max one m);
          };
        }

-- ── one after the other ──

-- the first definitions are written; the rows have the masks of those that are left, their contexts fit, and there is room
pub record DefsWriting (w : ℕ) (rows : List ℕ) (all : List Record) (top : ℕ) (out out' lengths lengths' : List ℕ) (p : Progress) (z : Linearized) (ds : List Def) : Type 0 where
  pub rows_are : Begins rows (2 * z.next) (rows_defs ds)
  pub fits : AllFitDefs ds
  pub writing : Writing w all top out out' lengths lengths' p z.progress (flatten_defs (work_defs ds z.progress.max_id).0) (work_defs ds z.progress.max_id).1

pub defs-begun : {g : Frame} {s rows : List ℕ} {width n i : ℕ} {p : Progress} {ds : List Def} (out lengths : List ℕ) → DefsAhead g s rows width n i p ds
    → DefsWriting width rows (flatten_defs (work_defs ds p.max_id).0) (work_defs ds p.max_id).1 out out lengths lengths p (record { next = i; progress = p }) ds
defs-begun out lengths h = record { rows_are = h.rows_are; fits = h.fits; writing = writing-begun out lengths h.room }

module _ {g : Frame} {s rows : List ℕ} {width : ℕ} (q : Sources g s) {all : List Record} {top : ℕ} {out out' lengths lengths' : List ℕ} {p : Progress} {left : ℕ} {z : Linearized}
    (x : DefNext 64 (records_in g s) left z.next (DefsWriting width rows all top out out' lengths lengths' p z)) where
  abbrev first : Def
  first = def_of x.name x.context (stmt_at 64 (records_in g s) (z.next + 1))

  abbrev max : ℕ
  max = z.progress.max_id

  abbrev behind : List Def × ℕ
  behind = defs_done first x.rest max

  is_first : def_at (records_in g s) z.next ≡ first
  is_first = ap (λ (l : List Record). record { name = first_of (head_of l); context = list_of (head_of l); body = first.body }) x.head

  ahead : Writing width all top out out' lengths lengths' p z.progress (((definition x.name x.context ∷ []) ++ flatten (done first max).0) ++ flatten_defs behind.0) behind.1
  ahead = let v = defs-view first x.rest max in writing_as v.flat v.max x.holds.writing

  rows-ahead : Begins rows (2 * z.next) (rows_defs (first ∷ []) ++ rows_defs x.rest)
  rows-ahead = subst (Begins rows (2 * z.next)) (rows-alone first x.rest) x.holds.rows_are

  alone : DefsAhead g s rows width 1 z.next z.progress (first ∷ [])
  unfolding flatten_defs
  alone =
      let b = x.body.begins in
      record {
        sources = q;
        stand = record {
          begins = record { rest = b.rest; split = x.head ∙ ap (λ (l : List Record). definition x.name x.context ∷ l) (b.split ∙ ap (λ (l : List Record). l ++ b.rest) (sym (append-nil (flatten first.body)))) };
          shallow = (x.body.shallow, tt);
          count = refl;
        };
        rows_are = begins-left (rows_defs (first ∷ [])) (rows_defs x.rest) rows-ahead;
        fits = (x.holds.fits.0, tt);
        room = rw (alone-records first max, alone-max first max)
            (room-first ((definition x.name x.context ∷ []) ++ flatten (done first max).0) (flatten_defs behind.0) ahead.room (defs_rise x.rest (done first max).1));
      }

  pub def-ahead : DefsAhead g s rows width 1 z.next z.progress (def_at (records_in g s) z.next ∷ [])
  def-ahead = subst (λ (e : Def). DefsAhead g s rows width 1 z.next z.progress (e ∷ [])) (sym is_first) alone

  -- it is done, and this is left
  pub def-left : {out₂ lengths₂ : List ℕ} {v : Linearized}
      → (let e = def_at (records_in g s) z.next in LinearizedTo width out' out₂ lengths' lengths₂ z.progress v (z.next + length (flatten_defs (e ∷ []))) (flatten_defs (work_defs (e ∷ []) max).0) (work_defs (e ∷ []) max).1)
      → DefsLeft 64 (records_in g s) (left - 1) v.next (DefsWriting width rows all top out out₂ lengths lengths₂ p v)
  def-left {out₂} {lengths₂} {v} l =
      let w = subst (λ (e : Def). LinearizedTo width out' out₂ lengths' lengths₂ z.progress v (z.next + length (flatten_defs (e ∷ []))) (flatten_defs (work_defs (e ∷ []) max).0) (work_defs (e ∷ []) max).1) is_first l in
      let rest : work_defs x.rest v.progress.max_id ≡ behind = ap (λ (u : ℕ). work_defs x.rest u) (w.writes.max_id ∙ alone-max first max) in
      let next : v.next ≡ z.next + 1 + length (flatten first.body) = w.next_is ∙ omega (arith, alone-length first) in
      def-turn x next (record {
        rows_are = subst (λ (j : ℕ). Begins rows j (rows_defs x.rest)) (omega (arith, next, rows-alone-length first)) (begins-right (rows_defs (first ∷ [])) (rows_defs x.rest) rows-ahead);
        fits = x.holds.fits.1;
        writing = writing_as (ap (λ (u : List Def × ℕ). flatten_defs u.0) (sym rest)) (ap (λ (u : List Def × ℕ). u.1) (sym rest))
            (writing_on ((definition x.name x.context ∷ []) ++ flatten (done first max).0) (flatten_defs behind.0) ahead refl (subst (Emits width out' out₂ lengths' lengths₂ z.progress v.progress) (alone-records first max) w.writes.emits));
      })

pub defs-done : {w : ℕ} {rows : List ℕ} {d : ℕ} {rs : List Record} {all : List Record} {top : ℕ} {out out' lengths lengths' : List ℕ} {p : Progress} {left : ℕ} {z : Linearized}
    → DefsLeft d rs left z.next (DefsWriting w rows all top out out' lengths lengths' p z) → left ≡ 0 → Writes w out out' lengths lengths' p z.progress all top
unfolding work_defs flatten_defs
defs-done l h = writing-done (defs-end l h).writing
