-- A statement that is ahead in the walk: its record and its parts, its kind, room for it in the context and in the output, its row and the rows
-- below it. Assumes nothing.
use Prim.Native.Nat.{ℕ, ◌+◌, ◌-◌, ◌*◌, ◌≤◌, ◌<◌}
use mathlib.Core.Path.{◌≡◌, sym, ap, ◌∙◌, subst}
use mathlib.Core.Bool.{true, false, ◌&&◌}
use mathlib.Core.List.{List, [], ◌∷◌, ◌++◌, append-nil}
use native.Mathlib.Omega.{arith}
use lib.Dec.{leb}
use lib.ListN.{length, get_or, length-drop}
use lib.Seq.{get_or-drop}
use Rattle.model.specs.Syntax.{Stmt, Clauses, end}
use Rattle.image_spec.specs.Parse.{each}
use Rattle.image_spec.specs.Records.{Record}
use Rattle.image_spec.specs.Kinds.{kind_of, bodies}
use Rattle.image_spec.specs.Shape.{flatten, flatten_clauses}
use Rattle.image_directory.specs.Slots.{Ready, records_in}
use Rattle.image_directory.specs.declared.Frame.{Frame}
use Rattle.image_directory.proofs.Places.{records-length}
use Rattle.image_write_directory.specs.Emitting.{Progress}
use Rattle.image_places_spec.specs.Views.{record_of, clauses_in, bodies_of, binders}
use Rattle.image_places_spec.specs.Places.{stmt_at, clauses_at, bodies_at, Begins}
use Rattle.image_places_spec.proofs.PlaceLaws.{begins-left, begins-right}
use Rattle.image_places_spec.proofs.Steps.{head-inside, Below}
use Rattle.scope_spec.specs.Flat.{plain_record_lem}
use Rattle.scope_spec.specs.FreeRows.{mask_of, row_of, rows_clauses, rows_bodies}
use Rattle.scope_spec.proofs.FreeViews.{Plain, rows-view, rows-clauses-length}
use Rattle.image_read_parts.specs.Indexed.{record_at}
use Rattle.image_read_nodes.specs.Nodes.{Followed}
use Rattle.image_read_nodes.specs.declared.Follows.{Follows}
use Rattle.image_read_nodes.proofs.StepLaws.{head_is, above_at, below_at}
use Rattle.scope_records.proofs.FlatLaws.{record_at_lem}
use Rattle.pass_work_spec.specs.Work.{Work, work_stmt}
use Rattle.pass_work_spec.proofs.Rooms.{here-fits}
use Rattle.pass_entries.specs.Masks.{InPlaces}
use Rattle.pass_context.specs.Holding.{work_of}
use Rattle.pass_context.proofs.Counts.{work-count}
use Rattle.pass_context.specs.declared.Held.{Held}
use Rattle.pass_step_spec.specs.Steps.{Step, clause_context, params_first}
use Rattle.pass_step_spec.proofs.WorkViews.{free_in_clauses, free_in_bodies, clauses_done, step_done, bodies_done, WorkView, work_view}
use Rattle.pass_step_spec.proofs.StepBounds.{FitView, fit-view, step_rises, bodies_rise}
use Rattle.scope_spec.specs.declared.FreeVars.{FreeVars}
use Rattle.scope_spec.specs.Pairs.{masks_of}
use Rattle.scope_spec.proofs.PairLaws.{no_masks, masks-length, masks-first, masks-second}
use Rattle.pass_work_spec.proofs.Bounds.{work_rises_clauses}
use Rattle.pass_step.specs.Stepping.{Says, RoomAt, Workable}
use Rattle.pass_dispatch.specs.Choices.{proceeds, Proceeds}
use Rattle.pass_walk.specs.Walking.{RoomTo, StmtAhead}
use Rattle.pass_walk.proofs.RoomLaws.{room-here}
use Rattle.pass_walk.proofs.SourceLaws.{plain-source, no-clauses, one-body-of, Settling, settling, binders-fit, row-says}

-- ── rows ──

-- the first two numbers
pub record RowHere (rows : List ℕ) (j a b : ℕ) : Type 0 where
  pub inside : j + 1 < length rows
  pub first : get_or rows j 0 ≡ a
  pub second : get_or rows (j + 1) 0 ≡ b

pub row_here : {rows : List ℕ} {j : ℕ} (a b : ℕ) (xs : List ℕ) → Begins rows j (a ∷ b ∷ xs) → RowHere rows j a b
row_here {rows} {j} a b xs h = record {
  inside = omega (arith, ap length h.split, length-drop j rows);
  first = ap (λ (k : ℕ). get_or rows k 0) (omega arith) ∙ sym (get_or-drop j rows 0 0) ∙ ap (λ (l : List ℕ). get_or l 0 0) h.split;
  second = sym (get_or-drop j rows 1 0) ∙ ap (λ (l : List ℕ). get_or l 1 0) h.split;
}

-- no bodies are at any index
pub no-bodies : {m : ℕ} → m ≡ 0 → (d : ℕ) (rs : List Record) (i : ℕ) → bodies_at d m rs i ≡ []
unfolding bodies_at
no-bodies e d rs i = ap (λ (m : ℕ). bodies_at d m rs i) e

-- ── a statement ──

module _ {g : Frame} {s rows : List ℕ} {width d i : ℕ} {held : Held} {n : ℕ} {p : Progress} (h : StmtAhead g s rows width d i held n p (stmt_at d (records_in g s) i)) where
  abbrev here : Stmt
  here = stmt_at d (records_in g s) i

  abbrev W : Work
  W = work_of held

  pub is_record : record_at g s i ≡ record_of here
  is_record = head_is d (records_in g s) i h.stands

  plain_here : Plain here
  plain_here = plain-source here (subst (λ (r : Record). plain_record_lem r ≡ true) is_record (record_at_lem plain_record_lem (records_in g s) i h.sources.plain (head-inside d (records_in g s) i h.stands)))

  -- its record is inside, and its parts are one level down
  pub inside : Ready g s → i < g.count
  inside ready = omega (arith, head-inside d (records_in g s) i h.stands, records-length g s ready)

  pub deep : {f : Follows} → Followed g s i f → 0 < d
  deep f = (above_at d (records_in g s) i h.stands _ f.clauses).positive

  pub below : {f : Follows} {next : ℕ} → Followed g s i f → next ≡ i + 1 + length (flatten_clauses (clauses_at (d - 1) f.clauses (records_in g s) (i + 1)))
      → Below d (records_in g s) i f.clauses f.bodies next here (record_at g s i) (clauses_at (d - 1) f.clauses (records_in g s) (i + 1)) (bodies_at (d - 1) f.bodies (records_in g s) next)
  below f e = below_at d (records_in g s) i h.stands _ _ _ f.clauses f.bodies e

  pub straight : {k : ℕ} → kind_of (record_at g s i) ≡ k → (leb 5 k && leb k 6) ≡ false → clauses_in here ≡ end
  straight e x = no-clauses here (ap (λ (z : ℕ). leb 5 z && leb z 6) (sym (ap kind_of is_record) ∙ e) ∙ x)

  -- it goes on with one body
  pub one-body-here : {k : ℕ} → kind_of (record_at g s i) ≡ k → Proceeds k → bodies (kind_of (record_at g s i)) ≡ 1
  one-body-here e x = ap (λ (r : Record). bodies (kind_of r)) is_record ∙ one-body-of here (subst Proceeds (sym e ∙ ap kind_of is_record) x)

  -- neither that nor clauses
  pub settling-here : {k : ℕ} → kind_of (record_at g s i) ≡ k → (leb 5 k && leb k 6) ≡ false → proceeds k ≡ false → Settling (record_at g s i)
  settling-here e x y =
      let k = sym (ap kind_of is_record) ∙ e in
      subst Settling (sym is_record) (settling here plain_here (ap (λ (z : ℕ). leb 5 z && leb z 6) k ∙ x) (ap proceeds k ∙ y))

  pub view : WorkView here W n p.max_id
  view = work_view here plain_here W n p.max_id

  pub fit : FitView here h.scope W n
  fit = fit-view here plain_here h.scope W n h.fits

  abbrev C : Clauses × ℕ
  C = clauses_done here W n p.max_id

  abbrev S : Step
  S = step_done here W n p.max_id

  abbrev B : List Stmt × ℕ
  B = bodies_done here W n p.max_id

  -- the clauses draw first, then the step, then the bodies
  drawn-clauses : p.max_id ≤ C.1
  drawn-clauses = work_rises_clauses (clauses_in here) (params_first (record_of here)) (clause_context (record_of here) (free_in_clauses here) (free_in_bodies here) W) n p.max_id

  pub drawn-step : C.1 ≤ S.max_id
  drawn-step = step_rises (record_of here) (free_in_clauses here) (free_in_bodies here) W n C.1

  pub drawn-bodies : S.max_id ≤ B.1
  drawn-bodies = bodies_rise (bodies_of here) S.context S.in_scope_lem S.max_id

  -- room for the step's records, for the clauses' and for the bodies'
  pub room-view : RoomTo width p (S.front ++ (flatten_clauses C.0 ++ each flatten B.0)) B.1
  room-view = subst (λ (z : ℕ). RoomTo width p (S.front ++ (flatten_clauses C.0 ++ each flatten B.0)) z) view.max
      (subst (λ (z : List Record). RoomTo width p z (work_stmt here W n p.max_id).1) view.flat h.room)

  pub room_open : RoomAt p
  room_open = room-here room-view (omega (arith, drawn-clauses, drawn-step, drawn-bodies))

  -- the context has room for what the record binds
  workable : Workable held n (length (binders (record_at g s i)))
  workable =
      let f = here-fits here h.scope W n h.fits in
      let b = binders-fit here h.scope W n plain_here h.fits in
      let e = ap (λ (r : Record). length (binders r)) is_record in
      record { room = omega (arith, work-count held, f.placed.fits, f.count, b, e); places = omega (arith, b, e) }

  pub workable_for : {k : ℕ} → length (binders (record_at g s i)) ≡ k → Workable held n k
  workable_for e = subst (Workable held n) e workable

  -- the places of the entries tell their sources
  pub in_places : InPlaces W
  in_places = let f = here-fits here h.scope W n h.fits in record { scope = h.scope; placed = f.placed; few = omega (arith, f.count, f.room) }

  -- its row, and what the masks in it say
  row : RowHere rows (2 * i) (mask_of (free_in_clauses here) h.scope) (mask_of (free_in_bodies here) (h.scope ++ binders (record_of here)))
  unfolding row_of
  row = row_here _ _ _ (subst (Begins rows (2 * i)) (rows-view here h.scope) h.rows_are)

  masks_inside : 2 * i + 1 < length rows
  masks_inside = row.inside

  first_says : Says (get_or rows (2 * i) 0) (free_in_clauses here) W
  first_says = subst (λ (z : ℕ). Says z (free_in_clauses here) W) (ap (mask_of (free_in_clauses here)) (append-nil h.scope) ∙ sym row.first)
      (row-says (free_in_clauses here) h.scope [] (here-fits here h.scope W n h.fits).placed)

  second_says : Says (get_or rows (2 * i + 1) 0) (free_in_bodies here) W
  second_says = subst (λ (z : ℕ). Says z (free_in_bodies here) W) (sym row.second) (row-says (free_in_bodies here) h.scope (binders (record_of here)) (here-fits here h.scope W n h.fits).placed)

  -- the rows of its clauses, and those of its bodies
  rows-below : Begins rows (2 * i + 2) (rows_clauses (clauses_in here) h.scope ++ rows_bodies (bodies_of here) (h.scope ++ binders (record_of here)))
  unfolding row_of
  rows-below = begins-right (mask_of (free_in_clauses here) h.scope ∷ mask_of (free_in_bodies here) (h.scope ++ binders (record_of here)) ∷ []) _
      (subst (Begins rows (2 * i)) (rows-view here h.scope) h.rows_are)

  pub rows-clauses : Begins rows (2 * (i + 1)) (rows_clauses (clauses_in here) h.scope)
  rows-clauses = subst (λ (z : ℕ). Begins rows z (rows_clauses (clauses_in here) h.scope)) (omega arith) (begins-left (rows_clauses (clauses_in here) h.scope) _ rows-below)

  pub rows-bodies : (next : ℕ) → next ≡ i + 1 + length (flatten_clauses (clauses_in here)) → Begins rows (2 * next) (rows_bodies (bodies_of here) (h.scope ++ binders (record_of here)))
  rows-bodies next e = subst (λ (z : ℕ). Begins rows z (rows_bodies (bodies_of here) (h.scope ++ binders (record_of here))))
      (omega (arith, e, rows-clauses-length (clauses_in here) h.scope))
      (begins-right (rows_clauses (clauses_in here) h.scope) _ rows-below)

-- .. in a row of pairs
module _ {g : Frame} {s : List ℕ} (pairs : List FreeVars) {width d i : ℕ} {held : Held} {n : ℕ} {p : Progress} (h : StmtAhead g s (masks_of pairs) width d i held n p (stmt_at d (records_in g s) i)) where
  pub row_inside : i < length pairs
  row_inside = omega (arith, masks_inside h, masks-length pairs)

  pub say_clauses : Says (get_or pairs i no_masks).clauses (free_in_clauses (here h)) (W h)
  say_clauses = subst (λ (z : ℕ). Says z (free_in_clauses (here h)) (W h)) (masks-first pairs i no_masks row_inside) (first_says h)

  pub say_next : Says (get_or pairs i no_masks).next (free_in_bodies (here h)) (W h)
  say_next = subst (λ (z : ℕ). Says z (free_in_bodies (here h)) (W h)) (masks-second pairs i no_masks row_inside) (second_says h)
