-- The steps of the walk: a statement whose parts were walked (`walked`); and what the walk of the clauses and of the bodies that are left will
-- find, with the masks and the rows if what was asked of a source was asked (Q). Assumes nothing.
use Prim.Native.Nat.{ℕ, ◌+◌, ◌-◌, ◌*◌, ◌%◌, ◌^◌}
use mathlib.Core.Path.{◌≡◌, sym, ap, ◌∙◌, subst}
use mathlib.Core.List.{List, [], ◌∷◌, ◌++◌}
use lib.Bits.{bit_or}
use lib.ListN.{length, drop}
use lib.Seq.{sets}
use Rattle.syntax.specs.Context.{ids}
use Rattle.syntax.specs.declared.names.VarId.{VarId}
use Rattle.model.specs.Syntax.{Stmt, Clauses}
use Rattle.model.specs.FreeVars.{free_vars}
use Rattle.image_spec.specs.Parse.{each}
use Rattle.image_spec.specs.Records.{Record}
use Rattle.image_spec.specs.Shape.{flatten}
use Rattle.image_read_parts.specs.Standing.{head_of}
use Rattle.image_read_parts.specs.Parts.{list_of}
use Rattle.image_places_spec.specs.Views.{binders, uses_of}
use Rattle.image_places_spec.specs.Places.{stmt_at}
use Rattle.image_places_spec.proofs.Steps.{Below, by-view, ClausesLeft, ClauseNext, clause-turn, clauses-end, BodiesLeft, BodyNext, body-turn, bodies-end}
use Rattle.scope_spec.specs.declared.Verdict.{Verdict}
use Rattle.scope_spec.specs.Walk.{Scoped, use_all, enter_all, walk_stmt, walk_clauses, walk_bodies}
use Rattle.scope_spec.specs.FreeRows.{mask_of, rows_stmt}
use Rattle.scope_spec.proofs.RoomLaws.{room-here}
use Rattle.scope_places.specs.Scoping.{scope_of, scoped_of}
use Rattle.scope_walk.specs.Walks.{WalkedTo}
use Rattle.scope_walk.specs.Masks.{Sourced, MaskedTo}
use Rattle.scope_places.specs.declared.scope.InScope.{InScope}
use Rattle.scope_walk.specs.declared.walk.Walked.{Walked}
use Rattle.scope_places.proofs.EnterLaws.{entered_all}
use Rattle.scope_walk.proofs.SourceLaws.{clause-body}
use Rattle.scope_walk.proofs.WalkViews.{after_clauses, walk_view}
use Rattle.scope_walk.proofs.MaskSteps.{binders-fit, MasksClauses, clause_masked, clauses_masked, MasksBodies, body_masked, bodies_masked}

-- ── a statement ──

-- a statement whose parts were walked
pub walked : {d : ℕ} {rs : List Record} {i n m next : ℕ} {t : Stmt} {r : Record} {cs : Clauses} {ts : List Stmt} → Below d rs i n m next t r cs ts
    → (M : ℕ) (Δ : List VarId) (v : Verdict) {used c : Verdict} {Δ' : List VarId} (bound : InScope) (u : Verdict) {w x : Walked}
    → used ≡ use_all Δ (uses_of r) v → c ≡ walk_clauses cs M Δ used → Δ' ≡ Δ → scoped_of bound u ≡ enter_all M (binders r) (record { scope = Δ'; verdict = c })
    → WalkedTo w (next + length (each flatten ts)) (walk_bodies ts M (scope_of bound) u)
    → x.next ≡ w.next → x.verdict ≡ w.verdict → WalkedTo x (i + length (flatten t)) (walk_stmt t M Δ v)
walked {t = t} {r = r} {cs = cs} {ts = ts} b M Δ v {used} {c} {Δ'} bound u p q o a y f g =
    let k : c ≡ walk_clauses cs M Δ (use_all Δ (uses_of r) v) = q ∙ ap (walk_clauses cs M Δ) p in
    let z : scoped_of bound u ≡ after_clauses r cs M Δ v = a ∙ (λ j. enter_all M (binders r) (record { scope = o j; verdict = k j })) in
    let l : walk_stmt t M Δ v ≡ walk_bodies ts M (after_clauses r cs M Δ v).scope (after_clauses r cs M Δ v).verdict =
    by-view b (λ r cs ts. walk_stmt t M Δ v ≡ walk_bodies ts M (after_clauses r cs M Δ v).scope (after_clauses r cs M Δ v).verdict) (walk_view t M Δ v) in
    record { next = f ∙ (y.next ∙ sym b.size); verdict = g ∙ (y.verdict ∙ (ap (λ (a : Scoped). walk_bodies ts M a.scope a.verdict) z ∙ sym l)) }

-- .. and with room the scope of its bodies has all that it binds
pub bound-here : {d : ℕ} {rs : List Record} {i n m next : ℕ} {t : Stmt} {r : Record} {cs : Clauses} {ts : List Stmt} → Below d rs i n m next t r cs ts → (Δ : List VarId) → Sourced Δ t
    → (M : ℕ) (v : Verdict) {Δ' : List VarId} (bound : InScope) (u : Verdict) → Δ' ≡ Δ → scoped_of bound u ≡ enter_all M (binders r) (record { scope = Δ'; verdict = v }) → scope_of bound ≡ Δ ++ binders r
bound-here {r = r} b Δ q M v bound u o a = entered_all M (binders r) Δ v (a ∙ ap (λ (D : List VarId). enter_all M (binders r) (record { scope = D; verdict = v })) o) (binders-fit b Δ q)

-- ── what is left of clauses ──

-- the number that is left, as a loop that counts up says it
pub recount-clauses : {d : ℕ} {rs : List Record} {place left more here : ℕ} {P : Clauses → Type 0} → left ≡ more → ClausesLeft d rs place left here P → ClausesLeft d rs place more here P
recount-clauses {d} {rs} {place} {here = here} {P = P} e = subst (λ (n : ℕ). ClausesLeft d rs place n here P) e

-- the walk of these clauses from here ends with this verdict
pub record WalksClauses (Q : Type 0) (M : ℕ) (Δ : List VarId) (whole : Verdict) (free : ℕ) (stored rows : List ℕ) (here : Walked) (cs : Clauses) : Type 0 where
  pub same : whole ≡ walk_clauses cs M Δ here.verdict
  pub masks : Q → MasksClauses Δ free stored rows here cs

module _ {d : ℕ} {rs : List Record} {Q : Type 0} {M : ℕ} {Δ : List VarId} {place : ℕ} {whole : Verdict} {free : ℕ} {stored rows : List ℕ} {left : ℕ} {here : Walked} where
  -- a clause whose body was walked, and whose row is stored
  pub clause-walked : (n : ClauseNext d rs place left here.next (WalksClauses Q M Δ whole free stored rows here)) {Δ' : List VarId} (bound : InScope) (u : Verdict) (w : Walked)
      {rows₁ rows₂ : List ℕ} {len : ℕ} {after : Walked} → Δ' ≡ Δ → scoped_of bound u ≡ enter_all M (ids (list_of (head_of (drop here.next rs)))) (record { scope = Δ'; verdict = here.verdict })
      → WalkedTo w (here.next + 1 + length (flatten (stmt_at d rs (here.next + 1)))) (walk_stmt (stmt_at d rs (here.next + 1)) M (scope_of bound) u)
      → (Sourced (scope_of bound) (stmt_at d rs (here.next + 1))
      → MaskedTo w rows₁ (mask_of (free_vars (stmt_at d rs (here.next + 1))) (scope_of bound)) (sets rows (2 * (here.next + 1)) (rows_stmt (stmt_at d rs (here.next + 1)) (scope_of bound))))
      → len ≡ length Δ → rows₂ ≡ sets rows₁ (2 * here.next) (0 ∷ w.free ∷ []) → after.free ≡ bit_or here.free (w.free % 2 ^ len) → after.next ≡ w.next → after.verdict ≡ w.verdict
      → ClausesLeft d rs place (left - 1) after.next (WalksClauses Q M Δ whole free stored rows₂ after)
  unfolding walk_stmt
  clause-walked n bound u w o a b m l p f k g =
      let t = stmt_at d rs (here.next + 1) in
      let z : scoped_of bound u ≡ enter_all M (ids n.context) (record { scope = Δ; verdict = here.verdict }) =
      a ∙ (λ j. enter_all M (ids (list_of (head_of (n.head j)))) (record { scope = o j; verdict = here.verdict })) in
      clause-turn n (k ∙ b.next) (record {
        same = n.holds.same ∙ ap (walk_clauses n.rest M Δ) (sym (g ∙ (b.verdict ∙ ap (λ (y : Scoped). walk_stmt t M y.scope y.verdict) z)));
        masks = λ q.
            let h = n.holds.masks q in
            let s = clause-body n.name n.context t n.rest h.sourced in
            let y : scope_of bound ≡ Δ ++ ids n.context = entered_all M (ids n.context) Δ here.verdict z (room-here (Δ ++ ids n.context) t s.room) in
            clause_masked n.name n.context t n.rest h w l y b.next (m (subst (λ (D : List VarId). Sourced D t) (sym y) s)) p f k;
      })

  pub walked-clauses : ClausesLeft d rs place left here.next (WalksClauses Q M Δ whole free stored rows here) → left ≡ 0
      → WalkedTo here place whole × (Q → MaskedTo here rows free stored)
  unfolding walk_stmt
  walked-clauses l h = let e = clauses-end l h in (record { next = e.0; verdict = sym e.1.same }, λ q. clauses_masked (e.1.masks q))

-- ── what is left of bodies ──

pub recount-bodies : {d : ℕ} {rs : List Record} {place left more here : ℕ} {P : List Stmt → Type 0} → left ≡ more → BodiesLeft d rs place left here P → BodiesLeft d rs place more here P
recount-bodies {d} {rs} {place} {here = here} {P = P} e = subst (λ (n : ℕ). BodiesLeft d rs place n here P) e

pub record WalksBodies (Q : Type 0) (M : ℕ) (Δ : List VarId) (whole : Verdict) (free : ℕ) (stored rows : List ℕ) (here : Walked) (ts : List Stmt) : Type 0 where
  pub same : whole ≡ walk_bodies ts M Δ here.verdict
  pub masks : Q → MasksBodies Δ free stored rows here ts

module _ {d : ℕ} {rs : List Record} {Q : Type 0} {M : ℕ} {Δ : List VarId} {place : ℕ} {whole : Verdict} {free : ℕ} {stored rows : List ℕ} {left : ℕ} {here : Walked} where
  pub body-walked : (n : BodyNext d rs place left here.next (WalksBodies Q M Δ whole free stored rows here)) {Δ' : List VarId} (w : Walked) {rows₁ : List ℕ} {after : Walked} → Δ' ≡ Δ
      → WalkedTo w (here.next + length (flatten (stmt_at d rs here.next))) (walk_stmt (stmt_at d rs here.next) M Δ' here.verdict)
      → (Sourced Δ' (stmt_at d rs here.next) → MaskedTo w rows₁ (mask_of (free_vars (stmt_at d rs here.next)) Δ') (sets rows (2 * here.next) (rows_stmt (stmt_at d rs here.next) Δ')))
      → after.free ≡ bit_or here.free w.free → after.next ≡ w.next → after.verdict ≡ w.verdict
      → BodiesLeft d rs place (left - 1) after.next (WalksBodies Q M Δ whole free stored rows₁ after)
  body-walked n w o b m f k g =
      let t = stmt_at d rs here.next in
      body-turn n (k ∙ b.next) (record {
        same = n.holds.same ∙ ap (walk_bodies n.rest M Δ) (sym (g ∙ (b.verdict ∙ ap (λ (D : List VarId). walk_stmt t M D here.verdict) o)));
        masks = λ q.
            let h = n.holds.masks q in
            body_masked t n.rest h w o b.next (m (subst (λ (D : List VarId). Sourced D t) (sym o) h.sourced.0)) f k;
      })

  pub walked-bodies : BodiesLeft d rs place left here.next (WalksBodies Q M Δ whole free stored rows here) → left ≡ 0
      → WalkedTo here place whole × (Q → MaskedTo here rows free stored)
  walked-bodies l h = let e = bodies-end l h in (record { next = e.0; verdict = sym e.1.same }, λ q. bodies_masked (e.1.masks q))
