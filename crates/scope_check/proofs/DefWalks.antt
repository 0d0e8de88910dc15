-- The walk over definitions: what a program with a yes to questions 6, 7 and 8 gives it; and what the walk of the definitions that are left
-- will find, with their rows. Assumes nothing.
use Prim.Native.Nat.{ℕ, ◌+◌, ◌-◌, ◌*◌}
use mathlib.Core.Path.{◌≡◌, refl, sym, ap, ap₂, ◌∙◌, subst}
use mathlib.Core.Bool.{true, ◌&&◌}
use mathlib.Core.List.{List, [], ◌∷◌}
use native.Mathlib.Omega.{arith}
use lib.Dec.{leb}
use lib.ListN.{length, drop}
use lib.Seq.{sets}
use Rattle.syntax.specs.Context.{ids}
use Rattle.syntax.specs.declared.names.VarId.{VarId}
use Rattle.syntax.proofs.Bools.{both_true}
use Rattle.model.specs.Syntax.{Def}
use Rattle.model.specs.FreeVars.{free_vars}
use Rattle.model.specs.Sizes.{depth_defs}
use Rattle.image_spec.specs.Records.{Record}
use Rattle.image_spec.specs.Shape.{flatten}
use Rattle.image_read_parts.specs.Standing.{head_of}
use Rattle.image_read_parts.specs.Parts.{list_of}
use Rattle.image_places_spec.specs.Places.{stmt_at}
use Rattle.scope_spec.specs.Flat.{all_records_lem, plain_record_lem, small_record_lem}
use Rattle.scope_spec.specs.declared.Verdict.{Verdict}
use Rattle.scope_spec.specs.Walk.{Scoped, enter_all, clean, walk_stmt, walk_defs}
use Rattle.scope_spec.specs.FreeRows.{mask_of, row_under, rows_stmt, rows_defs}
use Rattle.scope_spec.proofs.FlatLaws.{question6-flat}
use Rattle.scope_spec.proofs.WalkLaws.{walk_answers}
use Rattle.scope_spec.proofs.RoomLaws.{room-here}
use Rattle.scope_spec.proofs.FreeViews.{rows-length}
use Rattle.scope_check.specs.Definitions.{defs_in, DefsStand, Defined}
use Rattle.scope_check.specs.Deciding.{program_in}
use Rattle.scope_places.specs.Scoping.{scope_of, scoped_of}
use Rattle.scope_walk.specs.Walks.{WalkedTo}
use Rattle.scope_walk.specs.Masks.{Sourced, SourcedDefs, Passed, MaskedTo}
use Rattle.scope_places.specs.declared.scope.InScope.{InScope}
use Rattle.scope_walk.specs.declared.walk.Walked.{Walked}
use Rattle.scope_check.proofs.CheckLaws.{answer-room, walk_stand}
use Rattle.scope_check.proofs.DefLaws.{DefsLeft, DefNext, def_of, def-turn, defs-end}
use Rattle.scope_places.proofs.EnterLaws.{entered_all}
use Rattle.scope_walk.proofs.SourceLaws.{def_body, def-rest}
use Rattle.scope_walk.proofs.MaskSteps.{row-stored, rows_then}

-- ── a program with a yes to questions 6, 7 and 8 ──

module _ {d : ℕ} {rs : List Record} (h : Defined d rs) (p : Passed (program_in d rs 0)) where
  limits : (n : ℕ) → length rs ≡ n → ((leb n 2000 && (all_records_lem small_record_lem rs && leb (depth_defs (defs_in d rs)) 64)) ≡ true) × ((walk_defs (defs_in d rs) 0 clean).room ≡ true)
  limits n e = both_true _ _ (sym (answer-room h 0 n e) ∙ p.seven)

  pub passed-plain : all_records_lem plain_record_lem rs ≡ true
  passed-plain = ap (all_records_lem plain_record_lem) h.is ∙ (sym (question6-flat (program_in d rs 0)) ∙ p.six)

  pub passed-limits : (n : ℕ) → length rs ≡ n → (leb n 2000 && (all_records_lem small_record_lem rs && leb (depth_defs (defs_in d rs)) 64)) ≡ true
  passed-limits n e = (limits n e).0

  pub passed-small : all_records_lem small_record_lem rs ≡ true
  passed-small = (both_true (all_records_lem small_record_lem rs) _ (both_true (leb (length rs) 2000) _ (limits _ refl).0).1).0

  pub passed-stand : DefsStand 64 d rs 0 (defs_in d rs)
  passed-stand = walk_stand h (length rs) (limits _ refl).0

  pub passed-sourced : SourcedDefs (defs_in d rs)
  passed-sourced = record { room = sym (walk_answers (defs_in d rs) 0).room ∙ (limits _ refl).1; six = p.six; eight = p.eight }

-- ── what is left of definitions ──

pub record MasksDefs (whole rows : List ℕ) (here : Walked) (ds : List Def) : Type 0 where
  pub sourced : SourcedDefs ds
  pub rows_are : whole ≡ sets rows (2 * here.next) (rows_defs ds)

-- a definition whose body was walked, and whose row is stored
def_masked : {whole rows : List ℕ} {here : Walked} (d : Def) (ds : List Def) → MasksDefs whole rows here (d ∷ ds) → {Δ₁ : List VarId} (w : Walked) {rows₁ rows₂ : List ℕ} → Δ₁ ≡ ids d.context
    → w.next ≡ here.next + 1 + length (flatten d.body) → MaskedTo w rows₁ (mask_of (free_vars d.body) Δ₁) (sets rows (2 * (here.next + 1)) (rows_stmt d.body Δ₁))
    → rows₂ ≡ sets rows₁ (2 * here.next) (0 ∷ w.free ∷ []) → MasksDefs whole rows₂ w ds
unfolding rows_defs row_under
def_masked {whole} {rows} {here} d ds h {Δ₁} w {rows₁} {rows₂} z k y p =
    let t = d.body in
    let at = here.next in
    let Δ = ids d.context in
    let front : rows₂ ≡ sets rows (2 * at) (0 ∷ mask_of (free_vars t) Δ ∷ rows_stmt t Δ) =
    p ∙ ap (λ (l : List ℕ). sets l (2 * at) (0 ∷ w.free ∷ [])) y.rows_are
    ∙ row-stored rows (rows_stmt t Δ₁) at 0 w.free
    ∙ ap₂ (λ (u : ℕ) (v : List VarId). sets rows (2 * at) (0 ∷ u ∷ rows_stmt t v)) (y.free_is ∙ ap (mask_of (free_vars t)) z) z in
    record {
      sourced = def-rest d ds h.sourced;
      rows_are = h.rows_are
          ∙ rows_then rows (0 ∷ mask_of (free_vars t) Δ ∷ rows_stmt t Δ) (rows_defs ds) at (1 + length (flatten t)) w.next (omega (arith, rows-length t Δ)) (omega (arith, k))
          ∙ ap (λ (l : List ℕ). sets l (2 * w.next) (rows_defs ds)) (sym front);
    }

pub record WalksDefs (Q : Type 0) (M : ℕ) (whole : Verdict) (stored rows : List ℕ) (here : Walked) (ds : List Def) : Type 0 where
  pub same : whole ≡ walk_defs ds M here.verdict
  pub masks : Q → MasksDefs stored rows here ds

module _ {rs : List Record} {Q : Type 0} {M : ℕ} {whole : Verdict} {stored rows : List ℕ} {left : ℕ} {here : Walked} where
  pub def-walked : (n : DefNext 64 rs left here.next (WalksDefs Q M whole stored rows here)) {Δ : List VarId} (bound : InScope) (u : Verdict) (w : Walked) {rows₁ rows₂ : List ℕ}
      → Δ ≡ [] → scoped_of bound u ≡ enter_all M (ids (list_of (head_of (drop here.next rs)))) (record { scope = Δ; verdict = here.verdict })
      → WalkedTo w (here.next + 1 + length (flatten (stmt_at 64 rs (here.next + 1)))) (walk_stmt (stmt_at 64 rs (here.next + 1)) M (scope_of bound) u)
      → (Sourced (scope_of bound) (stmt_at 64 rs (here.next + 1))
      → MaskedTo w rows₁ (mask_of (free_vars (stmt_at 64 rs (here.next + 1))) (scope_of bound)) (sets rows (2 * (here.next + 1)) (rows_stmt (stmt_at 64 rs (here.next + 1)) (scope_of bound))))
      → rows₂ ≡ sets rows₁ (2 * here.next) (0 ∷ w.free ∷ [])
      → DefsLeft 64 rs (left - 1) w.next (WalksDefs Q M whole stored rows₂ w)
  unfolding walk_defs
  def-walked n bound u w o a b m p =
      let t = stmt_at 64 rs (here.next + 1) in
      let x = def_of n.name n.context t in
      let z : scoped_of bound u ≡ enter_all M (ids n.context) (record { scope = []; verdict = here.verdict }) =
      a ∙ ap₂ (λ (l : List Record) (D : List VarId). enter_all M (ids (list_of (head_of l))) (record { scope = D; verdict = here.verdict })) n.head o in
      def-turn n b.next (record {
        same = n.holds.same ∙ ap (walk_defs n.rest M) (sym (b.verdict ∙ ap (λ (y : Scoped). walk_stmt t M y.scope y.verdict) z));
        masks = λ q.
            let h = n.holds.masks q in
            let s = def_body x n.rest h.sourced in
            let y : scope_of bound ≡ ids n.context = entered_all M (ids n.context) [] here.verdict z (room-here (ids n.context) t s.room) in
            def_masked x n.rest h w y b.next (m (subst (λ (D : List VarId). Sourced D t) (sym y) s)) p;
      })

  pub walked-defs : DefsLeft 64 rs left here.next (WalksDefs Q M whole stored rows here) → left ≡ 0 → (whole ≡ here.verdict) × (Q → rows ≡ stored)
  unfolding walk_defs rows_defs
  walked-defs l h = let e = defs-end l h in (e.same, λ q. sym (e.masks q).rows_are)
