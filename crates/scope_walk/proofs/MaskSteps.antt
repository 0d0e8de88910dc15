-- The masks and the rows that the walk finds: of a statement by its record, its clauses and its bodies (`masked_stmt`); and what the walk of
-- the clauses and of the bodies that are left will find and store. Assumes nothing.
use Prim.Native.Nat.{ℕ, ◌+◌, ◌*◌, ◌%◌, ◌^◌, ◌≤◌}
use mathlib.Core.Path.{◌≡◌, refl, sym, ap, ap₂, ◌∙◌, subst}
use mathlib.Core.List.{List, [], ◌∷◌, ◌++◌, append-nil, append_assoc}
use native.Mathlib.Omega.{arith}
use lib.Bits.{bit_or}
use lib.ListN.{length}
use lib.Seq.{sets}
use Rattle.syntax.specs.Context.{Context, ids}
use Rattle.syntax.specs.Sets.{without}
use Rattle.syntax.specs.declared.names.Identifier.{Identifier}
use Rattle.syntax.specs.declared.names.VarId.{VarId}
use Rattle.model.specs.Syntax.{Stmt, Clauses, end, clause}
use Rattle.model.specs.FreeVars.{free_vars, free_vars_clauses}
use Rattle.image_spec.specs.Parse.{All}
use Rattle.image_spec.specs.Records.{Record}
use Rattle.image_spec.specs.Shape.{flatten, flatten_clauses}
use Rattle.image_write_parts.proofs.Putting.{sets_append, sets_reserved}
use Rattle.image_places_spec.specs.Views.{record_of, clauses_in, bodies_of, binders, uses_of}
use Rattle.image_places_spec.proofs.Steps.{Above, Below, by-view}
use Rattle.scope_spec.specs.FreeRows.{mask_of, free_bodies, row_of, row_under, rows_stmt, rows_clauses, rows_bodies}
use Rattle.scope_spec.proofs.RowLaws.{mask-++, mask_none}
use Rattle.scope_spec.proofs.FreeViews.{mask_stmt, mask_under, rows-view, rows-length, rows-clauses-length}
use Rattle.scope_spec.proofs.RoomLaws.{room-binders}
use Rattle.scope_walk.specs.Masks.{Sourced, SourcedClauses, MaskedTo}
use Rattle.scope_walk.specs.declared.walk.Walked.{Walked}
use Rattle.scope_walk.proofs.SourceLaws.{sourced-plain, sourced-apart, sourced-clauses, sourced-bodies, clause-apart, clause-rest}

-- ── stores ──

-- the row of a record, stored after those of the records behind it
pub row-stored : (rows ys : List ℕ) (i a b : ℕ) → sets (sets rows (2 * (i + 1)) ys) (2 * i) (a ∷ b ∷ []) ≡ sets rows (2 * i) (a ∷ b ∷ ys)
row-stored rows ys i a b =
    let j : 2 * (i + 1) ≡ 2 * i + 2 = omega arith in
    rw j (sets_reserved (a ∷ b ∷ []) rows (2 * i) 2 ys refl)

-- the rows of some records, and then those of others
pub rows_then : (rows xs ys : List ℕ) (i n next : ℕ) → length xs ≡ 2 * n → next ≡ i + n → sets rows (2 * i) (xs ++ ys) ≡ sets (sets rows (2 * i) xs) (2 * next) ys
rows_then rows xs ys i n next h e =
    let j : 2 * i + length xs ≡ 2 * next = omega (arith, h, e) in
    sets_append xs rows (2 * i) ys ∙ ap (λ (z : ℕ). sets (sets rows (2 * i) xs) z ys) j

-- ── a statement ──

-- its rows, the first one by its masks
rows-shown : (t : Stmt) (Δ : List VarId)
    → rows_stmt t Δ ≡ mask_of (free_vars_clauses (clauses_in t)) Δ ∷ mask_of (free_bodies (bodies_of t)) (Δ ++ binders (record_of t)) ∷ (rows_clauses (clauses_in t) Δ ++ rows_bodies (bodies_of t) (Δ ++ binders (record_of t)))
unfolding row_of
rows-shown t Δ = rows-view t Δ

pub clauses-sourced : {d : ℕ} {rs : List Record} {i n : ℕ} {t : Stmt} {cs : Clauses} {Δ : List VarId} → Above d rs i n t cs → Sourced Δ t → SourcedClauses Δ cs
clauses-sourced {Δ = Δ} a q = subst (SourcedClauses Δ) (sym a.are_clauses) (sourced-clauses q)

module _ {d : ℕ} {rs : List Record} {i n m next : ℕ} {t : Stmt} {r : Record} {cs : Clauses} {ts : List Stmt} (b : Below d rs i n m next t r cs ts) (Δ : List VarId) (q : Sourced Δ t) where
  pub binders-fit : length (Δ ++ binders r) ≤ 64
  binders-fit = by-view b (λ r cs ts. length (Δ ++ binders r) ≤ 64) (room-binders Δ t q.room)

  module _ {Δ₁ : List VarId} (e : Δ₁ ≡ Δ ++ binders r) where
    pub bodies-sourced : All (Sourced Δ₁) ts
    bodies-sourced = subst (λ (z : List VarId). All (Sourced z) ts) (sym e) (by-view b (λ r cs ts. All (Sourced (Δ ++ binders r)) ts) (sourced-bodies q))

    -- a statement whose parts were walked, and whose row is stored
    pub masked_stmt : (rows : List ℕ) {rows₁ rows₂ rows₃ : List ℕ} {own len : ℕ} {c w x : Walked} → len ≡ length Δ → own ≡ mask_of (uses_of r) Δ
        → MaskedTo c rows₁ (mask_of (free_vars_clauses cs) Δ) (sets rows (2 * (i + 1)) (rows_clauses cs Δ))
        → MaskedTo w rows₂ (mask_of (free_bodies ts) Δ₁) (sets rows₁ (2 * next) (rows_bodies ts Δ₁))
        → rows₃ ≡ sets rows₂ (2 * i) (c.free ∷ w.free ∷ []) → x.free ≡ bit_or (bit_or own c.free) (w.free % 2 ^ len)
        → MaskedTo x rows₃ (mask_of (free_vars t) Δ) (sets rows (2 * i) (rows_stmt t Δ))
    masked_stmt rows {rows₁} {rows₂} {rows₃} {own} {len} {c} {w} {x} g o k y p f =
        let Δ' = Δ ++ binders r in
        let wf : w.free ≡ mask_of (free_bodies ts) Δ' = y.free_is ∙ ap (mask_of (free_bodies ts)) e in
        let view : mask_of (free_vars t) Δ ≡ bit_or (bit_or (mask_of (uses_of r) Δ) (mask_of (free_vars_clauses cs) Δ)) (mask_of (free_bodies ts) Δ' % 2 ^ length Δ) =
        by-view b (λ r cs ts. mask_of (free_vars t) Δ ≡ bit_or (bit_or (mask_of (uses_of r) Δ) (mask_of (free_vars_clauses cs) Δ)) (mask_of (free_bodies ts) (Δ ++ binders r) % 2 ^ length Δ))
        (mask_stmt Δ t (sourced-plain q) (sourced-apart q)) in
        let shown : rows_stmt t Δ ≡ mask_of (free_vars_clauses cs) Δ ∷ mask_of (free_bodies ts) Δ' ∷ (rows_clauses cs Δ ++ rows_bodies ts Δ') =
        by-view b (λ r cs ts. rows_stmt t Δ ≡ mask_of (free_vars_clauses cs) Δ ∷ mask_of (free_bodies ts) (Δ ++ binders r) ∷ (rows_clauses cs Δ ++ rows_bodies ts (Δ ++ binders r))) (rows-shown t Δ) in
        let behind : rows₂ ≡ sets rows (2 * (i + 1)) (rows_clauses cs Δ ++ rows_bodies ts Δ') =
        y.rows_are ∙ ap₂ (λ (l : List ℕ) (z : List VarId). sets l (2 * next) (rows_bodies ts z)) k.rows_are e
        ∙ sym (rows_then rows (rows_clauses cs Δ) (rows_bodies ts Δ') (i + 1) (length (flatten_clauses cs)) next (rows-clauses-length cs Δ) b.clauses_size) in
        record {
          free_is = f ∙ ap₂ bit_or (ap₂ bit_or o k.free_is) (ap₂ (λ (z l : ℕ). z % 2 ^ l) wf g) ∙ sym view;
          rows_are = p
              ∙ ap (λ (l : List ℕ). sets l (2 * i) (c.free ∷ w.free ∷ [])) behind
              ∙ row-stored rows (rows_clauses cs Δ ++ rows_bodies ts Δ') i c.free w.free
              ∙ ap₂ (λ (u v : ℕ). sets rows (2 * i) (u ∷ v ∷ (rows_clauses cs Δ ++ rows_bodies ts Δ'))) k.free_is wf
              ∙ ap (sets rows (2 * i)) (sym shown);
        }

-- ── what is left of clauses ──

-- the clauses are sourced; those before them had `seen` free, and with these the mask and the rows are whole
pub record MasksClauses (Δ : List VarId) (free : ℕ) (whole rows : List ℕ) (here : Walked) (cs : Clauses) : Type 0 where
  pub sourced : SourcedClauses Δ cs
  pub seen : List VarId
  pub seen_is : here.free ≡ mask_of seen Δ
  pub free_is : free ≡ mask_of (seen ++ free_vars_clauses cs) Δ
  pub rows_are : whole ≡ sets rows (2 * here.next) (rows_clauses cs Δ)

pub clauses-begun : {Δ : List VarId} {cs : Clauses} (rows : List ℕ) {here : Walked} → here.free ≡ 0 → SourcedClauses Δ cs
    → MasksClauses Δ (mask_of (free_vars_clauses cs) Δ) (sets rows (2 * here.next) (rows_clauses cs Δ)) rows here cs
clauses-begun {Δ} rows z q = record { sourced = q; seen = []; seen_is = z ∙ sym (mask_none Δ); free_is = refl; rows_are = refl }

module _ {Δ : List VarId} {free : ℕ} {whole rows : List ℕ} {here : Walked} (x : Identifier) (Γ : Context) (t : Stmt) (rest : Clauses) (h : MasksClauses Δ free whole rows here (clause x Γ t rest)) where
  -- a clause whose body was walked, and whose row is stored
  pub clause_masked : {Δ₁ : List VarId} (w : Walked) {rows₁ rows₂ : List ℕ} {len : ℕ} {after : Walked} → len ≡ length Δ → Δ₁ ≡ Δ ++ ids Γ → w.next ≡ here.next + 1 + length (flatten t)
      → MaskedTo w rows₁ (mask_of (free_vars t) Δ₁) (sets rows (2 * (here.next + 1)) (rows_stmt t Δ₁))
      → rows₂ ≡ sets rows₁ (2 * here.next) (0 ∷ w.free ∷ []) → after.free ≡ bit_or here.free (w.free % 2 ^ len) → after.next ≡ w.next
      → MasksClauses Δ free whole rows₂ after rest
  unfolding free_vars rows_stmt row_under
  clause_masked {Δ₁} w {rows₁} {rows₂} {len} {after} g z k y p f a =
      let Δ' = Δ ++ ids Γ in
      let wf : w.free ≡ mask_of (free_vars t) Δ' = y.free_is ∙ ap (mask_of (free_vars t)) z in
      let front : rows₂ ≡ sets rows (2 * here.next) (0 ∷ mask_of (free_vars t) Δ' ∷ rows_stmt t Δ') =
      p ∙ ap (λ (l : List ℕ). sets l (2 * here.next) (0 ∷ w.free ∷ [])) y.rows_are
      ∙ row-stored rows (rows_stmt t Δ₁) here.next 0 w.free
      ∙ ap₂ (λ (u : ℕ) (v : List VarId). sets rows (2 * here.next) (0 ∷ u ∷ rows_stmt t v)) wf z in
      record {
        sourced = clause-rest x Γ t rest h.sourced;
        seen = h.seen ++ without (free_vars t) (ids Γ);
        seen_is = f ∙ ap (λ (l : ℕ). bit_or here.free (w.free % 2 ^ l)) g ∙ ap₂ (λ (u v : ℕ). bit_or u (v % 2 ^ length Δ)) h.seen_is wf
            ∙ mask_under Δ h.seen (free_vars t) (ids Γ) (clause-apart x Γ t rest h.sourced);
        free_is = h.free_is ∙ ap (λ (u : List VarId). mask_of u Δ) (sym (append_assoc h.seen (without (free_vars t) (ids Γ)) (free_vars_clauses rest)));
        rows_are = h.rows_are
            ∙ rows_then rows (0 ∷ mask_of (free_vars t) Δ' ∷ rows_stmt t Δ') (rows_clauses rest Δ) here.next (1 + length (flatten t)) after.next
            (omega (arith, rows-length t Δ')) (omega (arith, k, a))
            ∙ ap (λ (l : List ℕ). sets l (2 * after.next) (rows_clauses rest Δ)) (sym front);
      }

pub clauses_masked : {Δ : List VarId} {free : ℕ} {whole rows : List ℕ} {here : Walked} → MasksClauses Δ free whole rows here end → MaskedTo here rows free whole
unfolding free_vars rows_stmt
clauses_masked {Δ} e = record { free_is = e.seen_is ∙ (ap (λ (u : List VarId). mask_of u Δ) (sym (append-nil e.seen)) ∙ sym e.free_is); rows_are = sym e.rows_are }

-- ── what is left of bodies ──

pub record MasksBodies (Δ : List VarId) (free : ℕ) (whole rows : List ℕ) (here : Walked) (ts : List Stmt) : Type 0 where
  pub sourced : All (Sourced Δ) ts
  pub seen : List VarId
  pub seen_is : here.free ≡ mask_of seen Δ
  pub free_is : free ≡ mask_of (seen ++ free_bodies ts) Δ
  pub rows_are : whole ≡ sets rows (2 * here.next) (rows_bodies ts Δ)

pub bodies-begun : {Δ : List VarId} (ts : List Stmt) (rows : List ℕ) {here : Walked} → here.free ≡ 0 → All (Sourced Δ) ts
    → MasksBodies Δ (mask_of (free_bodies ts) Δ) (sets rows (2 * here.next) (rows_bodies ts Δ)) rows here ts
bodies-begun {Δ} ts rows z q = record { sourced = q; seen = []; seen_is = z ∙ sym (mask_none Δ); free_is = refl; rows_are = refl }

module _ {Δ : List VarId} {free : ℕ} {whole rows : List ℕ} {here : Walked} where
  pub body_masked : (t : Stmt) (ts : List Stmt) → MasksBodies Δ free whole rows here (t ∷ ts) → {Δ₁ : List VarId} (w : Walked) {rows₁ : List ℕ} {after : Walked} → Δ₁ ≡ Δ
      → w.next ≡ here.next + length (flatten t) → MaskedTo w rows₁ (mask_of (free_vars t) Δ₁) (sets rows (2 * here.next) (rows_stmt t Δ₁))
      → after.free ≡ bit_or here.free w.free → after.next ≡ w.next → MasksBodies Δ free whole rows₁ after ts
  body_masked t ts h w {rows₁} {after} e k y f a = record {
    sourced = h.sourced.1;
    seen = h.seen ++ free_vars t;
    seen_is = f ∙ ap₂ bit_or h.seen_is (y.free_is ∙ ap (mask_of (free_vars t)) e) ∙ sym (mask-++ h.seen (free_vars t) Δ);
    free_is = h.free_is ∙ ap (λ (u : List VarId). mask_of u Δ) (sym (append_assoc h.seen (free_vars t) (free_bodies ts)));
    rows_are = h.rows_are
        ∙ rows_then rows (rows_stmt t Δ) (rows_bodies ts Δ) here.next (length (flatten t)) after.next (rows-length t Δ) (a ∙ k)
        ∙ ap (λ (l : List ℕ). sets l (2 * after.next) (rows_bodies ts Δ)) (sym (y.rows_are ∙ ap (λ (z : List VarId). sets rows (2 * here.next) (rows_stmt t z)) e));
  }

  pub bodies_masked : MasksBodies Δ free whole rows here [] → MaskedTo here rows free whole
  bodies_masked e = record { free_is = e.seen_is ∙ (ap (λ (u : List VarId). mask_of u Δ) (sym (append-nil e.seen)) ∙ sym e.free_is); rows_are = sym e.rows_are }
