-- The free variables of a statement are those that its record uses, those of its clauses and those of its bodies, but for what the record
-- binds; so its mask comes from its uses and the masks behind it: `mask_stmt`, `mask_under`. A statement's rows are its record's, its
-- clauses' and its bodies': `rows-view`, two numbers for each record. Assumes nothing.
use Prim.Native.Nat.{ℕ, ◌*◌, ◌%◌, ◌^◌}
use mathlib.Core.Path.{◌≡◌, refl, sym, ap, ◌∙◌}
use mathlib.Core.Logic.{◌⊎◌, inl, inr}
use mathlib.Core.List.{List, [], ◌∷◌, ◌++◌, append-nil, append_assoc}
use native.Mathlib.Omega.{arith}
use lib.Bits.{bit_or}
use lib.ListN.{length, length-append}
use Rattle.syntax.specs.Sets.{elem, ◌∈◌, without}
use Rattle.syntax.specs.Context.{ids}
use Rattle.syntax.specs.declared.names.VarId.{VarId}
use Rattle.syntax.proofs.Bools.{Answers}
use Rattle.syntax.proofs.Members.{elem?, ∈_left, ∈_right, ∈_split, ∈_without, without-∈}
use Rattle.model.specs.Syntax.{Stmt, Substitute, Call, Let, Switch, Create, Invoke, Literal, Op, IfC, PrintI64, Exit, Clauses, end, clause}
use Rattle.model.specs.FreeVars.{free_vars, free_vars_clauses, optional_id}
use Rattle.image_places_spec.specs.Views.{record_of, clauses_in, bodies_of, binders, uses_of}
use Rattle.image_spec.specs.Shape.{flatten, flatten_clauses}
use Rattle.scope_spec.specs.FreeRows.{mask_of, free_bodies, row_of, row_under, rows_stmt, rows_clauses, rows_bodies}
use Rattle.scope_spec.proofs.RowLaws.{mask_same, mask-++, mask_front, mask_without}

-- what is in view from a record: its uses, its clauses' and its bodies' free variables
abbrev pub in_view : Stmt → List VarId
in_view t = uses_of (record_of t) ++ (free_vars_clauses (clauses_in t) ++ free_bodies (bodies_of t))

-- s and t have the same members but for those in xs
pub record SameBut (xs s t : List VarId) : Type 0 where
  pub forth : (x : VarId) → ¬ (x ∈ xs) → x ∈ s → x ∈ t
  pub back : (x : VarId) → ¬ (x ∈ xs) → x ∈ t → x ∈ s

same-list : (xs s : List VarId) → SameBut xs s s
same-list xs s = record { forth = λ x n h. h; back = λ x n h. h }

same-nil : (xs s : List VarId) → SameBut xs s (s ++ [])
same-nil xs s = rw append-nil (same-list xs s)

-- the uses before what is below a binder, or behind it
bound-next : (u f xs : List VarId) → SameBut xs (without f xs ++ u) (u ++ f)
bound-next u f xs = record { forth = λ x n h. forth x (∈_split x (without f xs) u h); back = λ x n h. back x n (∈_split x u f h) }
  where
    forth : (x : VarId) → (x ∈ without f xs) ⊎ (x ∈ u) → x ∈ (u ++ f)
    forth x (inl k) = ∈_right x u f (without-∈ x f xs k).0
    forth x (inr k) = ∈_left x u f k

    back : (x : VarId) → ¬ (x ∈ xs) → (x ∈ u) ⊎ (x ∈ f) → x ∈ (without f xs ++ u)
    back x n (inl k) = ∈_right x (without f xs) u k
    back x n (inr k) = ∈_left x (without f xs) u (∈_without x f xs k n)

next-bound : (u f xs : List VarId) → SameBut xs (u ++ without f xs) (u ++ f)
next-bound u f xs = record { forth = λ x n h. forth x (∈_split x u (without f xs) h); back = λ x n h. back x n (∈_split x u f h) }
  where
    forth : (x : VarId) → (x ∈ u) ⊎ (x ∈ without f xs) → x ∈ (u ++ f)
    forth x (inl k) = ∈_left x u f k
    forth x (inr k) = ∈_right x u f (without-∈ x f xs k).0

    back : (x : VarId) → ¬ (x ∈ xs) → (x ∈ u) ⊎ (x ∈ f) → x ∈ (u ++ without f xs)
    back x n (inl k) = ∈_left x u (without f xs) k
    back x n (inr k) = ∈_right x u (without f xs) (∈_without x f xs k n)

-- is it no Substitute? (A source has none.)
abbrev pub Plain : Stmt → Type 0
Plain (Substitute ps next) = ⊥
Plain (Call label args) = Unit {0}
Plain (Let var ty tag args next) = Unit {0}
Plain (Switch var ty cs) = Unit {0}
Plain (Create var ty env cs next) = Unit {0}
Plain (Invoke var tag ty args) = Unit {0}
Plain (Literal lit var next) = Unit {0}
Plain (Op fst op snd var next) = Unit {0}
Plain (IfC sort fst snd thenc elsec) = Unit {0}
Plain (PrintI64 newline var next) = Unit {0}
Plain (Exit var) = Unit {0}

pub free-view : (t : Stmt) → Plain t → SameBut (binders (record_of t)) (free_vars t) (in_view t)
unfolding free_vars
free-view (Substitute ps next) p = absurd p
free-view (Call label args) p = same-nil [] (ids args)
free-view (Let var ty tag args next) p = rw append-nil (bound-next (ids args) (free_vars next) (var.id ∷ []))
free-view (Switch var ty cs) p = rw append-nil (same-list [] (var.id ∷ free_vars_clauses cs))
free-view (Create var ty env cs next) p = rw append-nil (bound-next (free_vars_clauses cs) (free_vars next) (var.id ∷ []))
free-view (Invoke var tag ty args) p = same-nil [] (var.id ∷ ids args)
free-view (Literal lit var next) p = rw append-nil (next-bound [] (free_vars next) (var.id ∷ []))
free-view (Op fst op snd var next) p = rw append-nil (next-bound (fst.id ∷ snd.id ∷ []) (free_vars next) (var.id ∷ []))
free-view (IfC sort fst snd thenc elsec) p = rw append-nil (same-list [] ((fst.id ∷ optional_id snd) ++ (free_vars thenc ++ free_vars elsec)))
free-view (PrintI64 newline var next) p = rw append-nil (same-list [] (var.id ∷ free_vars next))
free-view (Exit var) p = same-nil [] (var.id ∷ [])

-- ── masks ──

-- sets with the same members but for what is not in scope have the same mask
mask_but : (xs s t Δ : List VarId) → ((x : VarId) → x ∈ Δ → x ∈ xs → ⊥) → SameBut xs s t → mask_of s Δ ≡ mask_of t Δ
mask_but xs s t Δ apart e = mask_same s t Δ (λ x k. go x k (elem? x s) (elem? x t))
  where
    go : (x : VarId) → x ∈ Δ → Answers (elem x s) (x ∈ s) → Answers (elem x t) (x ∈ t) → elem x s ≡ elem x t
    go x k (inl a) (inl b) = a.0 ∙ sym b.0
    go x k (inl a) (inr b) = absurd (b.1 (e.forth x (λ m. apart x k m) a.1))
    go x k (inr a) (inl b) = absurd (a.1 (e.back x (λ m. apart x k m) b.1))
    go x k (inr a) (inr b) = a.0 ∙ sym b.0

module _ (Δ : List VarId) where
  -- what is below binders, joined to a set: the places of the outer scope
  pub mask_below : (s f xs : List VarId) → bit_or (mask_of s Δ) (mask_of f (Δ ++ xs) % 2 ^ length Δ) ≡ mask_of (s ++ f) Δ
  mask_below s f xs = ap (bit_or (mask_of s Δ)) (mask_front f Δ xs) ∙ sym (mask-++ s f Δ)

  -- .. without the binders, which are new
  pub mask_under : (s f xs : List VarId) → ((x : VarId) → x ∈ Δ → x ∈ xs → ⊥) → bit_or (mask_of s Δ) (mask_of f (Δ ++ xs) % 2 ^ length Δ) ≡ mask_of (s ++ without f xs) Δ
  mask_under s f xs apart = mask_below s f xs ∙ mask-++ s f Δ ∙ ap (bit_or (mask_of s Δ)) (sym (mask_without f xs Δ apart)) ∙ sym (mask-++ s (without f xs) Δ)

  -- a statement's mask: that of its uses, that of its clauses, and that of its bodies at the places of the scope
  pub mask_stmt : (t : Stmt) → Plain t → ((x : VarId) → x ∈ Δ → x ∈ binders (record_of t) → ⊥)
      → mask_of (free_vars t) Δ
      ≡ bit_or (bit_or (mask_of (uses_of (record_of t)) Δ) (mask_of (free_vars_clauses (clauses_in t)) Δ)) (mask_of (free_bodies (bodies_of t)) (Δ ++ binders (record_of t)) % 2 ^ length Δ)
  mask_stmt t p apart =
      let u = uses_of (record_of t) in
      let c = free_vars_clauses (clauses_in t) in
      let f = free_bodies (bodies_of t) in
      mask_but (binders (record_of t)) (free_vars t) (in_view t) Δ apart (free-view t p)
      ∙ ap (λ (z : List VarId). mask_of z Δ) (sym (append_assoc u c f))
      ∙ sym (mask_below (u ++ c) f (binders (record_of t)))
      ∙ ap (λ (n : ℕ). bit_or n (mask_of f (Δ ++ binders (record_of t)) % 2 ^ length Δ)) (mask-++ u c Δ)

-- ── rows ──

pub rows-view : (t : Stmt) (Δ : List VarId) → rows_stmt t Δ ≡ row_of t Δ ++ (rows_clauses (clauses_in t) Δ ++ rows_bodies (bodies_of t) (Δ ++ binders (record_of t)))
unfolding rows_stmt
rows-view (Substitute ps next) Δ = rw (append-nil Δ, append-nil (rows_stmt next Δ)) refl
rows-view (Call label args) Δ = sym (append-nil (row_of (Call label args) Δ))
rows-view (Let var ty tag args next) Δ = rw append-nil refl
rows-view (Switch var ty cs) Δ = rw append-nil refl
rows-view (Create var ty env cs next) Δ = rw append-nil refl
rows-view (Invoke var tag ty args) Δ = sym (append-nil (row_of (Invoke var tag ty args) Δ))
rows-view (Literal lit var next) Δ = rw append-nil refl
rows-view (Op fst op snd var next) Δ = rw append-nil refl
rows-view (IfC sort fst snd thenc elsec) Δ = rw (append-nil Δ, append-nil (rows_stmt elsec Δ)) refl
rows-view (PrintI64 newline var next) Δ = rw (append-nil Δ, append-nil (rows_stmt next Δ)) refl
rows-view (Exit var) Δ = sym (append-nil (row_of (Exit var) Δ))

-- two numbers for each record
mutual
  unfolding flatten rows_stmt row_of row_under

  pub rows-length : (t : Stmt) (Δ : List VarId) → length (rows_stmt t Δ) ≡ 2 * length (flatten t)
  rows-length (Substitute ps next) Δ = omega (arith, rows-length next Δ)
  rows-length (Call label args) Δ = refl
  rows-length (Let var ty tag args next) Δ = omega (arith, rows-length next (Δ ++ (var.id ∷ [])))
  rows-length (Switch var ty cs) Δ = omega (arith, rows-clauses-length cs Δ)
  rows-length (Create var ty env cs next) Δ =
      omega (arith, length-append (rows_clauses cs Δ) (rows_stmt next (Δ ++ (var.id ∷ []))), length-append (flatten_clauses cs) (flatten next), rows-clauses-length cs Δ, rows-length next (Δ ++ (var.id ∷ [])))
  rows-length (Invoke var tag ty args) Δ = refl
  rows-length (Literal lit var next) Δ = omega (arith, rows-length next (Δ ++ (var.id ∷ [])))
  rows-length (Op fst op snd var next) Δ = omega (arith, rows-length next (Δ ++ (var.id ∷ [])))
  rows-length (IfC sort fst snd thenc elsec) Δ =
      omega (arith, length-append (rows_stmt thenc Δ) (rows_stmt elsec Δ), length-append (flatten thenc) (flatten elsec), rows-length thenc Δ, rows-length elsec Δ)
  rows-length (PrintI64 newline var next) Δ = omega (arith, rows-length next Δ)
  rows-length (Exit var) Δ = refl

  pub rows-clauses-length : (cs : Clauses) (Δ : List VarId) → length (rows_clauses cs Δ) ≡ 2 * length (flatten_clauses cs)
  rows-clauses-length end Δ = refl
  rows-clauses-length (clause xtor context body rest) Δ =
      omega (arith, length-append (rows_stmt body (Δ ++ ids context)) (rows_clauses rest Δ), length-append (flatten body) (flatten_clauses rest), rows-length body (Δ ++ ids context), rows-clauses-length rest Δ)
