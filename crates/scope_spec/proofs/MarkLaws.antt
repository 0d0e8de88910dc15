-- What is marked are the free variables that are not bound; the marked IDs in order are their ascending list. Assumes nothing.
use Prim.Native.Nat.{ℕ, zero, suc, ◌-◌, ◌≤◌, ◌<◌}
use mathlib.Core.Path.{◌≡◌, refl, sym, ap, ap₂, ◌∙◌, subst}
use mathlib.Core.Logic.{◌⊎◌, inl, inr, ⊎_elim}
use mathlib.Core.Bool.{Bool, true, false, ◌&&◌, false≢true}
use mathlib.Core.List.{List, [], ◌∷◌, ◌++◌}
use native.Mathlib.Omega.{arith}
use borrow.Author.Tests.{eqb-true, eqb-false}
use lib.Dec.{eqb}
use lib.ListN.{length, get_or, set, length-set, replicate}
use lib.Seq.{get_or-set_same, get_or-set_other}
use Rattle.syntax.specs.Names.{same_var_id}
use Rattle.syntax.specs.Sets.{elem, ◌∈◌, without}
use Rattle.syntax.specs.Context.{ids}
use Rattle.syntax.specs.declared.names.VarId.{VarId}
use Rattle.syntax.proofs.Bools.{Answers, both_true}
use Rattle.syntax.proofs.Members.{number_eq, same?, elem?, ∈_left, ∈_right, ∈_split, ∈_without, without-∈}
use Rattle.model.specs.Syntax.{Stmt, Substitute, Call, Let, Switch, Create, Invoke, Literal, Op, IfC, PrintI64, Exit, Clauses, end, clause}
use Rattle.model.specs.Questions.{is_none, plain, asked, asked_clauses, any_binders}
use Rattle.model.specs.FreeVars.{free_vars, free_vars_clauses, ascending, optional_id}
use Rattle.model.proofs.Annotations.{Ascending, ascending-ascends, in_ascending, ascending_in}
use Rattle.scope_spec.specs.Marking.{mark_one_lem, mark_all_lem, mark_stmt, mark_clauses, keep, marked_from}

-- an ID is marked
abbrev pub Marked : List ℕ → VarId → Type 0
Marked row x = get_or row x.0 0 ≡ 0 → ⊥

-- from row to row', the IDs of the set that are not bound, and no others, are marked besides. The row is long enough for them.
pub record Marks (B s : List VarId) (row row' : List ℕ) : Type 0 where
  pub size : length row' ≡ length row
  pub old : (x : VarId) → Marked row x → Marked row' x
  pub new : (x : VarId) → x ∈ s → ¬ (x ∈ B) → Marked row' x
  pub only : (x : VarId) → Marked row' x → Marked row x ⊎ ((x ∈ s) × ¬ (x ∈ B))

-- the IDs fit the row
abbrev pub FitRow : List VarId → ℕ → Type 0
FitRow s n = (x : VarId) → x ∈ s → x.0 < n

marks_none : (B : List VarId) (row : List ℕ) → Marks B [] row row
marks_none B row = record { size = refl; old = λ x h. h; new = λ x h n. absurd h; only = λ x h. inl h }

marks_then : {B s t : List VarId} {row row' row'' : List ℕ} → Marks B s row row' → Marks B t row' row'' → Marks B (s ++ t) row row''
marks_then {B} {s} {t} {row} {row'} {row''} a b = record {
  size = b.size ∙ a.size;
  old = λ x h. b.old x (a.old x h);
  new = λ x h n. new x n (∈_split x s t h);
  only = λ x h. only x (b.only x h);
}
  where
    new : (x : VarId) → ¬ (x ∈ B) → (x ∈ s) ⊎ (x ∈ t) → Marked row'' x
    new x n (inl h) = b.old x (a.new x h n)
    new x n (inr h) = b.new x h n

    first : (x : VarId) → Marked row x ⊎ ((x ∈ s) × ¬ (x ∈ B)) → Marked row x ⊎ ((x ∈ (s ++ t)) × ¬ (x ∈ B))
    first x (inl h) = inl h
    first x (inr h) = inr (∈_left x s t h.0, h.1)

    only : (x : VarId) → Marked row' x ⊎ ((x ∈ t) × ¬ (x ∈ B)) → Marked row x ⊎ ((x ∈ (s ++ t)) × ¬ (x ∈ B))
    only x (inl h) = first x (a.only x h)
    only x (inr h) = inr (∈_right x s t h.0, h.1)

-- the same members
marks_same : {B s t : List VarId} {row row' : List ℕ} → ((x : VarId) → x ∈ s → x ∈ t) → ((x : VarId) → x ∈ t → x ∈ s) → Marks B s row row' → Marks B t row row'
marks_same {B} {s} {t} {row} {row'} f g a = record { size = a.size; old = a.old; new = λ x h n. a.new x (g x h) n; only = λ x h. only x (a.only x h) }
  where
    only : (x : VarId) → Marked row x ⊎ ((x ∈ s) × ¬ (x ∈ B)) → Marked row x ⊎ ((x ∈ t) × ¬ (x ∈ B))
    only x (inl h) = inl h
    only x (inr h) = inr (f x h.0, h.1)

-- what is bound below, too
marks_under : {B : List VarId} (xs : List VarId) {s : List VarId} {row row' : List ℕ} → Marks (B ++ xs) s row row' → Marks B (without s xs) row row'
marks_under {B} xs {s} {row} {row'} a = record { size = a.size; old = a.old; new = new; only = λ x h. only x (a.only x h) }
  where
    apart : (x : VarId) → ¬ (x ∈ B) → ¬ (x ∈ xs) → (x ∈ B) ⊎ (x ∈ xs) → ⊥
    apart x n m (inl h) = n h
    apart x n m (inr h) = m h

    new : (x : VarId) → x ∈ without s xs → ¬ (x ∈ B) → Marked row' x
    new x h n = let w = without-∈ x s xs h in a.new x w.0 (λ k. apart x n w.1 (∈_split x B xs k))

    only : (x : VarId) → Marked row x ⊎ ((x ∈ s) × ¬ (x ∈ (B ++ xs))) → Marked row x ⊎ ((x ∈ without s xs) × ¬ (x ∈ B))
    only x (inl h) = inl h
    only x (inr h) = inr (∈_without x s xs h.0 (λ k. h.1 (∈_right x B xs k)), λ k. h.1 (∈_left x B xs k))

marks_one : (B : List VarId) (x : VarId) (row : List ℕ) → x.0 < length row → Marks B (x ∷ []) row (mark_one_lem B x row)
marks_one B x row h = go (elem? x B)
  where
    bound : x ∈ B → Marks B (x ∷ []) row row
    bound k = record { size = refl; old = λ y m. m; new = λ y m n. new y m n; only = λ y m. inl m }
      where
        new : (y : VarId) → y ∈ (x ∷ []) → ¬ (y ∈ B) → Marked row y
        new y (inl e) n = absurd (n (subst (λ (z : VarId). z ∈ B) (sym e) k))
        new y (inr m) n = absurd m

    there : Marked (set row x.0 1) x
    there e = let z : ◌≡◌ {A = ℕ} 1 0 = sym (get_or-set_same row x.0 1 0 h) ∙ e in omega arith

    other : (y : VarId) → ¬ (y ≡ x) → get_or (set row x.0 1) y.0 0 ≡ get_or row y.0 0
    other y n = get_or-set_other row x.0 y.0 1 0 (λ e. n (number_eq y x e))

    free : ¬ (x ∈ B) → Marks B (x ∷ []) row (set row x.0 1)
    free n = record { size = length-set row x.0 1; old = λ y m. old y m (same? y x); new = λ y m k. new y m; only = λ y m. only y m (same? y x) }
      where
        old : (y : VarId) → Marked row y → Answers (same_var_id y x) (y ≡ x) → Marked (set row x.0 1) y
        old y m (inl p) = subst (Marked (set row x.0 1)) (sym p.1) there
        old y m (inr p) = λ e. m (sym (other y p.1) ∙ e)

        new : (y : VarId) → y ∈ (x ∷ []) → Marked (set row x.0 1) y
        new y (inl e) = subst (Marked (set row x.0 1)) (sym e) there
        new y (inr m) = absurd m

        only : (y : VarId) → Marked (set row x.0 1) y → Answers (same_var_id y x) (y ≡ x) → Marked row y ⊎ ((y ∈ (x ∷ [])) × ¬ (y ∈ B))
        only y m (inl p) = inr (inl p.1, λ k. n (subst (λ (z : VarId). z ∈ B) p.1 k))
        only y m (inr p) = inl (λ e. m (other y p.1 ∙ e))

    go : Answers (elem x B) (x ∈ B) → Marks B (x ∷ []) row (mark_one_lem B x row)
    go (inl p) = rw p.0 (bound p.1)
    go (inr p) = rw p.0 (free p.1)

marks_all : (B xs : List VarId) (row : List ℕ) → FitRow xs (length row) → Marks B xs row (mark_all_lem B xs row)
marks_all B [] row h = marks_none B row
marks_all B (x ∷ xs) row h =
    let a = marks_one B x row (h x (inl refl)) in
    marks_then a (marks_all B xs (mark_one_lem B x row) (λ y k. rw a.size (h y (inr k))))

-- ── statements: every ID that is used fits the row ──

-- the IDs that a statement uses, at any depth
unfoldable mutual
  pub all_uses : Stmt → List VarId
  all_uses (Substitute ps next) = all_uses next
  all_uses (Call label args) = ids args
  all_uses (Let var ty tag args next) = ids args ++ all_uses next
  all_uses (Switch var ty cs) = var.id ∷ all_uses_clauses cs
  all_uses (Create var ty env cs next) = all_uses_clauses cs ++ all_uses next
  all_uses (Invoke var tag ty args) = var.id ∷ ids args
  all_uses (Literal lit var next) = all_uses next
  all_uses (Op fst op snd var next) = fst.id ∷ snd.id ∷ all_uses next
  all_uses (IfC sort fst snd thenc elsec) = (fst.id ∷ optional_id snd) ++ (all_uses thenc ++ all_uses elsec)
  all_uses (PrintI64 newline var next) = var.id ∷ all_uses next
  all_uses (Exit var) = var.id ∷ []

  pub all_uses_clauses : Clauses → List VarId
  all_uses_clauses end = []
  all_uses_clauses (clause xtor context body rest) = all_uses body ++ all_uses_clauses rest

fit-left : (s t : List VarId) (n : ℕ) → FitRow (s ++ t) n → FitRow s n
fit-left s t n h x k = h x (∈_left x s t k)

fit-right : (s t : List VarId) (n : ℕ) → FitRow (s ++ t) n → FitRow t n
fit-right s t n h x k = h x (∈_right x s t k)

-- members in the other order
turned : (s t : List VarId) (x : VarId) → x ∈ (s ++ t) → x ∈ (t ++ s)
turned s t x h = ⊎_elim (∈_right x t s) (∈_left x t s) (∈_split x s t h)

mutual
  unfolding mark_stmt free_vars asked all_uses

  pub marks_stmt : (t : Stmt) (B : List VarId) (row : List ℕ) (Δ : List VarId) → asked t plain any_binders Δ ≡ true → FitRow (all_uses t) (length row) → Marks B (free_vars t) row (mark_stmt t B row)
  marks_stmt (Substitute ps next) B row Δ p h = absurd (false≢true p)
  marks_stmt (Call label args) B row Δ p h = marks_all B (ids args) row h
  marks_stmt (Let var ty tag args next) B row Δ p h =
      let a = marks_all B (ids args) row (fit-left (ids args) (all_uses next) (length row) h) in
      let b = marks_stmt next (B ++ (var.id ∷ [])) (mark_all_lem B (ids args) row) (var.id ∷ Δ) p (rw a.size (fit-right (ids args) (all_uses next) (length row) h)) in
      marks_same (turned (ids args) (without (free_vars next) (var.id ∷ []))) (turned (without (free_vars next) (var.id ∷ [])) (ids args)) (marks_then a (marks_under (var.id ∷ []) b))
  marks_stmt (Switch var ty cs) B row Δ p h =
      let a = marks_one B var.id row (h var.id (inl refl)) in
      marks_then a (marks_clauses cs B (mark_one_lem B var.id row) Δ p (rw a.size (fit-right (var.id ∷ []) (all_uses_clauses cs) (length row) h)))
  marks_stmt (Create var ty env cs next) B row Δ p h =
      let q = both_true (is_none env) (asked_clauses cs plain any_binders Δ && asked next plain any_binders (var.id ∷ Δ)) p in
      let r = both_true (asked_clauses cs plain any_binders Δ) (asked next plain any_binders (var.id ∷ Δ)) q.1 in
      let a = marks_clauses cs B row Δ r.0 (fit-left (all_uses_clauses cs) (all_uses next) (length row) h) in
      let b = marks_stmt next (B ++ (var.id ∷ [])) (mark_clauses cs B row) (var.id ∷ Δ) r.1 (rw a.size (fit-right (all_uses_clauses cs) (all_uses next) (length row) h)) in
      marks_same (turned (free_vars_clauses cs) (without (free_vars next) (var.id ∷ []))) (turned (without (free_vars next) (var.id ∷ [])) (free_vars_clauses cs)) (marks_then a (marks_under (var.id ∷ []) b))
  marks_stmt (Invoke var tag ty args) B row Δ p h = marks_all B (var.id ∷ ids args) row h
  marks_stmt (Literal lit var next) B row Δ p h = marks_under (var.id ∷ []) (marks_stmt next (B ++ (var.id ∷ [])) row (var.id ∷ Δ) p h)
  marks_stmt (Op fst op snd var next) B row Δ p h =
      let xs = fst.id ∷ snd.id ∷ [] in
      let a = marks_all B xs row (fit-left xs (all_uses next) (length row) h) in
      marks_then a (marks_under (var.id ∷ []) (marks_stmt next (B ++ (var.id ∷ [])) (mark_all_lem B xs row) (var.id ∷ Δ) p (rw a.size (fit-right xs (all_uses next) (length row) h))))
  marks_stmt (IfC sort fst snd thenc elsec) B row Δ p h =
      let xs = fst.id ∷ optional_id snd in
      let q = both_true (asked thenc plain any_binders Δ) (asked elsec plain any_binders Δ) p in
      let a = marks_all B xs row (fit-left xs (all_uses thenc ++ all_uses elsec) (length row) h) in
      let g = fit-right xs (all_uses thenc ++ all_uses elsec) (length row) h in
      let b = marks_stmt thenc B (mark_all_lem B xs row) Δ q.0 (rw a.size (fit-left (all_uses thenc) (all_uses elsec) (length row) g)) in
      let c = marks_stmt elsec B (mark_stmt thenc B (mark_all_lem B xs row)) Δ q.1 (rw (b.size, a.size) (fit-right (all_uses thenc) (all_uses elsec) (length row) g)) in
      marks_then a (marks_then b c)
  marks_stmt (PrintI64 newline var next) B row Δ p h =
      let xs = var.id ∷ [] in
      let a = marks_all B xs row (fit-left xs (all_uses next) (length row) h) in
      marks_then a (marks_stmt next B (mark_all_lem B xs row) Δ p (rw a.size (fit-right xs (all_uses next) (length row) h)))
  marks_stmt (Exit var) B row Δ p h = marks_all B (var.id ∷ []) row h

  pub marks_clauses : (cs : Clauses) (B : List VarId) (row : List ℕ) (Δ : List VarId) → asked_clauses cs plain any_binders Δ ≡ true → FitRow (all_uses_clauses cs) (length row) → Marks B (free_vars_clauses cs) row (mark_clauses cs B row)
  marks_clauses end B row Δ p h = marks_none B row
  marks_clauses (clause xtor context body rest) B row Δ p h =
      let q = both_true (asked body plain any_binders (ids context ++ Δ)) (asked_clauses rest plain any_binders Δ) p in
      let a = marks_under (ids context) (marks_stmt body (B ++ ids context) row (ids context ++ Δ) q.0 (fit-left (all_uses body) (all_uses_clauses rest) (length row) h)) in
      marks_then a (marks_clauses rest B (mark_stmt body (B ++ ids context) row) Δ q.1 (rw a.size (fit-right (all_uses body) (all_uses_clauses rest) (length row) h)))

-- ── the marked IDs, in order ──

-- what markedFrom has: the IDs from n on whose mark is not zero, in ascending order
pub record Listed (n : ℕ) (row : List ℕ) (xs : List VarId) : Type 0 where
  pub ascends : Ascending xs
  pub from : (x : VarId) → x ∈ xs → n ≤ x.0
  pub marked : (x : VarId) → x ∈ xs → get_or row (x.0 - n) 0 ≡ 0 → ⊥
  pub every : (x : VarId) → n ≤ x.0 → (get_or row (x.0 - n) 0 ≡ 0 → ⊥) → x ∈ xs

listed_more : (n m : ℕ) (row : List ℕ) (xs : List VarId) → Listed (suc n) row xs → (t : Bool) → eqb m 0 ≡ t → Listed n (m ∷ row) (keep t (record { 0 = n }) xs)
listed_more n m row xs l true e = record {
  ascends = l.ascends;
  from = λ x h. omega (arith, l.from x h);
  marked = λ x h. subst (λ (k : ℕ). get_or (m ∷ row) k 0 ≡ 0 → ⊥) (later x (l.from x h)) (l.marked x h);
  every = λ x h k. at x h k (x.0 - n) refl;
}
  where
    later : (x : VarId) → suc n ≤ x.0 → suc (x.0 - suc n) ≡ x.0 - n
    later x h = omega arith

    at : (x : VarId) → n ≤ x.0 → (get_or (m ∷ row) (x.0 - n) 0 ≡ 0 → ⊥) → (d : ℕ) → x.0 - n ≡ d → x ∈ xs
    at x h k zero q = absurd (k (ap (λ (z : ℕ). get_or (m ∷ row) z 0) q ∙ eqb-true m 0 e))
    at x h k (suc d) q =
        let g : suc n ≤ x.0 = omega arith in
        l.every x g (subst (λ (z : ℕ). get_or (m ∷ row) z 0 ≡ 0 → ⊥) (sym (later x g)) k)
listed_more n m row xs l false e = record {
  ascends = (λ y h. l.from y h, l.ascends);
  from = from;
  marked = marked;
  every = λ x h k. at x h k (x.0 - n) refl;
}
  where
    later : (x : VarId) → suc n ≤ x.0 → suc (x.0 - suc n) ≡ x.0 - n
    later x h = omega arith

    from : (x : VarId) → x ∈ (record { 0 = n } ∷ xs) → n ≤ x.0
    from x (inl q) = omega (arith, ap (λ (y : VarId). y.0) q)
    from x (inr h) = omega (arith, l.from x h)

    marked : (x : VarId) → x ∈ (record { 0 = n } ∷ xs) → get_or (m ∷ row) (x.0 - n) 0 ≡ 0 → ⊥
    marked x (inl q) = let z : x.0 - n ≡ 0 = omega (arith, ap (λ (y : VarId). y.0) q) in λ k. eqb-false m 0 e (ap (λ (d : ℕ). get_or (m ∷ row) d 0) (sym z) ∙ k)
    marked x (inr h) = subst (λ (k : ℕ). get_or (m ∷ row) k 0 ≡ 0 → ⊥) (later x (l.from x h)) (l.marked x h)

    at : (x : VarId) → n ≤ x.0 → (get_or (m ∷ row) (x.0 - n) 0 ≡ 0 → ⊥) → (d : ℕ) → x.0 - n ≡ d → x ∈ (record { 0 = n } ∷ xs)
    at x h k zero q = inl (number_eq x (record { 0 = n }) (omega arith))
    at x h k (suc d) q =
        let g : suc n ≤ x.0 = omega arith in
        inr (l.every x g (subst (λ (z : ℕ). get_or (m ∷ row) z 0 ≡ 0 → ⊥) (sym (later x g)) k))

pub listed : (n : ℕ) (row : List ℕ) → Listed n row (marked_from n row)
unfolding marked_from
listed n [] = record { ascends = tt; from = λ x h. absurd h; marked = λ x h. absurd h; every = λ x h k. absurd (k refl) }
listed n (m ∷ row) = listed_more n m row (marked_from (suc n) row) (listed (suc n) row) (eqb m 0) refl

-- two ascending lists with the same members are one
pub ascending_unique : (s t : List VarId) → Ascending s → Ascending t → ((x : VarId) → x ∈ s → x ∈ t) → ((x : VarId) → x ∈ t → x ∈ s) → s ≡ t
ascending_unique [] [] a b f g = refl
ascending_unique [] (y ∷ t) a b f g = absurd (g y (inl refl))
ascending_unique (x ∷ s) [] a b f g = absurd (f x (inl refl))
ascending_unique (x ∷ s) (y ∷ t) a b f g = ap₂ (λ (z : VarId) (r : List VarId). z ∷ r) same (ascending_unique s t a.1 b.1 (λ z h. rest z (a.0 z h) (f z (inr h))) (λ z h. tser z (b.0 z h) (g z (inr h))))
  where
    first : x ∈ (y ∷ t) → y ∈ (x ∷ s) → x ≡ y
    first (inl e) k = e
    first (inr h) (inl e) = sym e
    first (inr h) (inr k) = absurd (omega (arith, b.0 x h, a.0 y k))

    same : x ≡ y
    same = first (f x (inl refl)) (g y (inl refl))

    rest : (z : VarId) → x.0 < z.0 → z ∈ (y ∷ t) → z ∈ t
    rest z l (inl e) = absurd (omega (arith, ap (λ (w : VarId). w.0) e, ap (λ (w : VarId). w.0) same))
    rest z l (inr h) = h

    tser : (z : VarId) → y.0 < z.0 → z ∈ (x ∷ s) → z ∈ s
    tser z l (inl e) = absurd (omega (arith, ap (λ (w : VarId). w.0) e, ap (λ (w : VarId). w.0) same))
    tser z l (inr h) = h

-- a row that was clean, marked with a set: its marked IDs are the set's ascending list
pub marked-ascending : (n : ℕ) (s : List VarId) (row : List ℕ) → Marks [] s (replicate n 0) row → marked_from 0 row ≡ ascending s
marked-ascending n s row m =
    let l = listed 0 row in
    ascending_unique (marked_from 0 row) (ascending s) l.ascends (ascending-ascends s)
    (λ x h. in_ascending s x (was x (m.only x (λ e. l.marked x h (ap (λ (d : ℕ). get_or row d 0) (minus x) ∙ e)))))
    (λ x h. l.every x (omega arith) (λ e. m.new x (ascending_in s x h) (λ k. k) (ap (λ (d : ℕ). get_or row d 0) (sym (minus x)) ∙ e)))
  where
    minus : (x : VarId) → x.0 - 0 ≡ x.0
    minus x = omega arith

    clean : (k i : ℕ) → ◌≡◌ {A = ℕ} (get_or (replicate k 0) i 0) 0
    clean zero i = refl
    clean (suc k) zero = refl
    clean (suc k) (suc i) = clean k i

    was : (x : VarId) → Marked (replicate n 0) x ⊎ ((x ∈ s) × ¬ (x ∈ [])) → x ∈ s
    was x (inl h) = absurd (h (clean n x.0))
    was x (inr h) = h.0
