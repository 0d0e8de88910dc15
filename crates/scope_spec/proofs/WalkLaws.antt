-- The walk answers the questions: with the same scope, in whatever order, it finds what the tests of the tree say, as long as there is
-- room for the bindings. Assumes nothing.
use Prim.Native.Nat.{ℕ, suc, ◌+◌, ◌≤◌, ◌<◌}
use mathlib.Core.Path.{◌≡◌, refl, sym, ap, ap₂, ◌∙◌, subst}
use mathlib.Core.Bool.{Bool, true, false, not, ◌&&◌, ◌||◌, cond, true≢false, and-true, and-false, and_assoc, or_comm, or-false}
use mathlib.Core.List.{List, [], ◌∷◌, ◌++◌, append-nil}
use native.Mathlib.Omega.{arith}
use borrow.Author.Tests.{le-leb, lt-leb, lt-ltb, le-ltb, leb-true, leb-false, ltb-true, ltb-false}
use Rattle.std.proofs.lemmas.Bool.Decides.{nat_tests}
use lib.Dec.{leb, ltb}
use lib.ListN.{length, length-append}
use Rattle.syntax.specs.Names.{same_var_id}
use Rattle.syntax.specs.Sets.{elem, distinct}
use Rattle.syntax.specs.Context.{ids}
use Rattle.syntax.specs.declared.names.VarId.{VarId}
use Rattle.model.specs.Syntax.{Stmt, Substitute, Call, Let, Switch, Create, Invoke, Literal, Op, IfC, PrintI64, Exit, Clauses, end, clause, Def}
use Rattle.model.specs.Lists.{every}
use Rattle.model.specs.Questions.{asked, asked_clauses, asked_defs, any_stmt, any_binders, new, uses, in_scope_lem, up_to}
use Rattle.scope_spec.specs.Rooms.{in_room}
use Rattle.scope_spec.specs.Walk.{max_scope, clean, use_one_lem, use_all, Scoped, judged, full, enter_one_lem, enter_all, Walking, under, walk_stmt, walk_clauses, walk_defs}
use Rattle.scope_spec.specs.declared.Verdict.{Verdict}

-- ── what a stretch of the walk finds: from the verdict v to r, with these answers ──

pub record Finds (v r : Verdict) (room binders used known : Bool) : Type 0 where
  pub finds_room : r.room ≡ v.room && room
  pub finds_binders : r.room ≡ true → r.binders ≡ v.binders && binders
  pub finds_uses : r.room ≡ true → r.uses ≡ v.uses && used
  pub finds_ids : r.room ≡ true → r.ids ≡ v.ids && known

finds_none : (v : Verdict) → Finds v v true true true true
finds_none v = record { finds_room = sym (and-true v.room); finds_binders = λ e. sym (and-true v.binders); finds_uses = λ e. sym (and-true v.uses); finds_ids = λ e. sym (and-true v.ids) }

-- one stretch after another; where the first has no room, nothing more need be known of the second
finds_then : {v w r : Verdict} {a b c d a' b' c' d' : Bool} → Finds v w a b c d → (w.room ≡ true → Finds w r a' b' c' d') → (w.room ≡ false → r.room ≡ false)
    → Finds v r (a && a') (b && b') (c && c') (d && d')
finds_then {v} {w} {r} {a} {b} {c} {d} {a'} {b'} {c'} {d'} h k f = go w.room refl
  where
    go : (t : Bool) → w.room ≡ t → Finds v r (a && a') (b && b') (c && c') (d && d')
    go true e =
        let m = k e in
        record {
          finds_room = m.finds_room ∙ ap (λ (z : Bool). z && a') h.finds_room ∙ and_assoc v.room a a';
          finds_binders = λ q. m.finds_binders q ∙ ap (λ (z : Bool). z && b') (h.finds_binders e) ∙ and_assoc v.binders b b';
          finds_uses = λ q. m.finds_uses q ∙ ap (λ (z : Bool). z && c') (h.finds_uses e) ∙ and_assoc v.uses c c';
          finds_ids = λ q. m.finds_ids q ∙ ap (λ (z : Bool). z && d') (h.finds_ids e) ∙ and_assoc v.ids d d';
        }
    go false e =
        let q = f e in
        record {
          finds_room = q ∙ sym (sym (and_assoc v.room a a') ∙ ap (λ (z : Bool). z && a') (sym h.finds_room ∙ e));
          finds_binders = λ p. absurd (true≢false (sym p ∙ q));
          finds_uses = λ p. absurd (true≢false (sym p ∙ q));
          finds_ids = λ p. absurd (true≢false (sym p ∙ q));
        }

-- answers that are bracketed another way
finds_assoc : {v r : Verdict} {a c : Bool} (b b' b'' d d' d'' : Bool) → Finds v r a ((b && b') && b'') c ((d && d') && d'') → Finds v r a (b && (b' && b'')) c (d && (d' && d''))
finds_assoc {v} {r} {a} {c} b b' b'' d d' d'' h = rw (← and_assoc b b' b'', ← and_assoc d d' d'') h

-- no room at all
finds-full : {v r : Verdict} (b c d : Bool) → r.room ≡ false → Finds v r false b c d
finds-full {v} {r} b c d e = record {
  finds_room = e ∙ sym (and-false v.room);
  finds_binders = λ p. absurd (true≢false (sym p ∙ e));
  finds_uses = λ p. absurd (true≢false (sym p ∙ e));
  finds_ids = λ p. absurd (true≢false (sym p ∙ e));
}

-- ── room that is lost stays lost ──

use_all-stays : (Δ xs : List VarId) (v : Verdict) → (use_all Δ xs v).room ≡ v.room
use_all-stays Δ [] v = refl
use_all-stays Δ (x ∷ xs) v = use_all-stays Δ xs (use_one_lem Δ x v)

enter_all-stays : (M : ℕ) (xs : List VarId) (s : Scoped) → s.verdict.room ≡ false → (enter_all M xs s).verdict.room ≡ false
enter_all-stays M [] s e = e
enter_all-stays M (x ∷ xs) s e = enter_all-stays M xs (enter_one_lem M x s) (go (ltb (length s.scope) max_scope))
  where
    go : (t : Bool) → (cond {A = Scoped} t (record { scope = s.scope ++ (x ∷ []); verdict = judged M s.scope x s.verdict }) (record { scope = s.scope; verdict = full s.verdict })).verdict.room ≡ false
    go true = e
    go false = refl

mutual
  unfolding walk_stmt

  pub walk_stmt-stays : (t : Stmt) (M : ℕ) (Δ : List VarId) (v : Verdict) → v.room ≡ false → (walk_stmt t M Δ v).room ≡ false
  walk_stmt-stays (Substitute ps next) M Δ v e = walk_stmt-stays next M Δ v e
  walk_stmt-stays (Call label args) M Δ v e = use_all-stays Δ (ids args) v ∙ e
  walk_stmt-stays (Let var ty tag args next) M Δ v e = walk_stmt-stays next M _ _ (enter_all-stays M (var.id ∷ []) (record { scope = Δ; verdict = use_all Δ (ids args) v }) (use_all-stays Δ (ids args) v ∙ e))
  walk_stmt-stays (Switch var ty cs) M Δ v e = walk_clauses-stays cs M Δ _ (use_all-stays Δ (var.id ∷ []) v ∙ e)
  walk_stmt-stays (Create var ty env cs next) M Δ v e = walk_stmt-stays next M _ _ (enter_all-stays M (var.id ∷ []) (record { scope = Δ; verdict = walk_clauses cs M Δ v }) (walk_clauses-stays cs M Δ v e))
  walk_stmt-stays (Invoke var tag ty args) M Δ v e = use_all-stays Δ (var.id ∷ ids args) v ∙ e
  walk_stmt-stays (Literal lit var next) M Δ v e = walk_stmt-stays next M _ _ (enter_all-stays M (var.id ∷ []) (record { scope = Δ; verdict = v }) e)
  walk_stmt-stays (Op fst op snd var next) M Δ v e = walk_stmt-stays next M _ _ (enter_all-stays M (var.id ∷ []) (record { scope = Δ; verdict = use_all Δ (fst.id ∷ snd.id ∷ []) v }) e)
  walk_stmt-stays (IfC sort fst snd thenc elsec) M Δ v e = walk_stmt-stays elsec M Δ _ (walk_stmt-stays thenc M Δ _ (use_all-stays Δ (uses (IfC sort fst snd thenc elsec)) v ∙ e))
  walk_stmt-stays (PrintI64 newline var next) M Δ v e = walk_stmt-stays next M Δ _ (use_all-stays Δ (var.id ∷ []) v ∙ e)
  walk_stmt-stays (Exit var) M Δ v e = use_all-stays Δ (var.id ∷ []) v ∙ e

  pub walk_clauses-stays : (cs : Clauses) (M : ℕ) (Δ : List VarId) (v : Verdict) → v.room ≡ false → (walk_clauses cs M Δ v).room ≡ false
  walk_clauses-stays end M Δ v e = e
  walk_clauses-stays (clause xtor context body rest) M Δ v e = walk_clauses-stays rest M Δ _ (walk_stmt-stays body M _ _ (enter_all-stays M (ids context) (record { scope = Δ; verdict = v }) e))

-- ── the same scope, in another order ──

pub record SameScope (Δ Δ' : List VarId) : Type 0 where
  pub members : (x : VarId) → elem x Δ ≡ elem x Δ'
  pub count : length Δ ≡ length Δ'

pub elem-++ : (x : VarId) (s t : List VarId) → elem x (s ++ t) ≡ elem x s || elem x t
elem-++ x [] t = refl
elem-++ x (y ∷ s) t = go (same_var_id x y) (elem-++ x s t)
  where
    go : (b : Bool) → elem x (s ++ t) ≡ elem x s || elem x t → b || elem x (s ++ t) ≡ (b || elem x s) || elem x t
    go true e = refl
    go false e = e

same_more : {Δ Δ' : List VarId} (x : VarId) → SameScope Δ Δ' → SameScope (x ∷ Δ) (Δ' ++ (x ∷ []))
same_more {Δ} {Δ'} x s = record {
  members = λ y. ap₂ (λ (a b : Bool). a || b) (one y) (s.members y) ∙ or_comm (elem y (x ∷ [])) (elem y Δ') ∙ sym (elem-++ y Δ' (x ∷ []));
  count = ap suc s.count ∙ omega (arith, length-append Δ' (x ∷ []));
}
  where
    one : (y : VarId) → same_var_id y x ≡ elem y (x ∷ [])
    one y = sym (or-false (same_var_id y x))

-- ── uses ──

module _ {Δ Δ' : List VarId} (s : SameScope Δ Δ') where
  finds-uses : (xs : List VarId) (v : Verdict) → Finds v (use_all Δ' xs v) true true (every (λ (x : VarId). elem x Δ) xs) true
  finds-uses [] v = finds_none v
  finds-uses (x ∷ xs) v = finds_then first (λ e. finds-uses xs (use_one_lem Δ' x v)) (λ e. use_all-stays Δ' xs (use_one_lem Δ' x v) ∙ e)
    where
      first : Finds v (use_one_lem Δ' x v) true true (elem x Δ) true
      first = record {
        finds_room = sym (and-true v.room);
        finds_binders = λ e. sym (and-true v.binders);
        finds_uses = λ e. ap (λ (b : Bool). v.uses && b) (sym (s.members x));
        finds_ids = λ e. sym (and-true v.ids);
      }

-- ── binders ──

-- a binder before others in a list comes to the same scope as behind them
same-front : {Δ' : List VarId} (x : VarId) (xs Δ : List VarId) → SameScope (xs ++ x ∷ Δ) Δ' → SameScope (x ∷ xs ++ Δ) Δ'
same-front {Δ'} x xs Δ s = record {
  members = λ y. front y ∙ s.members y;
  count = omega (arith, length-append xs Δ, length-append xs (x ∷ Δ), s.count);
}
  where
    or_front : (a b c : Bool) → a || (b || c) ≡ b || (a || c)
    or_front true true c = refl
    or_front true false c = refl
    or_front false true c = refl
    or_front false false c = refl

    front : (y : VarId) → elem y (x ∷ xs ++ Δ) ≡ elem y (xs ++ x ∷ Δ)
    front y = ap (λ (b : Bool). same_var_id y x || b) (elem-++ y xs Δ) ∙ or_front (same_var_id y x) (elem y xs) (elem y Δ) ∙ sym (elem-++ y xs (x ∷ Δ))

-- none is x, and none is in the scope
every-new : (x : VarId) (Δ xs : List VarId) → every (λ (y : VarId). not (elem y (x ∷ Δ))) xs ≡ every (λ (y : VarId). not (elem y Δ)) xs && not (elem x xs)
every-new x Δ [] = refl
every-new x Δ (y ∷ xs) =
    let turned : same_var_id y x ≡ same_var_id x y = grind (arith, nat_tests) in
    ap₂ (λ (a c : Bool). not (a || elem y Δ) && c) turned (every-new x Δ xs)
    ∙ shuffle (same_var_id x y) (elem y Δ) (every (λ (z : VarId). not (elem z Δ)) xs) (elem x xs)
  where
    shuffle : (a b c e : Bool) → not (a || b) && (c && not e) ≡ (not b && c) && not (a || e)
    shuffle true true c e = refl
    shuffle true false true e = refl
    shuffle true false false e = refl
    shuffle false true c e = refl
    shuffle false false true e = refl
    shuffle false false false e = refl

-- one after the other, or all at once
new-first : (x : VarId) (Δ xs : List VarId) → not (elem x Δ) && new (x ∷ Δ) xs ≡ new Δ (x ∷ xs)
new-first x Δ xs =
    ap (λ (b : Bool). not (elem x Δ) && (b && distinct xs)) (every-new x Δ xs)
    ∙ shuffle (not (elem x Δ)) (every (λ (y : VarId). not (elem y Δ)) xs) (not (elem x xs)) (distinct xs)
  where
    shuffle : (a b c d : Bool) → a && ((b && c) && d) ≡ (a && b) && (c && d)
    shuffle true true c d = refl
    shuffle true false c d = refl
    shuffle false b c d = refl

-- there is room for one more
enter-room : (M : ℕ) (x : VarId) (s : Scoped) → length s.scope < 64 → enter_one_lem M x s ≡ record { scope = s.scope ++ (x ∷ []); verdict = judged M s.scope x s.verdict }
enter-room M x s h = rw (lt-ltb (length s.scope) 64 h)

enter-full : (M : ℕ) (x : VarId) (s : Scoped) → 64 ≤ length s.scope → enter_one_lem M x s ≡ record { scope = s.scope; verdict = full s.verdict }
enter-full M x s h = rw (le-ltb (length s.scope) 64 h)

pub record Entered (M : ℕ) (Δ xs : List VarId) (v : Verdict) (s : Scoped) : Type 0 where
  pub scope : SameScope (xs ++ Δ) s.scope
  pub finds : Finds v s.verdict true (new Δ xs) true (up_to M Δ xs)

finds-enter : (M : ℕ) (xs : List VarId) {Δ Δ' : List VarId} (v : Verdict) → SameScope Δ Δ' → length xs + length Δ ≤ 64 → Entered M Δ xs v (enter_all M xs (record { scope = Δ'; verdict = v }))
finds-enter M [] v s h = record { scope = s; finds = finds_none v }
finds-enter M (x ∷ xs) {Δ} {Δ'} v s h =
    let e = enter-room M x (record { scope = Δ'; verdict = v }) (omega (arith, s.count)) in
    let w = judged M Δ' x v in
    let r = finds-enter M xs {Δ = x ∷ Δ} {Δ' = Δ' ++ (x ∷ [])} w (same_more x s) (omega arith) in
    subst (λ (z : Scoped). Entered M Δ (x ∷ xs) v (enter_all M xs z)) (sym e) (record {
      scope = same-front x xs Δ r.scope;
      finds = subst (λ (b : Bool). Finds v (enter_all M xs (record { scope = Δ' ++ (x ∷ []); verdict = w })).verdict true b true (up_to M Δ (x ∷ xs))) (new-first x Δ xs)
          (finds_then first (λ q. r.finds) (λ q. enter_all-stays M xs (record { scope = Δ' ++ (x ∷ []); verdict = w }) q));
    })
  where
    first : Finds v (judged M Δ' x v) true (not (elem x Δ)) true (leb x.0 M)
    first = record {
      finds_room = sym (and-true v.room);
      finds_binders = λ q. ap (λ (b : Bool). v.binders && not b) (sym (s.members x));
      finds_uses = λ q. sym (and-true v.uses);
      finds_ids = λ q. refl;
    }

enter_overflows : (M : ℕ) (xs Δ' : List VarId) (v : Verdict) → length Δ' ≤ 64 → 64 < length xs + length Δ' → (enter_all M xs (record { scope = Δ'; verdict = v })).verdict.room ≡ false
enter_overflows M [] Δ' v h k = absurd (omega arith)
enter_overflows M (x ∷ xs) Δ' v h k = go (ltb (length Δ') 64) refl (λ l m. enter_overflows M xs (Δ' ++ (x ∷ [])) (judged M Δ' x v) l m)
  where
    go : (t : Bool) → ltb (length Δ') 64 ≡ t
        → (length (Δ' ++ (x ∷ [])) ≤ 64 → 64 < length xs + length (Δ' ++ (x ∷ [])) → (enter_all M xs (record { scope = Δ' ++ (x ∷ []); verdict = judged M Δ' x v })).verdict.room ≡ false)
        → (enter_all M (x ∷ xs) (record { scope = Δ'; verdict = v })).verdict.room ≡ false
    go true e ih =
        let l = ltb-true (length Δ') 64 e in
        let m = length-append Δ' (x ∷ []) in
        ap (λ (z : Scoped). (enter_all M xs z).verdict.room) (enter-room M x (record { scope = Δ'; verdict = v }) l) ∙ ih (omega arith) (omega arith)
    go false e ih = ap (λ (z : Scoped). (enter_all M xs z).verdict.room) (enter-full M x (record { scope = Δ'; verdict = v }) (ltb-false (length Δ') 64 e)) ∙ enter_all-stays M xs (record { scope = Δ'; verdict = full v }) refl

-- binders, and what stands below them
module _ (M : ℕ) (xs : List VarId) {Δ Δ' : List VarId} (s : SameScope Δ Δ') (h : length Δ ≤ 64) (k : Walking) {a b c d : Bool}
    (below : (Δ₁ : List VarId) (w : Verdict) → SameScope (xs ++ Δ) Δ₁ → length (xs ++ Δ) ≤ 64 → Finds w (k Δ₁ w) a b c d)
    (stays : (Δ₁ : List VarId) (w : Verdict) → w.room ≡ false → (k Δ₁ w).room ≡ false)
    (over : 64 < length (xs ++ Δ) → a ≡ false) where
  finds-under : (v : Verdict) → Finds v (under M xs k Δ' v) a (new Δ xs && b) c (up_to M Δ xs && d)
  finds-under v = go (leb (length (xs ++ Δ)) 64) refl
    where
      go : (t : Bool) → leb (length (xs ++ Δ)) 64 ≡ t → Finds v (under M xs k Δ' v) a (new Δ xs && b) c (up_to M Δ xs && d)
      go true e =
          let l = leb-true (length (xs ++ Δ)) 64 e in
          let r = finds-enter M xs v s (omega (arith, length-append xs Δ)) in
          finds_then r.finds (λ q. below _ _ r.scope l) (λ q. stays _ _ q)
      go false e =
          let l = leb-false (length (xs ++ Δ)) 64 e in
          subst (λ (z : Bool). Finds v (under M xs k Δ' v) z (new Δ xs && b) c (up_to M Δ xs && d)) (sym (over l))
          (finds-full (new Δ xs && b) c (up_to M Δ xs && d) (stays _ _ (enter_overflows M xs Δ' v (omega (arith, s.count)) (omega (arith, length-append xs Δ, s.count)))))

-- ── statements ──

-- a scope that is too long is found at once
asked-over : (t : Stmt) (Δ : List VarId) → 64 < length Δ → asked t in_room any_binders Δ ≡ false
unfolding asked
asked-over (Substitute ps next) Δ h = rw (lt-leb (length Δ) 64 h)
asked-over (Call label args) Δ h = rw (lt-leb (length Δ) 64 h)
asked-over (Let var ty tag args next) Δ h = rw (lt-leb (length Δ) 64 h)
asked-over (Switch var ty cs) Δ h = rw (lt-leb (length Δ) 64 h)
asked-over (Create var ty env cs next) Δ h = rw (lt-leb (length Δ) 64 h)
asked-over (Invoke var tag ty args) Δ h = rw (lt-leb (length Δ) 64 h)
asked-over (Literal lit var next) Δ h = rw (lt-leb (length Δ) 64 h)
asked-over (Op fst op snd var next) Δ h = rw (lt-leb (length Δ) 64 h)
asked-over (IfC sort fst snd thenc elsec) Δ h = rw (lt-leb (length Δ) 64 h)
asked-over (PrintI64 newline var next) Δ h = rw (lt-leb (length Δ) 64 h)
asked-over (Exit var) Δ h = rw (lt-leb (length Δ) 64 h)

mutual
  unfolding asked walk_stmt

  pub finds-stmt : (t : Stmt) (M : ℕ) (Δ Δ' : List VarId) (v : Verdict) → SameScope Δ Δ' → length Δ ≤ 64
      → Finds v (walk_stmt t M Δ' v) (asked t in_room any_binders Δ) (asked t any_stmt new Δ) (asked t in_scope_lem any_binders Δ) (asked t any_stmt (up_to M) Δ)
  finds-stmt (Substitute ps next) M Δ Δ' v s h = rw (le-leb (length Δ) 64 h) (finds-stmt next M Δ Δ' v s h)
  finds-stmt (Call label args) M Δ Δ' v s h = rw (le-leb (length Δ) 64 h) (finds-uses s (ids args) v)
  finds-stmt (Let var ty tag args next) M Δ Δ' v s h =
      rw (le-leb (length Δ) 64 h)
      (finds_then (finds-uses s (ids args) v)
      (λ e. finds-under M (var.id ∷ []) s h (walk_stmt next M) (λ Δ₁ w q l. finds-stmt next M (var.id ∷ Δ) Δ₁ w q l) (λ Δ₁ w q. walk_stmt-stays next M Δ₁ w q) (λ l. asked-over next (var.id ∷ Δ) l) (use_all Δ' (ids args) v))
      (λ e. walk_stmt-stays next M _ _ (enter_all-stays M (var.id ∷ []) (record { scope = Δ'; verdict = use_all Δ' (ids args) v }) e)))
  finds-stmt (Switch var ty cs) M Δ Δ' v s h =
      rw (le-leb (length Δ) 64 h) (finds_then (finds-uses s (var.id ∷ []) v) (λ e. finds-clauses cs M Δ Δ' _ s h) (λ e. walk_clauses-stays cs M Δ' _ e))
  finds-stmt (Create var ty env cs next) M Δ Δ' v s h =
      rw (le-leb (length Δ) 64 h)
      (finds_then (finds-clauses cs M Δ Δ' v s h)
      (λ e. finds-under M (var.id ∷ []) s h (walk_stmt next M) (λ Δ₁ w q l. finds-stmt next M (var.id ∷ Δ) Δ₁ w q l) (λ Δ₁ w q. walk_stmt-stays next M Δ₁ w q) (λ l. asked-over next (var.id ∷ Δ) l) (walk_clauses cs M Δ' v))
      (λ e. walk_stmt-stays next M _ _ (enter_all-stays M (var.id ∷ []) (record { scope = Δ'; verdict = walk_clauses cs M Δ' v }) e)))
  finds-stmt (Invoke var tag ty args) M Δ Δ' v s h = rw (le-leb (length Δ) 64 h) (finds-uses s (var.id ∷ ids args) v)
  finds-stmt (Literal lit var next) M Δ Δ' v s h =
      rw (le-leb (length Δ) 64 h)
      (finds-under M (var.id ∷ []) s h (walk_stmt next M) (λ Δ₁ w q l. finds-stmt next M (var.id ∷ Δ) Δ₁ w q l) (λ Δ₁ w q. walk_stmt-stays next M Δ₁ w q) (λ l. asked-over next (var.id ∷ Δ) l) v)
  finds-stmt (Op fst op snd var next) M Δ Δ' v s h =
      rw (le-leb (length Δ) 64 h)
      (finds_then (finds-uses s (fst.id ∷ snd.id ∷ []) v)
      (λ e. finds-under M (var.id ∷ []) s h (walk_stmt next M) (λ Δ₁ w q l. finds-stmt next M (var.id ∷ Δ) Δ₁ w q l) (λ Δ₁ w q. walk_stmt-stays next M Δ₁ w q) (λ l. asked-over next (var.id ∷ Δ) l) (use_all Δ' (fst.id ∷ snd.id ∷ []) v))
      (λ e. walk_stmt-stays next M _ _ (enter_all-stays M (var.id ∷ []) (record { scope = Δ'; verdict = use_all Δ' (fst.id ∷ snd.id ∷ []) v }) e)))
  finds-stmt (IfC sort fst snd thenc elsec) M Δ Δ' v s h =
      rw (le-leb (length Δ) 64 h)
      (finds_then (finds-uses s (uses (IfC sort fst snd thenc elsec)) v)
      (λ e. finds_then (finds-stmt thenc M Δ Δ' _ s h) (λ q. finds-stmt elsec M Δ Δ' _ s h) (λ q. walk_stmt-stays elsec M Δ' _ q))
      (λ e. walk_stmt-stays elsec M Δ' _ (walk_stmt-stays thenc M Δ' _ e)))
  finds-stmt (PrintI64 newline var next) M Δ Δ' v s h =
      rw (le-leb (length Δ) 64 h) (finds_then (finds-uses s (var.id ∷ []) v) (λ e. finds-stmt next M Δ Δ' _ s h) (λ e. walk_stmt-stays next M Δ' _ e))
  finds-stmt (Exit var) M Δ Δ' v s h = rw (le-leb (length Δ) 64 h) (finds-uses s (var.id ∷ []) v)

  pub finds-clauses : (cs : Clauses) (M : ℕ) (Δ Δ' : List VarId) (v : Verdict) → SameScope Δ Δ' → length Δ ≤ 64
      → Finds v (walk_clauses cs M Δ' v) (asked_clauses cs in_room any_binders Δ) (asked_clauses cs any_stmt new Δ) (asked_clauses cs in_scope_lem any_binders Δ) (asked_clauses cs any_stmt (up_to M) Δ)
  finds-clauses end M Δ Δ' v s h = finds_none v
  finds-clauses (clause xtor context body rest) M Δ Δ' v s h =
      finds_assoc (new Δ (ids context)) (asked body any_stmt new (ids context ++ Δ)) (asked_clauses rest any_stmt new Δ)
      (up_to M Δ (ids context)) (asked body any_stmt (up_to M) (ids context ++ Δ)) (asked_clauses rest any_stmt (up_to M) Δ)
      (finds_then
      (finds-under M (ids context) s h (walk_stmt body M) (λ Δ₁ w q l. finds-stmt body M (ids context ++ Δ) Δ₁ w q l) (λ Δ₁ w q. walk_stmt-stays body M Δ₁ w q) (λ l. asked-over body (ids context ++ Δ) l) v)
      (λ e. finds-clauses rest M Δ Δ' _ s h) (λ e. walk_clauses-stays rest M Δ' _ e))

-- ── definitions ──

walk_defs-stays : (ds : List Def) (M : ℕ) (v : Verdict) → v.room ≡ false → (walk_defs ds M v).room ≡ false
unfolding walk_defs
walk_defs-stays [] M v e = e
walk_defs-stays (d ∷ ds) M v e = walk_defs-stays ds M _ (walk_stmt-stays d.body M _ _ (enter_all-stays M (ids d.context) (record { scope = []; verdict = v }) e))

no-scope : SameScope [] []
no-scope = record { members = λ x. refl; count = refl }

pub finds-defs : (ds : List Def) (M : ℕ) (v : Verdict)
    → Finds v (walk_defs ds M v) (asked_defs ds in_room any_binders) (asked_defs ds any_stmt new) (asked_defs ds in_scope_lem any_binders) (asked_defs ds any_stmt (up_to M))
unfolding walk_defs
finds-defs [] M v = finds_none v
finds-defs (d ∷ ds) M v =
    let Δ = ids d.context in
    let body = d.body in
    let Found : List VarId → Type 0 =
    λ z. Finds v (under M Δ (walk_stmt body M) [] v) (asked body in_room any_binders z) (new [] Δ && asked body any_stmt new z)
    (asked body in_scope_lem any_binders z) (up_to M [] Δ && asked body any_stmt (up_to M) z) in
    let below = subst Found (append-nil Δ)
    (finds-under M Δ no-scope (omega arith) (walk_stmt body M) (λ Δ₁ w q l. finds-stmt body M (Δ ++ []) Δ₁ w q l) (λ Δ₁ w q. walk_stmt-stays body M Δ₁ w q) (λ l. asked-over body (Δ ++ []) l) v) in
    finds_assoc (new [] Δ) (asked body any_stmt new Δ) (asked_defs ds any_stmt new) (up_to M [] Δ) (asked body any_stmt (up_to M) Δ) (asked_defs ds any_stmt (up_to M))
    (finds_then below (λ e. finds-defs ds M _) (λ e. walk_defs-stays ds M _ e))

-- ── the walk answers the questions ──

pub record Answered (ds : List Def) (M : ℕ) (r : Verdict) : Type 0 where
  pub room : r.room ≡ asked_defs ds in_room any_binders
  pub binders : r.room ≡ true → r.binders ≡ asked_defs ds any_stmt new
  pub uses : r.room ≡ true → r.uses ≡ asked_defs ds in_scope_lem any_binders
  pub ids : r.room ≡ true → r.ids ≡ asked_defs ds any_stmt (up_to M)

pub walk_answers : (ds : List Def) (M : ℕ) → Answered ds M (walk_defs ds M clean)
walk_answers ds M = let t = finds-defs ds M clean in record { room = t.finds_room; binders = t.finds_binders; uses = t.finds_uses; ids = t.finds_ids }
