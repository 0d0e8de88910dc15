-- Scopes in a lent array, a place at a time; what stays of them; and what the walk finds at a binder, as the code holds it. (At a use:
-- UseLaws.antt.) With room, the scope takes all that is bound (`entered_all`). Assumes nothing.
use Prim.Native.Nat.{ℕ, zero, suc, ◌+◌, ◌≤◌, ◌<◌}
use mathlib.Core.Path.{◌≡◌, refl, sym, ap, ap₂, ◌∙◌, subst}
use mathlib.Core.Bool.{Bool, not, ◌&&◌, ◌||◌}
use mathlib.Core.List.{List, [], ◌∷◌, ◌++◌, map, map-append, append-nil, append_assoc}
use native.Mathlib.Omega.{arith}
use borrow.Author.Tests.{lt-ltb, le-ltb}
use Rattle.std.specs.List.{list_any}
use Rattle.std.proofs.lemmas.Bool.Decides.{nat_tests}
use lib.Dec.{leb, eqb}
use lib.ListN.{length, take, drop, set, get_or, length-append, length-map, length-take, length-set}
use lib.Seq.{take-set-le, take-take}
use Rattle.std.proofs.lemmas.List.{take_more_set}
use Rattle.syntax.specs.Sets.{elem}
use Rattle.syntax.specs.declared.names.VarId.{VarId}
use Rattle.scope_spec.specs.declared.Verdict.{Verdict}
use Rattle.scope_spec.specs.Walk.{Scoped, judged, full, enter_one_lem, enter_all}
use Rattle.scope_places.specs.Places.{id_of, scope_in, ScopeAt, Kept}
use Rattle.scope_places.specs.Scoping.{scope_of, scoped_of, Entered}
use Rattle.scope_places.specs.declared.scope.InScope.{InScope}

-- ── a scope in a lent array ──

pub in_scope : (x : VarId) (xs : List ℕ) → list_any (λ (y : ℕ). eqb y x.0) xs ≡ elem x (map id_of xs)
in_scope x [] = refl
in_scope x (y ∷ xs) = let turned : eqb y x.0 ≡ eqb x.0 y = grind (arith, nat_tests) in ap₂ ◌||◌ turned (in_scope x xs)

pub scope-count : {xs : List ℕ} {n : ℕ} → ScopeAt xs n → length (scope_in n xs) ≡ n
scope-count {xs} {n} s = length-map (take n xs) id_of ∙ (length-take n xs ∙ omega (arith, s.small, s.room))

-- what is in scope from a place on
pub scope-from : (n : ℕ) (xs : List ℕ) (i : ℕ) → i < n → n ≤ length xs → drop i (scope_in n xs) ≡ id_of (get_or xs i 0) ∷ drop (suc i) (scope_in n xs)
scope-from zero xs i h k = absurd (omega arith)
scope-from (suc n) [] i h k = absurd (omega arith)
scope-from (suc n) (x ∷ xs) zero h k = refl
scope-from (suc n) (x ∷ xs) (suc i) h k = scope-from n xs i (omega arith) (omega arith)

-- ── what stays ──

pub kept-all : (n : ℕ) (xs : List ℕ) → Kept n xs xs
kept-all n xs = record { long = refl; first = refl }

pub kept_then : {n m : ℕ} {xs ys zs : List ℕ} → n ≤ m → Kept n xs ys → Kept m ys zs → Kept n xs zs
kept_then {n} {m} {xs} {ys} {zs} h a b = record {
  long = b.long ∙ a.long;
  first = sym (take-take n m zs h) ∙ (ap (take n) b.first ∙ (take-take n m ys h ∙ a.first));
}

pub kept-scope : {n : ℕ} {xs ys : List ℕ} → Kept n xs ys → ScopeAt xs n → ScopeAt ys n
kept-scope k s = record { small = s.small; room = omega (arith, s.room, k.long) }

pub kept-ids : {n : ℕ} {xs ys : List ℕ} → Kept n xs ys → scope_in n ys ≡ scope_in n xs
kept-ids k = ap (map id_of) k.first

-- ── a binder ──

pub entered_none : (s : InScope) (v : Verdict) → Entered s s v (scoped_of s v)
entered_none s v = record { is = refl; kept = kept-all s.n s.ids.now; more = omega arith; same = refl }

pub entered-same : (M : ℕ) (z : Scoped) {xs ys : List VarId} {s t : InScope} {v : Verdict} → ys ≡ xs → Entered s t v (enter_all M xs z) → Entered s t v (enter_all M ys z)
entered-same M z {xs} {ys} {s} {t} {v} q h = subst (λ (zs : List VarId). Entered s t v (enter_all M zs z)) (sym q) h

-- one binder after others
pub entered_then : {s t u : InScope} {v w : Verdict} {x y : Scoped} → Entered s t v x → Entered t u w y → Entered s u w y
entered_then h k = record { is = k.is; kept = kept_then h.more h.kept k.kept; more = omega (arith, h.more, k.more); same = k.same ∙ h.same }

pub entered-room : (M : ℕ) (x : VarId) (s s' : InScope) (v : Verdict) {b l : Bool} → s.n < 64
    → s'.n ≡ s.n + 1 → s'.ids.now ≡ set s.ids.now s.n x.0 → s'.ids.ghost_name ≡ s.ids.ghost_name
    → b ≡ (v.binders && not (elem x (scope_of s))) → l ≡ (v.ids && leb x.0 M)
    → Entered s s' (record { room = v.room; binders = b; uses = v.uses; ids = l }) (enter_one_lem M x (scoped_of s v))
entered-room M x s s' v {b} {l} h j o g p q =
    let xs = s.ids.now in
    let k : length (scope_of s) < 64 = omega (arith, scope-count s.fits) in
    let z : scope_of s' ≡ scope_of s ++ (x ∷ []) =
    ap₂ scope_in j o ∙ (ap (map id_of) (take_more_set xs s.n x.0 (omega (arith, s.fits.room))) ∙ map-append id_of (take s.n xs) (x.0 ∷ [])) in
    record {
      is = rw (lt-ltb _ _ k) (λ i. record { scope = z i; verdict = record { room = v.room; binders = p i; uses = v.uses; ids = q i } });
      kept = rw o (record { long = length-set xs s.n x.0; first = take-set-le s.n xs s.n x.0 (omega arith) });
      more = omega (arith, j);
      same = g;
    }

pub entered-full : (M : ℕ) (x : VarId) (s : InScope) (v : Verdict) → 64 ≤ s.n → Entered s s (full v) (enter_one_lem M x (scoped_of s v))
entered-full M x s v h =
    let k : 64 ≤ length (scope_of s) = omega (arith, scope-count s.fits) in
    record { is = rw (le-ltb _ _ k) refl; kept = kept-all s.n s.ids.now; more = omega arith; same = refl }

enter_one : (M : ℕ) (x : VarId) (Δ : List VarId) (v : Verdict) → length Δ < 64
    → enter_one_lem M x (record { scope = Δ; verdict = v }) ≡ record { scope = Δ ++ (x ∷ []); verdict = judged M Δ x v }
enter_one M x Δ v h = rw (lt-ltb (length Δ) 64 h)

enter-room : (M : ℕ) (xs Δ : List VarId) (v : Verdict) → length (Δ ++ xs) ≤ 64 → (enter_all M xs (record { scope = Δ; verdict = v })).scope ≡ Δ ++ xs
enter-room M [] Δ v h = sym (append-nil Δ)
enter-room M (x ∷ xs) Δ v h =
    let n : length Δ < 64 = omega (arith, length-append Δ (x ∷ xs)) in
    ap (λ (s : Scoped). (enter_all M xs s).scope) (enter_one M x Δ v n)
    ∙ (enter-room M xs (Δ ++ (x ∷ [])) (judged M Δ x v) (rw (append_assoc Δ (x ∷ []) xs) h) ∙ append_assoc Δ (x ∷ []) xs)

-- with room, all of them are in scope
pub entered_all : (M : ℕ) (xs Δ : List VarId) (v : Verdict) {s : Scoped} → s ≡ enter_all M xs (record { scope = Δ; verdict = v }) → length (Δ ++ xs) ≤ 64 → s.scope ≡ Δ ++ xs
entered_all M xs Δ v e h = ap (λ (z : Scoped). z.scope) e ∙ enter-room M xs Δ v h
