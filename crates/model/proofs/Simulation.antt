-- What one step of the source machine asks of the linear machine, and the substitution before it. Assumes nothing.
use mathlib.Core.Path.{◌≡◌, refl, sym, ◌∙◌, ap, ap₂, subst}
use mathlib.Core.Logic.{◌⊎◌, inl, inr}
use mathlib.Core.Bool.{Bool, true, false, ◌&&◌}
use mathlib.Core.List.{List, [], ◌∷◌, ◌++◌, map-append}
use mathlib.Core.Option.{Option, none, some}
use Prim.Native.Nat.{ℕ, ◌+◌, ◌-◌}
use native.Mathlib.Omega.{arith}
use lib.ListN.{length, length-append, length-map}
use lib.Seq.{take_at, drop_at}
use Rattle.syntax.specs.Context.{Context, id_of, ids, vars, same_context}
use Rattle.syntax.specs.Sets.{◌∈◌, Distinct, distinct}
use Rattle.syntax.specs.Filter.{filter_by_set_lem}
use Rattle.syntax.specs.declared.names.VarId.{VarId}
use Rattle.syntax.specs.declared.names.Identifier.{Identifier}
use Rattle.syntax.proofs.Members.{distinct_true, elem_true, same_self}
use Rattle.syntax.proofs.Filters.{ids-++}
use Rattle.syntax.proofs.Same.{same_context-sound}
use Rattle.model.specs.Syntax.{Stmt, Prog}
use Rattle.model.specs.Lists.{lookup, zip}
use Rattle.model.specs.Rules.{arrange}
use Rattle.model.specs.Pass.{linearize}
use Rattle.model.specs.Machine.{Value, Entries, keys, values, Cells, State, at, Outcome, shows, silent, halts, stops, or_halt}
use Rattle.model.specs.Source.{source_step_lem}
use Rattle.model.specs.Linear.{linear_step_lem, in_order_lem, linear_work, last_of, before_last, same_ids, ends_in_lem, present, targets, sources, last_value_lem}
use Rattle.model.specs.Renaming.{Renaming, rename, rename_id}
use Rattle.model.proofs.Alist.{firsts, in_lookup, zip-++, Got, got-++, got-length, got-lookups, got_self, got_unique}
use Rattle.model.proofs.Good.{selects_filter}
use Rattle.model.proofs.Invariant.{Fits, Same, rename-id, part-values, part-good}

-- ── the end of the list ──

module _ {A : Type 0} where
  pub last_of_at : (p q : List A) (k : ℕ) → length q ≡ k → last_of k (p ++ q) ≡ q
  last_of_at p q k e = drop_at p q (length (p ++ q) - k) (omega (arith, length-append p q))

  pub before_last-at : (p q : List A) (k : ℕ) → length q ≡ k → before_last k (p ++ q) ≡ p
  before_last-at p q k e = take_at p q (length (p ++ q) - k) (omega (arith, length-append p q))

same_ids_refl : (xs : List VarId) → same_ids xs xs ≡ true
same_ids_refl [] = refl
same_ids_refl (x ∷ xs) = rw (same_self x) (same_ids_refl xs)

pub ends_in-at : (p xs : List VarId) → ends_in_lem xs (p ++ xs) ≡ true
ends_in-at p xs = rw (last_of_at p xs (length xs) refl) (same_ids_refl xs)

pub last_value-at : (p : Entries) (x : VarId) (v : Value) → last_value_lem (p ++ ((x, v) ∷ [])) ≡ some v
last_value-at p x v = rw (last_of_at p ((x, v) ∷ []) 1 refl)

pub keys-++ : (p q : Entries) → keys (p ++ q) ≡ keys p ++ keys q
keys-++ p q = map-append (λ (e : VarId × Value). e.0) p q

-- ── IDs that are present ──

pub present_true : (xs l : List VarId) → ((x : VarId) → x ∈ xs → x ∈ l) → present xs l ≡ true
present_true [] l h = refl
present_true (x ∷ xs) l h = rw (elem_true x l (h x (inl refl))) (present_true xs l (λ y k. h y (inr k)))

pub got-present : (xs : List VarId) (l : Entries) (vs : List Value) → Got xs l vs → present xs (keys l) ≡ true
got-present [] l [] g = refl
got-present [] l (v ∷ vs) g = absurd g
got-present (x ∷ xs) l [] g = absurd g
got-present (x ∷ xs) l (v ∷ vs) g = rw (elem_true x (keys l) (in_lookup x v l g.0)) (got-present xs l vs g.1)

-- ── IDs in order ──

-- the list ends in the IDs that a Let or Create consumes, and its variable is new to the rest
pub consumes : (l used : Entries) (xs : List VarId) (n : ℕ) (x : VarId) → keys used ≡ xs → length xs ≡ n → distinct (keys l ++ (x ∷ [])) ≡ true →
    (ends_in_lem xs (keys (l ++ used)) && distinct (before_last n (keys (l ++ used)) ++ (x ∷ []))) ≡ true
consumes l used xs n x e h d = rw (keys-++ l used, e, ends_in-at (keys l) xs, before_last-at (keys l) xs n h) d

-- the list ends in the variable of a Switch or Invoke
pub last_in_order : (l : Entries) (x : VarId) (v : Value) → ends_in_lem (x ∷ []) (keys (l ++ ((x, v) ∷ []))) ≡ true
last_in_order l x v = rw (keys-++ l ((x, v) ∷ [])) (ends_in-at (keys l) (x ∷ []))

-- no ID is there twice where a variable is appended
pub appended_distinct : (l : Entries) (x : VarId) (v : Value) → distinct (keys (l ++ ((x, v) ∷ []))) ≡ true → distinct (keys l ++ (x ∷ [])) ≡ true
appended_distinct l x v d = ap distinct (sym (keys-++ l ((x, v) ∷ []))) ∙ d

-- the value of a variable under its new name
pub renamed : (ρ : Renaming) (x : Identifier) (l : Entries) (v : Value) → lookup (rename_id ρ x.id) l ≡ some v → lookup (rename ρ x).id l ≡ some v
renamed ρ x l v e = ap (λ (y : VarId). lookup y l) (rename-id ρ x) ∙ e

-- ── the pairs of a Substitute ──

targets-zip : (T W : Context) → length W ≡ length T → targets (zip T (vars W)) ≡ ids T
targets-zip [] W e = refl
targets-zip (b ∷ T) [] e = absurd (omega arith)
targets-zip (b ∷ T) (c ∷ W) e = ap (λ (r : List VarId). id_of b ∷ r) (targets-zip T W (omega arith))

sources-zip : (T W : Context) → length W ≡ length T → sources (zip T (vars W)) ≡ ids W
sources-zip [] [] e = refl
sources-zip [] (c ∷ W) e = absurd (omega arith)
sources-zip (b ∷ T) [] e = absurd (omega arith)
sources-zip (b ∷ T) (c ∷ W) e = ap (λ (r : List VarId). id_of c ∷ r) (sources-zip T W (omega arith))

rebuilt : (l : Entries) → l ≡ zip (firsts l) (values l)
rebuilt [] = refl
rebuilt (e ∷ l) = ap (λ (r : Entries). e ∷ r) (rebuilt l)

same_length : (l : Entries) → length (firsts l) ≡ length (values l)
same_length l = length-map l (λ (e : VarId × Value). e.0) ∙ sym (length-map l (λ (e : VarId × Value). e.1))

-- at t, or after one substitution from there
abbrev pub Reaches : Prog → State → State → Type 0
Reaches P t t₁ = (linear_step_lem P t ≡ silent t₁) ⊎ (t ≡ t₁)

-- a rearrangement from Γ to the targets T, with the values of the wanted W, is made by the inserted Substitute, or needs none
pub arrive : (P : Prog) (right : Bool) (Γ T W : Context) (s : Stmt) (l : Entries) (K : Cells) (vs : List Value)
    → (right ≡ true → (Γ ≡ W) × (T ≡ W)) → Distinct (ids Γ) → Distinct (ids T) → length W ≡ length T → firsts l ≡ ids Γ → Got (ids W) l vs
    → Reaches P (at (arrange right T W s) l K) (at s (zip (ids T) vs) K)
unfolding arrange linear_step_lem in_order_lem linear_work
arrive P true Γ T W s l K vs same dΓ dT e o g = inr (ap (λ (r : Entries). at s r K) (list (same refl)))
  where
    list : (Γ ≡ W) × (T ≡ W) → l ≡ zip (ids T) vs
    list q =
        let p : firsts l ≡ ids W = o ∙ ap ids q.0 in
        let d : Distinct (firsts l) = rw o dΓ in
        let h : Got (firsts l) l (values l) = subst (λ (r : Entries). Got (firsts l) r (values l)) (sym (rebuilt l)) (got_self (firsts l) (values l) d (same_length l)) in
        let u : values l ≡ vs = got_unique (ids W) l (values l) vs (rw p at h) g in
        rebuilt l ∙ ap₂ (λ (r : List VarId) (q : List Value). zip r q) (p ∙ ap ids (sym q.1)) u
arrive P false Γ T W s l K vs same dΓ dT e o g = inl (rw (targets-zip T W e, sources-zip T W e, distinct_true (ids T) dT, got-present (ids W) l vs g, got-lookups (ids W) l vs g))

-- what a filter keeps of the context needs at most the inserted Substitute
pub arrive-kept : (P : Prog) {M : ℕ} {fv Δ : List VarId} {ρ : Renaming} {Γ : Context} {m : ℕ} {ε l : Entries} (f : Fits M fv Δ ρ Γ m ε l) (Z : List VarId) (s : Stmt) (K : Cells)
    → Reaches P (at (arrange (same_context Γ (filter_by_set_lem Z Γ)) (filter_by_set_lem Z Γ) (filter_by_set_lem Z Γ) s) l K)
    (at s (zip (ids (filter_by_set_lem Z Γ)) (part-values f (selects_filter Z Γ)).0) K)
arrive-kept P {Γ = Γ} {l = l} f Z s K =
    let new = filter_by_set_lem Z Γ in
    let sel = selects_filter Z Γ in
    let part = part-values f sel in
    arrive P (same_context Γ new) Γ new new s l K part.0 (λ e. (same_context-sound Γ new e, refl)) f.good.once (part-good f sel).once refl f.ordered part.1

-- the same where targets and wanted are in two parts
pub arrive₂ : (P : Prog) (right : Bool) (Γ A B C D : Context) (s : Stmt) (l : Entries) (K : Cells) (us vs : List Value)
    → (right ≡ true → (Γ ≡ C ++ D) × (A ++ B ≡ C ++ D)) → Distinct (ids Γ) → Distinct (ids (A ++ B)) → length C ≡ length A → length D ≡ length B
    → firsts l ≡ ids Γ → Got (ids C) l us → Got (ids D) l vs
    → Reaches P (at (arrange right (A ++ B) (C ++ D) s) l K) (at s (zip (ids A) us ++ zip (ids B) vs) K)
arrive₂ P right Γ A B C D s l K us vs same dΓ dT eA eB o g h =
    let count : length (ids A) ≡ length us = length-map A id_of ∙ sym eA ∙ sym (length-map C id_of) ∙ got-length (ids C) l us g in
    let e : zip (ids (A ++ B)) (us ++ vs) ≡ zip (ids A) us ++ zip (ids B) vs = ap (λ (r : List VarId). zip r (us ++ vs)) (ids-++ A B) ∙ zip-++ (ids A) (ids B) us vs count in
    subst (λ (r : Entries). Reaches P (at (arrange right (A ++ B) (C ++ D) s) l K) (at s r K)) e
    (arrive P right Γ (A ++ B) (C ++ D) s l K (us ++ vs) same dΓ dT (length-append C D ∙ ap₂ (λ (x y : ℕ). x + y) eA eB ∙ sym (length-append A B)) o
    (rw (ids-++ C D) (got-++ (ids C) (ids D) l us vs g h)))

-- ── a step of each machine ──

-- no next step on both sides, or the same event and states that fit again
abbrev pub Matches : ℕ → Outcome → Outcome → Type 0
Matches M (shows e s) (shows e' t) = (e ≡ e') × Same M s t
Matches M (shows e s) (silent t) = ⊥
Matches M (shows e s) halts = ⊥
Matches M (shows e s) stops = ⊥
Matches M (silent s) o = ⊥
Matches M halts (shows e t) = ⊥
Matches M halts (silent t) = ⊥
Matches M halts halts = Unit {0}
Matches M halts stops = ⊥
Matches M stops o = ⊥

-- the linear machine, perhaps after a substitution, does what the source machine does
abbrev pub Simulates : Prog → State → State → Type 0
Simulates P s t = (t₁ : State) × Reaches (linearize P) t t₁ × Matches P.max_id (source_step_lem P s) (linear_step_lem (linearize P) t₁)

-- where both sides look for the same, they find it or not together
pub both_halt : {A : Type 0} (M : ℕ) (o : Option A) (f g : A → Outcome) → ((a : A) → o ≡ some a → Matches M (f a) (g a)) → Matches M (or_halt o f) (or_halt o g)
both_halt M none f g h = tt
both_halt M (some a) f g h = h a refl
