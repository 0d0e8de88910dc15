-- Entries under a renaming: what it means that an entry stands for its source, and what `used`, `kept`, `moved_behind`, `owns` and
-- `respelled` then are: the renaming's work, done by the context. Assumes nothing.
use mathlib.Core.Path.{◌≡◌, refl, sym, ap, ap₂, ◌∙◌, subst}
use mathlib.Core.Logic.{◌⊎◌, inl, inr}
use mathlib.Core.Bool.{Bool, true, false, cond, true≢false, false≢true}
use mathlib.Core.List.Memᴰ
use mathlib.Core.List.{List, [], ◌∷◌, ◌++◌, map-append}
use mathlib.Core.Option.{Option, none, some}
use Prim.Native.Nat.{ℕ, ◌+◌}
use native.Mathlib.Omega.{arith}
use lib.ListN.{length, take, drop, take-append-drop}
use Rattle.syntax.specs.Names.{same_var_id}
use Rattle.syntax.specs.Context.{Context, id_of, ids}
use Rattle.syntax.specs.Sets.{elem, ◌∈◌, Distinct}
use Rattle.syntax.specs.Filter.{in_set, filter_by_set_lem}
use Rattle.syntax.specs.declared.names.VarId.{VarId}
use Rattle.syntax.specs.declared.names.Identifier.{Identifier}
use Rattle.syntax.specs.declared.context.ContextBinding.{ContextBinding}
use Rattle.syntax.proofs.Bools.{Answers}
use Rattle.syntax.proofs.Members.{same?, same_self, same_differ, elem?, elem_true, elem_false}
use Rattle.syntax.proofs.Permutations.{Perm, perm_swap}
use Rattle.model.specs.Renaming.{Renaming, rename, rename_id, rename_ids, rename_option, rename_context, or_self, or_self_id, then_rename, ◌⨾◌, renaming}
use Rattle.model.specs.Rules.{move_behind_lem}
use Rattle.model.specs.FreeVars.{optional_id}
use Rattle.model.proofs.Invariant.{rename_ids_in}
use Rattle.pass_work_spec.specs.declared.Entry.{Entry}
use Rattle.pass_work_spec.specs.Work.{Work, bindings, own, owns, entry_of, spelling, used, used_option, used_all_lem, kept, moved_behind, respell, respelled}
use Rattle.pass_work_spec.proofs.Lists.{In, in_case, filtered-of, of-filtered, filtered-map}
use Rattle.std.proofs.lemmas.List.{take-map, drop-map}

-- the entry stands for its source under a renaming: its binding has the ID that the source is renamed to; and what is spelled is what the
-- renaming puts for the source
pub record Stands (ρ : Renaming) (e : Entry) : Type 0 where
  pub same : rename_id ρ e.source ≡ id_of e.binding
  pub named : e.spelled ≡ true → ρ e.source ≡ some e.binding.var
  pub unnamed : e.spelled ≡ false → ρ e.source ≡ none

-- each entry does
abbrev pub AllStand : Renaming → Work → Type 0
AllStand ρ W = (e : Entry) → In e W → Stands ρ e

-- an entry stands for this variable of the source
abbrev pub HasEntry : Work → VarId → Type 0
HasEntry W x = (e : Entry) × In e W × (e.source ≡ x)

-- ── members ──

pub binding_in : (e : Entry) (W : Work) → In e W → id_of e.binding ∈ ids (bindings W)
binding_in e [] h = absurd (Memᴰ.not-nil h)
binding_in e (f ∷ W) h = go (λ k. binding_in e W k) (in_case h)
  where
    go : (In e W → id_of e.binding ∈ ids (bindings W)) → (e ≡ f) ⊎ In e W → id_of e.binding ∈ ids (bindings (f ∷ W))
    go ih (inl p) = inl (ap (λ (r : Entry). id_of r.binding) p)
    go ih (inr k) = inr (ih k)

-- where no ID is bound twice, a binding's ID is that of one entry alone
pub one_entry : (W : Work) (d e : Entry) → Distinct (ids (bindings W)) → In d W → In e W → id_of d.binding ≡ id_of e.binding → d ≡ e
one_entry [] d e u h k q = absurd (Memᴰ.not-nil h)
one_entry (f ∷ W) d e u h k q = go (λ i j. one_entry W d e u.1 i j q) (in_case h) (in_case k)
  where
    clash : (a b : Entry) → a ≡ f → In b W → id_of a.binding ≡ id_of b.binding → ⊥
    clash a b p i r = u.0 (subst (λ (x : VarId). x ∈ ids (bindings W)) (sym r ∙ ap (λ (c : Entry). id_of c.binding) p) (binding_in b W i))

    go : (In d W → In e W → d ≡ e) → (d ≡ f) ⊎ In d W → (e ≡ f) ⊎ In e W → d ≡ e
    go ih (inl p) (inl r) = p ∙ sym r
    go ih (inl p) (inr j) = absurd (clash d e p j q)
    go ih (inr i) (inl r) = absurd (clash e d r i (sym q))
    go ih (inr i) (inr j) = ih i j

renamed-from : (ρ : Renaming) (y : VarId) (s : List VarId) → y ∈ rename_ids ρ s → (x : VarId) × (x ∈ s) × (y ≡ rename_id ρ x)
renamed-from ρ y [] h = absurd h
renamed-from ρ y (x ∷ s) (inl e) = (x, inl refl, e)
renamed-from ρ y (x ∷ s) (inr h) = let r = renamed-from ρ y s h in (r.0, inr r.1, r.2)

-- ── uses ──

-- the entry that is found
entry_found : (x : VarId) (W : Work) → HasEntry W x → (e : Entry) × In e W × (e.source ≡ x) × (entry_of x W ≡ some e)
entry_found x [] h = absurd (Memᴰ.not-nil h.1)
entry_found x (f ∷ W) h = go (λ k. entry_found x W k) (same? x f.source) (in_case h.1)
  where
    Found : Work → Type 0
    Found U = (e : Entry) × In e U × (e.source ≡ x) × (entry_of x U ≡ some e)

    go : (HasEntry W x → Found W) → Answers (same_var_id x f.source) (x ≡ f.source) → (h.0 ≡ f) ⊎ In h.0 W → Found (f ∷ W)
    go ih (inl p) k = (f, Memᴰ.head refl, sym p.1, rw p.0)
    go ih (inr p) (inl q) = absurd (p.1 (sym h.2 ∙ ap (λ (r : Entry). r.source) q))
    go ih (inr p) (inr k) = let r = ih (h.0, k, h.2) in (r.0, Memᴰ.tail r.1, r.2, rw p.0 r.3)

module _ {ρ : Renaming} {W : Work} (stand : AllStand ρ W) where
  pub used-renamed : (x : Identifier) → HasEntry W x.id → used W x ≡ rename ρ x
  unfolding used
  used-renamed x h =
      let r = entry_found x.id W h in
      ap (λ (o : Option Entry). spelling o x) r.3 ∙ go r.0 r.0.spelled refl (stand r.0 r.1) r.2
    where
      go : (e : Entry) (t : Bool) → e.spelled ≡ t → Stands ρ e → e.source ≡ x.id → cond e.spelled e.binding.var x ≡ rename ρ x
      go e true q s p = rw q (ap (λ (o : Option Identifier). or_self o x) (sym (s.named q) ∙ ap ρ p))
      go e false q s p = rw q (ap (λ (o : Option Identifier). or_self o x) (sym (s.unnamed q) ∙ ap ρ p))

  pub used_option-renamed : (o : Option Identifier) → ((x : VarId) → x ∈ optional_id o → HasEntry W x) → used_option W o ≡ rename_option ρ o
  used_option-renamed none h = refl
  used_option-renamed (some x) h = ap some (used-renamed x (h x.id (inl refl)))

  pub used_all-renamed : (Γ : Context) → ((x : VarId) → x ∈ ids Γ → HasEntry W x) → used_all_lem W Γ ≡ rename_context ρ Γ
  used_all-renamed [] h = refl
  used_all-renamed (b ∷ Γ) h =
      ap₂ (λ (x : Identifier) (r : Context). record { var = x; chi = b.chi; ty = b.ty } ∷ r) (used-renamed b.var (h (id_of b) (inl refl))) (used_all-renamed Γ (λ x k. h x (inr k)))

-- ── what is kept ──

-- a set of the source's variables: what is in it has an entry, or no binding has the ID that it is renamed to (a binder below)
abbrev pub Reads : Renaming → Work → List VarId → Type 0
Reads ρ W s = (x : VarId) → x ∈ s → HasEntry W x ⊎ (¬ (rename_id ρ x ∈ ids (bindings W)))

module _ {ρ : Renaming} {W : Work} (once : Distinct (ids (bindings W))) (stand : AllStand ρ W) (s : List VarId) (reads : Reads ρ W s) where
  -- an entry's source is in the set exactly where its binding is in the renamed set
  same_test : (e : Entry) → In e W → elem e.source s ≡ elem (id_of e.binding) (rename_ids ρ s)
  same_test e h = go (elem? e.source s)
    where
      other : (x : VarId) → x ∈ s → id_of e.binding ≡ rename_id ρ x → HasEntry W x ⊎ (¬ (rename_id ρ x ∈ ids (bindings W))) → e.source ∈ s
      other x k q (inl d) =
          let same : d.0 ≡ e = one_entry W d.0 e once d.1 h (sym (stand d.0 d.1).same ∙ ap (rename_id ρ) d.2 ∙ sym q) in
          subst (λ (y : VarId). y ∈ s) (sym d.2 ∙ ap (λ (r : Entry). r.source) same) k
      other x k q (inr n) = absurd (n (subst (λ (y : VarId). y ∈ ids (bindings W)) q (binding_in e W h)))

      go : Answers (elem e.source s) (e.source ∈ s) → elem e.source s ≡ elem (id_of e.binding) (rename_ids ρ s)
      go (inl p) = p.0 ∙ sym (elem_true (id_of e.binding) (rename_ids ρ s) (subst (λ (y : VarId). y ∈ rename_ids ρ s) (stand e h).same (rename_ids_in ρ e.source s p.1)))
      go (inr p) = p.0 ∙ sym (elem_false (id_of e.binding) (rename_ids ρ s) (λ k. let r = renamed-from ρ (id_of e.binding) s k in p.1 (other r.0 r.1 r.2 (reads r.0 r.1))))

  pub kept_filters : bindings (kept s W) ≡ filter_by_set_lem (rename_ids ρ s) (bindings W)
  kept_filters = filtered-map (λ (e : Entry). e.binding) (λ (e : Entry). elem e.source s) (in_set (rename_ids ρ s)) W same_test

pub kept_of : (s : List VarId) (W : Work) (e : Entry) → In e (kept s W) → In e W
kept_of s W e h = filtered-of (λ (d : Entry). elem d.source s) W e h

pub kept-has : (s : List VarId) (W : Work) (x : VarId) → HasEntry W x → x ∈ s → HasEntry (kept s W) x
kept-has s W x h k = (h.0, of-filtered (λ (d : Entry). elem d.source s) W h.0 h.1 (rw h.2 (elem_true x s k)), h.2)

-- ── moved behind ──

pub moved_behind-bindings : (j : ℕ) (W : Work) → bindings (moved_behind j W) ≡ move_behind_lem j (bindings W)
unfolding moved_behind move_behind_lem
moved_behind-bindings j W =
    let f : Entry → ContextBinding = λ e. e.binding in
    map-append f (drop j W) (take j W) ∙ ap₂ (λ (r t : Context). r ++ t) (sym (drop-map f j W)) (sym (take-map f j W))

pub moved_behind_perm : (j : ℕ) (W : Work) → Perm W (moved_behind j W)
unfolding moved_behind
moved_behind_perm j W = subst (λ (r : Work). Perm r (moved_behind j W)) (take-append-drop j W) (perm_swap (take j W) (drop j W))

-- ── binders ──

pub bindings-++ : (U W : Work) → bindings (U ++ W) ≡ bindings U ++ bindings W
bindings-++ U W = map-append (λ (e : Entry). e.binding) U W

pub owns-bindings : (n : ℕ) (Γ : Context) → bindings (owns n Γ) ≡ Γ
owns-bindings n [] = refl
owns-bindings n (b ∷ Γ) = ap (λ (r : Context). b ∷ r) (owns-bindings (n + 1) Γ)

-- a renaming that leaves the binders alone has them stand for themselves
pub owns-stand : (ρ : Renaming) (n : ℕ) (Γ : Context) → ((x : VarId) → x ∈ ids Γ → ρ x ≡ none) → AllStand ρ (owns n Γ)
owns-stand ρ n [] h e k = absurd (Memᴰ.not-nil k)
owns-stand ρ n (b ∷ Γ) h e k = go (λ i. owns-stand ρ (n + 1) Γ (λ x j. h x (inr j)) e i) (in_case k)
  where
    itself : Stands ρ (own n b)
    itself =
        let q : ρ (id_of b) ≡ none = h (id_of b) (inl refl) in
        record { same = ap (λ (o : Option Identifier). or_self_id o (id_of b)) q; named = λ p. absurd (false≢true p); unnamed = λ p. q }

    go : (In e (owns (n + 1) Γ) → Stands ρ e) → (e ≡ own n b) ⊎ In e (owns (n + 1) Γ) → Stands ρ e
    go ih (inl p) = subst (Stands ρ) (sym p) itself
    go ih (inr i) = ih i

pub owns-has : (n : ℕ) (Γ : Context) (x : VarId) → x ∈ ids Γ → HasEntry (owns n Γ) x
owns-has n [] x h = absurd h
owns-has n (b ∷ Γ) x (inl e) = (own n b, Memᴰ.head refl, sym e)
owns-has n (b ∷ Γ) x (inr h) = let r = owns-has (n + 1) Γ x h in (r.0, Memᴰ.tail r.1, r.2)

-- ── under fresh names ──

pub respelled-bindings : (W : Work) (T : Context) → length W ≡ length T → bindings (respelled W T) ≡ T
respelled-bindings [] [] h = refl
respelled-bindings [] (b ∷ T) h = absurd (omega arith)
respelled-bindings (e ∷ W) [] h = absurd (omega arith)
respelled-bindings (e ∷ W) (b ∷ T) h = ap (λ (r : Context). b ∷ r) (respelled-bindings W T (omega arith))

-- an entry under a fresh name comes from one with the same source and place, whose binding is renamed to that name
pub record From (W : Work) (T : Context) (e : Entry) : Type 0 where
  pub old : Entry
  pub is_in : In old W
  pub source : e.source ≡ old.source
  pub place : e.place ≡ old.place
  pub spelled : e.spelled ≡ true
  pub name : Distinct (ids (bindings W)) → renaming (bindings W) T (id_of old.binding) ≡ some e.binding.var

pub respelled-from : (W : Work) (T : Context) (e : Entry) → In e (respelled W T) → From W T e
respelled-from [] T e h = absurd (Memᴰ.not-nil h)
respelled-from (d ∷ W) [] e h = absurd (Memᴰ.not-nil h)
respelled-from (d ∷ W) (b ∷ T) e h = go (λ k. respelled-from W T e k) (in_case h)
  where
    other : (f : From W T e) → Distinct (ids (bindings (d ∷ W))) → renaming (bindings (d ∷ W)) (b ∷ T) (id_of f.old.binding) ≡ some e.binding.var
    other f u =
        let away : ¬ (id_of f.old.binding ≡ id_of d.binding) = λ q. u.0 (subst (λ (x : VarId). x ∈ ids (bindings W)) q (binding_in f.old W f.is_in)) in
        rw (same_differ (id_of f.old.binding) (id_of d.binding) away) (f.name u.1)

    go : (In e (respelled W T) → From W T e) → (e ≡ respell d b) ⊎ In e (respelled W T) → From (d ∷ W) (b ∷ T) e
    go ih (inl p) = record {
      old = d;
      is_in = Memᴰ.head refl;
      source = ap (λ (r : Entry). r.source) p;
      place = ap (λ (r : Entry). r.place) p;
      spelled = ap (λ (r : Entry). r.spelled) p;
      name = λ u. rw (same_self (id_of d.binding)) (ap (λ (r : Entry). some r.binding.var) (sym p));
    }
    go ih (inr k) = let f = ih k in record { old = f.old; is_in = Memᴰ.tail f.is_in; source = f.source; place = f.place; spelled = f.spelled; name = other f }

pub respelled-stand : (ρ : Renaming) (W : Work) (T : Context) → Distinct (ids (bindings W)) → AllStand ρ W → AllStand (ρ ⨾ renaming (bindings W) T) (respelled W T)
respelled-stand ρ W T u stand e h =
    let f = respelled-from W T e h in
    let q : (ρ ⨾ renaming (bindings W) T) e.source ≡ some e.binding.var = ap (ρ ⨾ renaming (bindings W) T) f.source ∙ put f.old e.binding.var f.old.spelled refl (stand f.old f.is_in) (f.name u) in
    record { same = ap (λ (o : Option Identifier). or_self_id o e.source) q; named = λ p. q; unnamed = λ p. absurd (true≢false (sym f.spelled ∙ p)) }
  where
    σ : Renaming
    σ = renaming (bindings W) T

    put : (d : Entry) (y : Identifier) (t : Bool) → d.spelled ≡ t → Stands ρ d → σ (id_of d.binding) ≡ some y → (ρ ⨾ σ) d.source ≡ some y
    put d y true q s k = rw (s.named q, k)
    put d y false q s k =
        let none' = s.unnamed q in
        let i : d.source ≡ id_of d.binding = ap (λ (o : Option Identifier). or_self_id o d.source) (sym none') ∙ s.same in
        ap (λ (o : Option Identifier). then_rename o (σ d.source) σ) none' ∙ ap σ i ∙ k

pub respelled-has : (W : Work) (T : Context) (x : VarId) → length W ≡ length T → HasEntry W x → HasEntry (respelled W T) x
respelled-has [] T x h e = absurd (Memᴰ.not-nil e.1)
respelled-has (d ∷ W) [] x h e = absurd (omega arith)
respelled-has (d ∷ W) (b ∷ T) x h e = go (λ k. respelled-has W T x (omega arith) k) (in_case e.1)
  where
    go : (HasEntry W x → HasEntry (respelled W T) x) → (e.0 ≡ d) ⊎ In e.0 W → HasEntry (respelled (d ∷ W) (b ∷ T)) x
    go ih (inl p) = (respell d b, Memᴰ.head refl, ap (λ (r : Entry). r.source) (sym p) ∙ e.2)
    go ih (inr k) = let r = ih (e.0, k, e.2) in (r.0, Memᴰ.tail r.1, r.2)
