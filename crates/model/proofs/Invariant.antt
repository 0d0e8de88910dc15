-- The invariant between a state of the source machine and one of the linear machine, and how it is kept:
-- when the context is narrowed, when variables are added, when max_id grows. Assumes nothing.
use mathlib.Core.Path.{◌≡◌, refl, sym, ◌∙◌, ap, ap₂}
use mathlib.Core.Logic.{inl, inr}
use mathlib.Core.Bool.{Bool, true, false, cond}
use mathlib.Core.List.{List, [], ◌∷◌, ◌++◌, map-append}
use mathlib.Core.Option.{Option, none, some}
use Prim.Native.Nat.{ℕ, ◌≤◌}
use lib.ListN.{length}
use Rattle.syntax.specs.Context.{Context, id_of, ids}
use Rattle.syntax.specs.Sets.{elem, ◌∈◌, distinct, without}
use Rattle.syntax.specs.declared.names.VarId.{VarId}
use Rattle.syntax.specs.declared.names.Identifier.{Identifier}
use Rattle.syntax.proofs.Bools.{Answers}
use Rattle.syntax.proofs.Members.{elem?, distinct_true, ∈_without}
use Rattle.syntax.proofs.Filters.{ids-++}
use Rattle.model.specs.Syntax.{Stmt, Clauses}
use Rattle.model.specs.Lists.{lookup, zip}
use Rattle.model.specs.FreeVars.{free_vars, free_vars_clauses}
use Rattle.model.specs.Renaming.{Renaming, rename, rename_id, rename_ids, rename_context, or_self, or_self_id}
use Rattle.model.specs.Pass.{linearize_stmt, linearize_clauses}
use Rattle.model.specs.Machine.{Value, Entries, keys, Cell, xtor, closure, Cells, State, at, ended}
use Rattle.model.proofs.Good.{Good, good-later, Selects, good-part, new-unmoved, new-clash, good-behind, good-before}
use Rattle.model.proofs.Scoping.{Binds, ◌⊆◌, Scoped, ScopedClauses}
use Rattle.model.proofs.Alist.{firsts, lookup-left, lookup-right, lookup_in, in_lookup, Got, got_in, got-length, got-zip, firsts-zip}

-- a free variable has one value in the environment and, under what it is renamed to, in the list
abbrev pub Agrees : List VarId → Renaming → Entries → Entries → Type 0
Agrees fv ρ ε l = (x : VarId) → x ∈ fv → (v : Value) × (lookup x ε ≡ some v) × (lookup (rename_id ρ x) l ≡ some v)

-- the list is in the context's order, and the free variables agree
pub record Fits (M : ℕ) (fv : List VarId) (Δ : List VarId) (ρ : Renaming) (Γ : Context) (m : ℕ) (ε l : Entries) : Type 0 where
  pub good : Good M Δ ρ Γ m
  pub ordered : firsts l ≡ ids Γ
  pub agrees : Agrees fv ρ ε l

-- the linear statement t is a linearization of s, and fits
pub record AtStmt (M : ℕ) (s : Stmt) (ε : Entries) (t : Stmt) (l : Entries) : Type 0 where
  pub Δ : List VarId
  pub ρ : Renaming
  pub Γ : Context
  pub m : ℕ
  pub fits : Fits M (free_vars s) Δ ρ Γ m ε l
  pub scoped : Scoped s M Δ
  pub is : (linearize_stmt s ρ Γ m).0 ≡ t

-- the same of a closure's clauses
pub record AtClauses (M : ℕ) (cs : Clauses) (ε : Entries) (cs' : Clauses) (l : Entries) : Type 0 where
  pub Δ : List VarId
  pub ρ : Renaming
  pub Γ : Context
  pub m : ℕ
  pub fits : Fits M (free_vars_clauses cs) Δ ρ Γ m ε l
  pub scoped : ScopedClauses cs M Δ
  pub is : (linearize_clauses cs true ρ Γ m).0 ≡ cs'

-- the cells agree one by one
abbrev pub SameCell : ℕ → Cell → Cell → Type 0
SameCell M (xtor t vs) (xtor t' vs') = (t ≡ t') × (vs ≡ vs')
SameCell M (xtor t vs) (closure l cs) = ⊥
SameCell M (closure ε cs) (xtor t' vs') = ⊥
SameCell M (closure ε cs) (closure l cs') = AtClauses M cs ε cs' l

abbrev pub SameCells : ℕ → Cells → Cells → Type 0
SameCells M [] [] = Unit {0}
SameCells M [] (c ∷ K) = ⊥
SameCells M (c ∷ K) [] = ⊥
SameCells M (c ∷ K) (c' ∷ K') = SameCell M c c' × SameCells M K K'

abbrev pub Same : ℕ → State → State → Type 0
Same M (at s ε K) (at t l K') = AtStmt M s ε t l × SameCells M K K'
Same M (at s ε K) (ended t l K') = ⊥
Same M (ended s ε K) (at t l K') = ⊥
Same M (ended s ε K) (ended t l K') = Unit {0}

-- ── renaming ──

pub rename-id : (ρ : Renaming) (x : Identifier) → (rename ρ x).id ≡ rename_id ρ x.id
rename-id ρ x = go (ρ x.id)
  where
    go : (o : Option Identifier) → (or_self o x).id ≡ or_self_id o x.id
    go none = refl
    go (some y) = refl

pub rename_ids_in : (ρ : Renaming) (x : VarId) (s : List VarId) → x ∈ s → rename_id ρ x ∈ rename_ids ρ s
rename_ids_in ρ x [] h = h
rename_ids_in ρ x (y ∷ s) (inl e) = inl (ap (rename_id ρ) e)
rename_ids_in ρ x (y ∷ s) (inr h) = inr (rename_ids_in ρ x s h)

pub ids-rename_context : (ρ : Renaming) (Γ : Context) → ids (rename_context ρ Γ) ≡ rename_ids ρ (ids Γ)
ids-rename_context ρ [] = refl
ids-rename_context ρ (b ∷ Γ) = ap₂ (λ (x : VarId) (r : List VarId). x ∷ r) (rename-id ρ b.var) (ids-rename_context ρ Γ)

-- ── what the invariant says ──

module _ {M : ℕ} {fv Δ : List VarId} {ρ : Renaming} {Γ : Context} {m : ℕ} {ε l : Entries} (f : Fits M fv Δ ρ Γ m ε l) where
  -- a free variable stands, renamed, in the context
  pub free_in : (x : VarId) → x ∈ fv → rename_id ρ x ∈ ids Γ
  free_in x h = let a = f.agrees x h in rw (← f.ordered) (in_lookup (rename_id ρ x) a.0 l a.2)

  -- what stands in the context has a value in the list
  pub has_value : (x : VarId) → x ∈ ids Γ → (v : Value) × (lookup x l ≡ some v)
  has_value x h = lookup_in x l (rw (← f.ordered) at h)

  pub fits-distinct : distinct (keys l) ≡ true
  fits-distinct = rw f.ordered (distinct_true (ids Γ) f.good.once)

  pub later : {m' : ℕ} → m ≤ m' → Fits M fv Δ ρ Γ m' ε l
  later {m'} h = record { good = good-later h f.good; ordered = f.ordered; agrees = f.agrees }

  pub fewer : {fv' : List VarId} → fv' ⊆ fv → Fits M fv' Δ ρ Γ m ε l
  fewer {fv'} h = record { good = f.good; ordered = f.ordered; agrees = λ x k. f.agrees x (h x k) }

  -- the arguments have one value each, in the environment and, renamed, in the list
  pub args-got : (args : Context) → ids args ⊆ fv → (vs : List Value) × Got (ids args) ε vs × Got (ids (rename_context ρ args)) l vs
  args-got [] sub = ([], tt, tt)
  args-got (b ∷ args) sub = go (f.agrees (id_of b) (sub (id_of b) (inl refl))) (args-got args (λ x h. sub x (inr h)))
    where
      go : (v : Value) × (lookup (id_of b) ε ≡ some v) × (lookup (rename_id ρ (id_of b)) l ≡ some v) → (vs : List Value) × Got (ids args) ε vs × Got (ids (rename_context ρ args)) l vs
          → (vs : List Value) × Got (ids (b ∷ args)) ε vs × Got (ids (rename_context ρ (b ∷ args))) l vs
      go a r = (a.0 ∷ r.0, (a.1, r.1), (ap (λ (y : VarId). lookup y l) (rename-id ρ b.var) ∙ a.2, r.2))

  pub args_in : (args : Context) → ids args ⊆ fv → ids (rename_context ρ args) ⊆ ids Γ
  args_in [] sub x h = absurd h
  args_in (b ∷ args) sub x (inl e) = rw (e, rename-id ρ b.var) (free_in (id_of b) (sub (id_of b) (inl refl)))
  args_in (b ∷ args) sub x (inr h) = args_in args (λ y k. sub y (inr k)) x h

  pub args-up_to : (args : Context) → ids args ⊆ fv → (x : VarId) → x ∈ ids (rename_context ρ args) → x.0 ≤ m
  args-up_to args sub x h = f.good.up_to x (args_in args sub x h)

-- ── a part of the context ──

module _ {M : ℕ} {fv Δ : List VarId} {ρ : Renaming} {Γ : Context} {m : ℕ} {ε l : Entries} (f : Fits M fv Δ ρ Γ m ε l) {Z : List VarId} {N : Context} (s : Selects Z Γ N) where
  -- its values
  pub part-values : (vs : List Value) × Got (ids N) l vs
  part-values = got_in (ids N) l (λ x h. has_value f x (s.only x h))

  pub part-good : Good M Δ ρ N m
  part-good = good-part f.good s

  -- the list rebuilt for it fits, for free variables that are in the set
  pub narrow : {fv' : List VarId} → fv' ⊆ fv → ((x : VarId) → x ∈ fv' → rename_id ρ x ∈ Z) → (vs : List Value) → Got (ids N) l vs → Fits M fv' Δ ρ N m ε (zip (ids N) vs)
  narrow {fv'} sub in_z vs g = record { good = part-good; ordered = firsts-zip (ids N) vs (got-length (ids N) l vs g); agrees = agrees }
    where
      agrees : Agrees fv' ρ ε (zip (ids N) vs)
      agrees x h =
          let a = f.agrees x (sub x h) in
          (a.0, a.1, got-zip (ids N) l vs (rename_id ρ x) g (s.all (rename_id ρ x) (free_in f x (sub x h)) (in_z x h)) ∙ a.2)

-- ── variables added ──

module _ {M : ℕ} (fv : List VarId) {Δ : List VarId} {ρ : Renaming} {Γ : Context} {m : ℕ} {ε l : Entries} (ps : Context)
    (f : Fits M (without fv (ids ps)) Δ ρ Γ m ε l) (b : Binds M Δ (ids ps)) (vs : List Value) (count : length (ids ps) ≡ length vs) where
  unmoved : (x : VarId) → x ∈ ids ps → rename_id ρ x ≡ x
  unmoved x h = rw (new-unmoved ps f.good b x h)

  pair-keys : firsts (zip (ids ps) vs) ≡ ids ps
  pair-keys = firsts-zip (ids ps) vs count

  clash : (x : VarId) → x ∈ ids Γ → x ∈ ids ps → ⊥
  clash x h k = new-clash ps f.good b x h k

  -- the values of a free variable: a new one, or one from before
  new-value : (x : VarId) → x ∈ ids ps → (v : Value) × (lookup x (zip (ids ps) vs) ≡ some v)
  new-value x h = lookup_in x (zip (ids ps) vs) (rw pair-keys h)

  old-source : (x : VarId) → ¬ (x ∈ ids ps) → lookup x (zip (ids ps) vs ++ ε) ≡ lookup x ε
  old-source x n = lookup-right x (zip (ids ps) vs) ε (λ h. n (rw pair-keys at h))

  -- behind the context
  pub behind : Fits M fv (ids ps ++ Δ) ρ (Γ ++ ps) m (zip (ids ps) vs ++ ε) (l ++ zip (ids ps) vs)
  behind = record {
    good = good-behind ps f.good b;
    ordered = map-append _ l (zip (ids ps) vs) ∙ ap₂ (λ (r q : List VarId). r ++ q) f.ordered pair-keys ∙ sym (ids-++ Γ ps);
    agrees = λ x h. agrees x (elem? x (ids ps)) h;
  }
    where
      agrees : (x : VarId) → Answers (elem x (ids ps)) (x ∈ ids ps) → x ∈ fv → (v : Value) × (lookup x (zip (ids ps) vs ++ ε) ≡ some v) × (lookup (rename_id ρ x) (l ++ zip (ids ps) vs) ≡ some v)
      agrees x (inl p) h =
          let a = new-value x p.1 in
          (a.0, lookup-left x a.0 (zip (ids ps) vs) ε a.1, rw (unmoved x p.1) (lookup-right x l (zip (ids ps) vs) (λ k. clash x (rw f.ordered at k) p.1) ∙ a.1))
      agrees x (inr p) h =
          let a = f.agrees x (∈_without x fv (ids ps) h p.1) in
          (a.0, old-source x p.1 ∙ a.1, lookup-left (rename_id ρ x) a.0 l (zip (ids ps) vs) a.2)

  -- before the context
  pub before : Fits M fv (ids ps ++ Δ) ρ (ps ++ Γ) m (zip (ids ps) vs ++ ε) (zip (ids ps) vs ++ l)
  before = record {
    good = good-before ps f.good b;
    ordered = map-append _ (zip (ids ps) vs) l ∙ ap₂ (λ (r q : List VarId). r ++ q) pair-keys f.ordered ∙ sym (ids-++ ps Γ);
    agrees = λ x h. agrees x (elem? x (ids ps)) h;
  }
    where
      agrees : (x : VarId) → Answers (elem x (ids ps)) (x ∈ ids ps) → x ∈ fv → (v : Value) × (lookup x (zip (ids ps) vs ++ ε) ≡ some v) × (lookup (rename_id ρ x) (zip (ids ps) vs ++ l) ≡ some v)
      agrees x (inl p) h =
          let a = new-value x p.1 in
          (a.0, lookup-left x a.0 (zip (ids ps) vs) ε a.1, rw (unmoved x p.1) (lookup-left x a.0 (zip (ids ps) vs) l a.1))
      agrees x (inr p) h =
          let k = ∈_without x fv (ids ps) h p.1 in
          let a = f.agrees x k in
          (a.0, old-source x p.1 ∙ a.1, lookup-right (rename_id ρ x) (zip (ids ps) vs) l (λ q. clash (rename_id ρ x) (free_in f x k) (rw pair-keys at q)) ∙ a.2)

  -- before or behind it
  pub joined : (first : Bool) → Fits M fv (ids ps ++ Δ) ρ (cond first (ps ++ Γ) (Γ ++ ps)) m (zip (ids ps) vs ++ ε) (cond first (zip (ids ps) vs ++ l) (l ++ zip (ids ps) vs))
  joined true = before
  joined false = behind
