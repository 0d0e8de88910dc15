-- Laws of association lists: `lookup`, `lookups`, `zip`, `pair_up`. Assumes nothing.
use mathlib.Core.Path.{◌≡◌, refl, sym, ◌∙◌, ap}
use mathlib.Core.Logic.{◌⊎◌, inl, inr}
use mathlib.Core.List.{List, [], ◌∷◌, ◌++◌, map}
use mathlib.Core.Option.{none, some, none-ne-some}
use Prim.Native.Nat.{suc}
use native.Mathlib.Omega.{arith}
use lib.ListN.{length}
use Rattle.syntax.specs.Names.{same_var_id}
use Rattle.syntax.specs.Sets.{◌∈◌, Distinct}
use Rattle.syntax.specs.declared.names.VarId.{VarId}
use Rattle.syntax.proofs.Bools.{Answers}
use Rattle.syntax.proofs.Members.{same?, same_self, same_differ}
use Rattle.model.specs.Lists.{lookup, lookups, zip}
use Rattle.model.specs.Machine.{Value, values, pair_up}

module _ {A : Type 0} where
  -- the IDs of an association list
  abbrev pub firsts : List (VarId × A) → List VarId
  firsts l = map (λ (e : VarId × A). e.0) l

  pub lookup-same : (x : VarId) (v : A) (l : List (VarId × A)) → lookup x ((x, v) ∷ l) ≡ some v
  lookup-same x v l = rw (same_self x)

  pub lookup-other : (x y : VarId) (v : A) (l : List (VarId × A)) → ¬ (x ≡ y) → lookup x ((y, v) ∷ l) ≡ lookup x l
  lookup-other x y v l n = rw (same_differ x y n)

  pub lookup-left : (x : VarId) (v : A) (l k : List (VarId × A)) → lookup x l ≡ some v → lookup x (l ++ k) ≡ some v
  lookup-left x v [] k h = absurd (none-ne-some _ h)
  lookup-left x v (e ∷ l) k h = go (λ q. lookup-left x v l k q) (same? x e.0)
    where
      go : (lookup x l ≡ some v → lookup x (l ++ k) ≡ some v) → Answers (same_var_id x e.0) (x ≡ e.0) → lookup x (e ∷ l ++ k) ≡ some v
      go ih (inl p) = rw p.0 (rw p.0 at h)
      go ih (inr p) = rw p.0 (ih (rw p.0 at h))

  pub lookup-right : (x : VarId) (l k : List (VarId × A)) → ¬ (x ∈ firsts l) → lookup x (l ++ k) ≡ lookup x k
  lookup-right x [] k n = refl
  lookup-right x (e ∷ l) k n = rw (same_differ x e.0 (λ p. n (inl p))) (lookup-right x l k (λ m. n (inr m)))

  -- an ID of the list has a value in it
  pub lookup_in : (x : VarId) (l : List (VarId × A)) → x ∈ firsts l → (v : A) × (lookup x l ≡ some v)
  lookup_in x [] h = absurd h
  lookup_in x (e ∷ l) h = go (λ m. lookup_in x l m) (same? x e.0) h
    where
      go : (x ∈ firsts l → (v : A) × (lookup x l ≡ some v)) → Answers (same_var_id x e.0) (x ≡ e.0) → x ∈ firsts (e ∷ l) → (v : A) × (lookup x (e ∷ l) ≡ some v)
      go ih (inl p) h' = (e.1, rw p.0)
      go ih (inr p) (inl q) = absurd (p.1 q)
      go ih (inr p) (inr m) = ((ih m).0, rw p.0 (ih m).1)

  -- and only those have
  pub in_lookup : (x : VarId) (v : A) (l : List (VarId × A)) → lookup x l ≡ some v → x ∈ firsts l
  in_lookup x v [] h = absurd (none-ne-some _ h)
  in_lookup x v (e ∷ l) h = go (λ q. in_lookup x v l q) (same? x e.0)
    where
      go : (lookup x l ≡ some v → x ∈ firsts l) → Answers (same_var_id x e.0) (x ≡ e.0) → x ∈ firsts (e ∷ l)
      go ih (inl p) = inl p.1
      go ih (inr p) = inr (ih (rw p.0 at h))

  -- each of some IDs has its value
  abbrev pub Got : List VarId → List (VarId × A) → List A → Type 0
  Got [] l [] = Unit {0}
  Got [] l (v ∷ vs) = ⊥
  Got (x ∷ xs) l [] = ⊥
  Got (x ∷ xs) l (v ∷ vs) = (lookup x l ≡ some v) × Got xs l vs

  pub got-lookups : (xs : List VarId) (l : List (VarId × A)) (vs : List A) → Got xs l vs → lookups xs l ≡ some vs
  got-lookups [] l [] g = refl
  got-lookups [] l (v ∷ vs) g = absurd g
  got-lookups (x ∷ xs) l [] g = absurd g
  got-lookups (x ∷ xs) l (v ∷ vs) g = rw (g.0, got-lookups xs l vs g.1)

  pub got_in : (xs : List VarId) (l : List (VarId × A)) → ((x : VarId) → x ∈ xs → (v : A) × (lookup x l ≡ some v)) → (vs : List A) × Got xs l vs
  got_in [] l h = ([], tt)
  got_in (x ∷ xs) l h = go (h x (inl refl)) (got_in xs l (λ y m. h y (inr m)))
    where
      go : (v : A) × (lookup x l ≡ some v) → (vs : List A) × Got xs l vs → (vs : List A) × Got (x ∷ xs) l vs
      go a b = (a.0 ∷ b.0, (a.1, b.1))

  pub got-length : (xs : List VarId) (l : List (VarId × A)) (vs : List A) → Got xs l vs → length xs ≡ length vs
  got-length [] l [] g = refl
  got-length [] l (v ∷ vs) g = absurd g
  got-length (x ∷ xs) l [] g = absurd g
  got-length (x ∷ xs) l (v ∷ vs) g = ap suc (got-length xs l vs g.1)

  pub got-++ : (xs ys : List VarId) (l : List (VarId × A)) (vs ws : List A) → Got xs l vs → Got ys l ws → Got (xs ++ ys) l (vs ++ ws)
  got-++ [] ys l [] ws g h = h
  got-++ [] ys l (v ∷ vs) ws g h = absurd g
  got-++ (x ∷ xs) ys l [] ws g h = absurd g
  got-++ (x ∷ xs) ys l (v ∷ vs) ws g h = (g.0, got-++ xs ys l vs ws g.1 h)

  pub got_unique : (xs : List VarId) (l : List (VarId × A)) (vs ws : List A) → Got xs l vs → Got xs l ws → vs ≡ ws
  got_unique [] l [] [] g h = refl
  got_unique [] l [] (w ∷ ws) g h = absurd h
  got_unique [] l (v ∷ vs) ws g h = absurd g
  got_unique (x ∷ xs) l [] ws g h = absurd g
  got_unique (x ∷ xs) l (v ∷ vs) [] g h = absurd h
  got_unique (x ∷ xs) l (v ∷ vs) (w ∷ ws) g h = cc (g.0, h.0, got_unique xs l vs ws g.1 h.1)

  got_weaken : (xs : List VarId) (l : List (VarId × A)) (vs : List A) (y : VarId) (w : A) → ¬ (y ∈ xs) → Got xs l vs → Got xs ((y, w) ∷ l) vs
  got_weaken [] l [] y w n g = tt
  got_weaken [] l (v ∷ vs) y w n g = absurd g
  got_weaken (x ∷ xs) l [] y w n g = absurd g
  got_weaken (x ∷ xs) l (v ∷ vs) y w n g = (lookup-other x y w l (λ e. n (inl (sym e))) ∙ g.0, got_weaken xs l vs y w (λ m. n (inr m)) g.1)

  -- a list rebuilt from distinct IDs and as many values has those values
  pub got_self : (xs : List VarId) (vs : List A) → Distinct xs → length xs ≡ length vs → Got xs (zip xs vs) vs
  got_self [] [] d e = tt
  got_self [] (v ∷ vs) d e = absurd (omega arith)
  got_self (x ∷ xs) [] d e = absurd (omega arith)
  got_self (x ∷ xs) (v ∷ vs) d e = (lookup-same x v (zip xs vs), got_weaken xs (zip xs vs) vs x v d.0 (got_self xs vs d.1 (omega arith)))

  -- a list rebuilt from IDs and the values that they have has the same values
  pub got-zip : (xs : List VarId) (l : List (VarId × A)) (vs : List A) (x : VarId) → Got xs l vs → x ∈ xs → lookup x (zip xs vs) ≡ lookup x l
  got-zip [] l vs x g h = absurd h
  got-zip (y ∷ xs) l [] x g h = absurd g
  got-zip (y ∷ xs) l (v ∷ vs) x g h = go (λ m. got-zip xs l vs x g.1 m) (same? x y) h
    where
      go : (x ∈ xs → lookup x (zip xs vs) ≡ lookup x l) → Answers (same_var_id x y) (x ≡ y) → x ∈ (y ∷ xs) → lookup x ((y, v) ∷ zip xs vs) ≡ lookup x l
      go ih (inl p) m = rw (p.0, p.1) (sym g.0)
      go ih (inr p) (inl e) = absurd (p.1 e)
      go ih (inr p) (inr m) = rw p.0 (ih m)

  pub firsts-zip : (xs : List VarId) (vs : List A) → length xs ≡ length vs → firsts (zip xs vs) ≡ xs
  firsts-zip [] vs e = refl
  firsts-zip (x ∷ xs) [] e = absurd (omega arith)
  firsts-zip (x ∷ xs) (v ∷ vs) e = ap (λ (r : List VarId). x ∷ r) (firsts-zip xs vs (omega arith))

  pub zip-++ : (xs ys : List VarId) (vs ws : List A) → length xs ≡ length vs → zip (xs ++ ys) (vs ++ ws) ≡ zip xs vs ++ zip ys ws
  zip-++ [] ys [] ws e = refl
  zip-++ [] ys (v ∷ vs) ws e = absurd (omega arith)
  zip-++ (x ∷ xs) ys [] ws e = absurd (omega arith)
  zip-++ (x ∷ xs) ys (v ∷ vs) ws e = ap (λ (r : List (VarId × A)). (x, v) ∷ r) (zip-++ xs ys vs ws (omega arith))

  pub length-zip : (xs : List VarId) (vs : List A) → length xs ≡ length vs → length (zip xs vs) ≡ length xs
  length-zip [] vs e = refl
  length-zip (x ∷ xs) [] e = absurd (omega arith)
  length-zip (x ∷ xs) (v ∷ vs) e = ap suc (length-zip xs vs (omega arith))

pub values-zip : (xs : List VarId) (vs : List Value) → length xs ≡ length vs → values (zip xs vs) ≡ vs
values-zip [] [] e = refl
values-zip [] (v ∷ vs) e = absurd (omega arith)
values-zip (x ∷ xs) [] e = absurd (omega arith)
values-zip (x ∷ xs) (v ∷ vs) e = ap (λ (r : List Value). v ∷ r) (values-zip xs vs (omega arith))

-- IDs and values are paired up where the counts agree
abbrev pub Pairs : List VarId → List Value → Type 0
Pairs xs vs = (pair_up xs vs ≡ none) ⊎ ((pair_up xs vs ≡ some (zip xs vs)) × (length xs ≡ length vs))

pub pair? : (xs : List VarId) (vs : List Value) → Pairs xs vs
pair? [] [] = inr (refl, refl)
pair? [] (v ∷ vs) = inl refl
pair? (x ∷ xs) [] = inl refl
pair? (x ∷ xs) (v ∷ vs) = go (pair? xs vs)
  where
    go : Pairs xs vs → Pairs (x ∷ xs) (v ∷ vs)
    go (inl e) = inl (rw e)
    go (inr e) = inr (rw e.0, ap suc e.1)
