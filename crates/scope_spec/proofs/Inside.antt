-- The statement whose record is at a place: what was asked of the program was asked of it, with some scope. Assumes nothing.
use Prim.Native.Nat.{ℕ, zero, suc, ◌+◌, ◌-◌, ◌≤◌, ◌<◌}
use mathlib.Core.Path.{◌≡◌, refl, sym, ap, ◌∙◌, subst}
use mathlib.Core.Bool.{Bool, true, false, false≢true}
use mathlib.Core.List.{List, [], ◌∷◌, ◌++◌, append-nil}
use native.Mathlib.Omega.{arith}
use borrow.Author.Tests.{ltb-true, ltb-false, leb-true}
use lib.Dec.{ltb, leb}
use lib.ListN.{length, drop, length-append, drop_of_length-le}
use Rattle.syntax.specs.Context.{Context, ids}
use Rattle.syntax.specs.declared.names.VarId.{VarId}
use Rattle.syntax.specs.declared.names.Identifier.{Identifier}
use Rattle.syntax.proofs.Bools.{both_true}
use Rattle.model.specs.Syntax.{Stmt, Substitute, Call, Let, Switch, Create, Invoke, Literal, Op, IfC, PrintI64, Exit, Clauses, end, clause, Def, Prog}
use Rattle.model.specs.Sizes.{records_defs, depth_defs}
use Rattle.model.specs.Questions.{OfStmt, OfBinders, asked, asked_clauses, asked_defs, question7}
use Rattle.image_spec.specs.Parse.{each, All}
use Rattle.image_spec.specs.Records.{Record, definition, clause'}
use Rattle.image_spec.specs.Kinds.{kind_of, clauses_of, bodies}
use Rattle.image_spec.specs.Shape.{flatten, flatten_clauses, flatten_def, flatten_defs, max_depth}
use Rattle.image_places_spec.specs.Views.{record_of, clauses_in, bodies_of, binders}
use Rattle.image_places_spec.specs.Places.{Begins, StmtStands, ClausesStand, BodiesStand}
use Rattle.image_places_spec.proofs.Runs.{at_place, in_two, no_place}
use Rattle.image_places_spec.proofs.PlaceLaws.{stmt-parts, clause-parts, body-parts, begins-left, begins-right, begins-head}
use Rattle.scope_spec.specs.Calls.{has_annotation_lem, first_has, question13}

-- what is asked of a statement is asked of its clauses and of its bodies
pub asked-parts : (t : Stmt) (q : OfStmt) (b : OfBinders) (Δ : List VarId) → asked t q b Δ ≡ true
    → (asked_clauses (clauses_in t) q b Δ ≡ true) × All (λ (s : Stmt). asked s q b (binders (record_of t) ++ Δ) ≡ true) (bodies_of t)
unfolding asked
asked-parts (Substitute ps next) q b Δ h = (refl, ((both_true (q Δ (Substitute ps next)) _ h).1, tt))
asked-parts (Call label args) q b Δ h = (refl, tt)
asked-parts (Let var ty tag args next) q b Δ h = (refl, ((both_true (b Δ (var.id ∷ [])) _ (both_true (q Δ (Let var ty tag args next)) _ h).1).1, tt))
asked-parts (Switch var ty cs) q b Δ h = ((both_true (q Δ (Switch var ty cs)) _ h).1, tt)
asked-parts (Create var ty env cs next) q b Δ h =
    let r = both_true (asked_clauses cs q b Δ) _ (both_true (q Δ (Create var ty env cs next)) _ h).1 in
    (r.0, ((both_true (b Δ (var.id ∷ [])) _ r.1).1, tt))
asked-parts (Invoke var tag ty args) q b Δ h = (refl, tt)
asked-parts (Literal lit var next) q b Δ h = (refl, ((both_true (b Δ (var.id ∷ [])) _ (both_true (q Δ (Literal lit var next)) _ h).1).1, tt))
asked-parts (Op fst o snd var next) q b Δ h = (refl, ((both_true (b Δ (var.id ∷ [])) _ (both_true (q Δ (Op fst o snd var next)) _ h).1).1, tt))
asked-parts (IfC sort fst snd thenc elsec) q b Δ h =
    let r = both_true (asked thenc q b Δ) _ (both_true (q Δ (IfC sort fst snd thenc elsec)) _ h).1 in
    (refl, (r.0, (r.1, tt)))
asked-parts (PrintI64 newline var next) q b Δ h = (refl, ((both_true (q Δ (PrintI64 newline var next)) _ h).1, tt))
asked-parts (Exit var) q b Δ h = (refl, tt)

-- the statement at place j: whatever A gives of the questions q and b, they were asked of it
pub record Inside (d : ℕ) (rs : List Record) (j : ℕ) (A : OfStmt → OfBinders → Type 0) : Type 0 where
  pub stmt : Stmt
  pub scope : List VarId
  pub stands : StmtStands d rs j stmt
  pub keeps : (q : OfStmt) (b : OfBinders) → A q b → asked stmt q b scope ≡ true

weaker : {d : ℕ} {rs : List Record} {j : ℕ} {A B : OfStmt → OfBinders → Type 0} (e : ℕ) → d ≤ e → ((q : OfStmt) (b : OfBinders) → B q b → A q b) → Inside d rs j A → Inside e rs j B
weaker e h f i = record {
  stmt = i.stmt;
  scope = i.scope;
  stands = record { begins = i.stands.begins; shallow = omega (arith, i.stands.shallow) };
  keeps = λ q b x. i.keeps q b (f q b x);
}

abbrev Of : Stmt → List VarId → OfStmt → OfBinders → Type 0
Of t Δ q b = asked t q b Δ ≡ true

abbrev OfClauses : Clauses → List VarId → OfStmt → OfBinders → Type 0
OfClauses cs Δ q b = asked_clauses cs q b Δ ≡ true

abbrev OfBodies : List Stmt → List VarId → OfStmt → OfBinders → Type 0
OfBodies ts Δ q b = All (λ (t : Stmt). asked t q b Δ ≡ true) ts

-- what is asked of a clause is asked of its body, and of the clauses after it
pub asked-clause : (x : Identifier) (Γ : Context) (body : Stmt) (rest : Clauses) (q : OfStmt) (b : OfBinders) (Δ : List VarId) → asked_clauses (clause x Γ body rest) q b Δ ≡ true
    → (asked body q b (ids Γ ++ Δ) ≡ true) × (asked_clauses rest q b Δ ≡ true)
unfolding asked
asked-clause x Γ body rest q b Δ h = both_true (asked body q b (ids Γ ++ Δ)) _ (both_true (b Δ (ids Γ)) _ h).1

-- a record that has no annotation is not at the place
not_here : (rs : List Record) (i j : ℕ) (r : Record) → drop i rs ≡ r ∷ drop (i + 1) rs → has_annotation_lem r ≡ false → i ≡ j → first_has (drop j rs) ≡ true → ⊥
not_here rs i j r e n s f = false≢true (sym n ∙ ap first_has (sym e) ∙ ap (λ (z : ℕ). first_has (drop z rs)) s ∙ f)

abbrev InStmt : ℕ → Type 0
InStmt d = (t : Stmt) (Δ : List VarId) (rs : List Record) (i j : ℕ) → StmtStands d rs i t → i ≤ j → j < i + length (flatten t) → first_has (drop j rs) ≡ true → Inside d rs j (Of t Δ)

inside-clauses : (d : ℕ) → InStmt d → (cs : Clauses) (Δ : List VarId) (n : ℕ) (rs : List Record) (i j : ℕ) → ClausesStand d n rs i cs → i ≤ j → j < i + length (flatten_clauses cs)
    → first_has (drop j rs) ≡ true → Inside d rs j (OfClauses cs Δ)
inside-clauses d k end Δ n rs i j s l h f = absurd (no_place l h)
inside-clauses d k (clause x Γ body rest) Δ n rs i j s l h f =
    let p = clause-parts x Γ body rest s in
    at_place i (length (flatten body)) (length (flatten_clauses rest)) j l (omega (arith, p.size, h))
    (λ e. absurd (not_here rs i j (clause' x Γ) p.head refl e f))
    (λ a b. weaker d (omega arith) (λ q c z. (asked-clause x Γ body rest q c Δ z).0) (k body (ids Γ ++ Δ) rs _ j p.body a b f))
    (λ a b. weaker d (omega arith) (λ q c z. (asked-clause x Γ body rest q c Δ z).1) (inside-clauses d k rest Δ _ rs _ j p.rest a b f))

inside-bodies : (d : ℕ) → InStmt d → (ts : List Stmt) (Δ : List VarId) (n : ℕ) (rs : List Record) (i j : ℕ) → BodiesStand d n rs i ts → i ≤ j → j < i + length (each flatten ts)
    → first_has (drop j rs) ≡ true → Inside d rs j (OfBodies ts Δ)
inside-bodies d k [] Δ n rs i j s l h f = absurd (omega arith)
inside-bodies d k (t ∷ ts) Δ n rs i j s l h f =
    let p = body-parts t ts s in
    in_two i (length (flatten t)) (length (each flatten ts)) j l (omega (arith, p.size, h))
    (λ b. weaker d (omega arith) (λ q c z. z.0) (k t Δ rs i j p.first l b f))
    (λ a b. weaker d (omega arith) (λ q c z. z.1) (inside-bodies d k ts Δ _ rs _ j p.rest a b f))

inside-stmt : (d : ℕ) → InStmt d
inside-stmt zero t Δ rs i j s l h f = absurd (omega (arith, (stmt-parts s).positive))
inside-stmt (suc d) t Δ rs i j s l h f =
    let p = stmt-parts s in
    let less : suc d - 1 ≡ d = omega arith in
    at_place i (length (flatten_clauses (clauses_in t))) (length (each flatten (bodies_of t))) j l (omega (arith, p.size, h))
    (λ e. record { stmt = t; scope = Δ; stands = subst (λ (z : ℕ). StmtStands (suc d) rs z t) e s; keeps = λ q b x. x })
    (λ a b. weaker (suc d) (omega arith) (λ q c z. (asked-parts t q c Δ z).0)
    (inside-clauses d (inside-stmt d) (clauses_in t) Δ _ rs _ j (subst (λ (e : ℕ). ClausesStand e (clauses_of (record_of t)) rs (i + 1) (clauses_in t)) less p.clauses) a b f))
    (λ a b. weaker (suc d) (omega arith) (λ q c z. (asked-parts t q c Δ z).1)
    (inside-bodies d (inside-stmt d) (bodies_of t) (binders (record_of t) ++ Δ) _ rs _ j
    (subst (λ (e : ℕ). BodiesStand e (bodies (kind_of (record_of t))) rs (i + 1 + length (flatten_clauses (clauses_in t))) (bodies_of t)) less p.bodies) a b f))

-- .. and of definitions
inside-defs : (d : ℕ) (ds : List Def) (rs : List Record) (i j : ℕ) → depth_defs ds ≤ d → Begins rs i (each flatten_def ds) → i ≤ j → j < i + length (each flatten_def ds)
    → first_has (drop j rs) ≡ true → Inside d rs j (λ q b. asked_defs ds q b ≡ true)
inside-defs d [] rs i j w s l h f = absurd (omega arith)
inside-defs d (x ∷ ds) rs i j w s l h f =
    let b = begins-left (flatten_def x) (each flatten_def ds) s in
    at_place i (length (flatten x.body)) (length (each flatten_def ds)) j l (omega (arith, length-append (flatten_def x) (each flatten_def ds), h))
    (λ e. absurd (not_here rs i j (definition x.name x.context) (begins-head (definition x.name x.context) _ b) refl e f))
    (λ m k. weaker d (omega arith) (λ q c z. (both_true (asked x.body q c (ids x.context)) _ (both_true (c [] (ids x.context)) _ z).1).0)
    (inside-stmt d x.body (ids x.context) rs (i + 1) j (record { begins = begins-right (definition x.name x.context ∷ []) (flatten x.body) b; shallow = omega (arith, w) }) m k f))
    (λ m k. weaker d (omega arith) (λ q c z. (both_true (asked x.body q c (ids x.context)) _ (both_true (c [] (ids x.context)) _ z).1).1)
    (inside-defs d ds rs (i + 1 + length (flatten x.body)) j (omega (arith, w)) (subst (λ (z : ℕ). Begins rs z (each flatten_def ds)) (omega arith) (begins-right (flatten_def x) (each flatten_def ds) s)) m k f))

there : (rs : List Record) (j : ℕ) → first_has (drop j rs) ≡ true → j < length rs
there rs j f = go (ltb j (length rs)) refl
  where
    go : (t : Bool) → ltb j (length rs) ≡ t → j < length rs
    go true e = ltb-true j (length rs) e
    go false e = absurd (false≢true (ap first_has (sym (drop_of_length-le rs {i = j} (ltb-false j (length rs) e))) ∙ f))

-- question 13's yes: the statement, and all that was asked of the program
pub inside : (P : Prog) (j : ℕ) → question7 P ≡ true → question13 P j ≡ true → Inside max_depth (flatten_defs P.defs) j (λ q b. asked_defs P.defs q b ≡ true)
unfolding flatten_defs
inside P j w f =
    let d = leb-true (depth_defs P.defs) 64 (both_true (leb (depth_defs P.defs) 64) _ (both_true (leb (records_defs P.defs) 2000) _ w).1).0 in
    inside-defs max_depth P.defs (flatten_defs P.defs) 0 j (omega (arith, d)) (record { rest = []; split = sym (append-nil _) }) (omega arith)
    (omega (arith, there (flatten_defs P.defs) j f)) f
