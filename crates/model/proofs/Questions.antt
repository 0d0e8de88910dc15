-- The tests of the questions 6, 8, 9 and 10 say what the invariant uses. Assumes nothing.
use mathlib.Core.Path.{◌≡◌, refl, sym, ◌∙◌, ap, subst}
use mathlib.Core.Logic.{inl, inr}
use mathlib.Core.Bool.{Bool, true, not, ◌&&◌, true≢false, false≢true}
use mathlib.Core.List.{List, [], ◌∷◌, ◌++◌}
use mathlib.Core.Option.{Option, none, some}
use Prim.Native.Nat.{ℕ}
use lib.Dec.{T, leb, leb→le}
use Rattle.syntax.specs.Context.{Context, ids}
use Rattle.syntax.specs.Sets.{elem, ◌∈◌, distinct, Distinct}
use Rattle.syntax.specs.declared.names.VarId.{VarId}
use Rattle.syntax.proofs.Bools.{Answers, both_true}
use Rattle.syntax.proofs.Members.{elem?, elem_true}
use Rattle.model.specs.Syntax.{Stmt, Clauses, Substitute, Call, Let, Switch, Create, Invoke, Literal, Op, IfC, PrintI64, Exit, end, clause, Def, Prog}
use Rattle.model.specs.FreeVars.{optional_id}
use Rattle.model.specs.Lists.{every}
use Rattle.model.specs.Questions.{OfStmt, OfBinders, asked, asked_clauses, asked_defs, is_none, plain, new, in_scope_lem, up_to, any_stmt, any_binders, Accepted}
use Rattle.model.proofs.Scoping.{Binds, ◌⊆◌, Scoped, ScopedClauses, ScopedDefs, ScopedProg}

-- ── the walk, as a type ──

unfoldable mutual
  pub Asked : Stmt → OfStmt → OfBinders → List VarId → Type 0
  Asked (Substitute ps next) q b Δ = (q Δ (Substitute ps next) ≡ true) × Asked next q b Δ
  Asked (Call label args) q b Δ = q Δ (Call label args) ≡ true
  Asked (Let var ty tag args next) q b Δ = (q Δ (Let var ty tag args next) ≡ true) × (b Δ (var.id ∷ []) ≡ true) × Asked next q b (var.id ∷ Δ)
  Asked (Switch var ty cs) q b Δ = (q Δ (Switch var ty cs) ≡ true) × AskedClauses cs q b Δ
  Asked (Create var ty env cs next) q b Δ = (q Δ (Create var ty env cs next) ≡ true) × AskedClauses cs q b Δ × (b Δ (var.id ∷ []) ≡ true) × Asked next q b (var.id ∷ Δ)
  Asked (Invoke var tag ty args) q b Δ = q Δ (Invoke var tag ty args) ≡ true
  Asked (Literal lit var next) q b Δ = (q Δ (Literal lit var next) ≡ true) × (b Δ (var.id ∷ []) ≡ true) × Asked next q b (var.id ∷ Δ)
  Asked (Op fst op snd var next) q b Δ = (q Δ (Op fst op snd var next) ≡ true) × (b Δ (var.id ∷ []) ≡ true) × Asked next q b (var.id ∷ Δ)
  Asked (IfC sort fst snd thenc elsec) q b Δ = (q Δ (IfC sort fst snd thenc elsec) ≡ true) × Asked thenc q b Δ × Asked elsec q b Δ
  Asked (PrintI64 newline var next) q b Δ = (q Δ (PrintI64 newline var next) ≡ true) × Asked next q b Δ
  Asked (Exit var) q b Δ = q Δ (Exit var) ≡ true

  pub AskedClauses : Clauses → OfStmt → OfBinders → List VarId → Type 0
  AskedClauses end q b Δ = Unit {0}
  AskedClauses (clause xtor context body rest) q b Δ = (b Δ (ids context) ≡ true) × Asked body q b (ids context ++ Δ) × AskedClauses rest q b Δ

-- a conjunction of three
pub three : (a b c : Bool) → a && (b && c) ≡ true → (a ≡ true) × (b ≡ true) × (c ≡ true)
three a b c e = let p = both_true a (b && c) e in let r = both_true b c p.1 in (p.0, r.0, r.1)

mutual
  unfolding Asked asked

  pub answered : (s : Stmt) (q : OfStmt) (b : OfBinders) (Δ : List VarId) → asked s q b Δ ≡ true → Asked s q b Δ
  answered (Substitute ps next) q b Δ e = let p = both_true (q Δ (Substitute ps next)) (asked next q b Δ) e in (p.0, answered next q b Δ p.1)
  answered (Call label args) q b Δ e = e
  answered (Let var ty tag args next) q b Δ e = let p = three (q Δ (Let var ty tag args next)) (b Δ (var.id ∷ [])) (asked next q b (var.id ∷ Δ)) e in (p.0, p.1, answered next q b (var.id ∷ Δ) p.2)
  answered (Switch var ty cs) q b Δ e = let p = both_true (q Δ (Switch var ty cs)) (asked_clauses cs q b Δ) e in (p.0, answered_clauses cs q b Δ p.1)
  answered (Create var ty env cs next) q b Δ e =
      let p = three (q Δ (Create var ty env cs next)) (asked_clauses cs q b Δ) (b Δ (var.id ∷ []) && asked next q b (var.id ∷ Δ)) e in
      let r = both_true (b Δ (var.id ∷ [])) (asked next q b (var.id ∷ Δ)) p.2 in
      (p.0, answered_clauses cs q b Δ p.1, r.0, answered next q b (var.id ∷ Δ) r.1)
  answered (Invoke var tag ty args) q b Δ e = e
  answered (Literal lit var next) q b Δ e = let p = three (q Δ (Literal lit var next)) (b Δ (var.id ∷ [])) (asked next q b (var.id ∷ Δ)) e in (p.0, p.1, answered next q b (var.id ∷ Δ) p.2)
  answered (Op fst op snd var next) q b Δ e = let p = three (q Δ (Op fst op snd var next)) (b Δ (var.id ∷ [])) (asked next q b (var.id ∷ Δ)) e in (p.0, p.1, answered next q b (var.id ∷ Δ) p.2)
  answered (IfC sort fst snd thenc elsec) q b Δ e =
      let p = three (q Δ (IfC sort fst snd thenc elsec)) (asked thenc q b Δ) (asked elsec q b Δ) e in
      (p.0, answered thenc q b Δ p.1, answered elsec q b Δ p.2)
  answered (PrintI64 newline var next) q b Δ e = let p = both_true (q Δ (PrintI64 newline var next)) (asked next q b Δ) e in (p.0, answered next q b Δ p.1)
  answered (Exit var) q b Δ e = e

  pub answered_clauses : (cs : Clauses) (q : OfStmt) (b : OfBinders) (Δ : List VarId) → asked_clauses cs q b Δ ≡ true → AskedClauses cs q b Δ
  answered_clauses end q b Δ e = tt
  answered_clauses (clause xtor context body rest) q b Δ e =
      let p = three (b Δ (ids context)) (asked body q b (ids context ++ Δ)) (asked_clauses rest q b Δ) e in
      (p.0, answered body q b (ids context ++ Δ) p.1, answered_clauses rest q b Δ p.2)

-- ── what the tests say ──

every_true : (p : VarId → Bool) (s : List VarId) → every p s ≡ true → (x : VarId) → x ∈ s → p x ≡ true
every_true p [] e x h = absurd h
every_true p (y ∷ s) e x (inl q) = rw q (both_true (p y) (every p s) e).0
every_true p (y ∷ s) e x (inr h) = every_true p s (both_true (p y) (every p s) e).1 x h

elem-says : (x : VarId) (s : List VarId) → elem x s ≡ true → x ∈ s
elem-says x s e = go (elem? x s)
  where
    go : Answers (elem x s) (x ∈ s) → x ∈ s
    go (inl p) = p.1
    go (inr p) = absurd (true≢false (sym e ∙ p.0))

not_elem_says : (x : VarId) (s : List VarId) → not (elem x s) ≡ true → ¬ (x ∈ s)
not_elem_says x s e h = false≢true (ap not (sym (elem_true x s h)) ∙ e)

distinct-says : (s : List VarId) → distinct s ≡ true → Distinct s
distinct-says [] e = tt
distinct-says (x ∷ s) e = let p = both_true (not (elem x s)) (distinct s) e in (not_elem_says x s p.0, distinct-says s p.1)

binds-says : (M : ℕ) (Δ xs : List VarId) → new Δ xs ≡ true → up_to M Δ xs ≡ true → Binds M Δ xs
binds-says M Δ xs e u =
    let p = both_true (every (λ (x : VarId). not (elem x Δ)) xs) (distinct xs) e in
    record {
      new = λ x h. not_elem_says x Δ (every_true (λ (y : VarId). not (elem y Δ)) xs p.0 x h);
      once = distinct-says xs p.1;
      small = λ x h. leb→le x.0 M (subst T (sym (every_true (λ (y : VarId). leb y.0 M) xs u x h)) tt);
    }

uses-says : (Δ s : List VarId) → every (λ (x : VarId). elem x Δ) s ≡ true → s ⊆ Δ
uses-says Δ s e x h = elem-says x Δ (every_true (λ (y : VarId). elem y Δ) s e x h)

pub none_says : (o : Option Context) → is_none o ≡ true → o ≡ none
none_says none e = refl
none_says (some Γ) e = absurd (false≢true e)

mutual
  unfolding Asked Scoped

  pub scoped-says : (s : Stmt) (M : ℕ) (Δ : List VarId) → Asked s plain any_binders Δ → Asked s any_stmt new Δ → Asked s in_scope_lem any_binders Δ → Asked s any_stmt (up_to M) Δ → Scoped s M Δ
  scoped-says (Substitute ps next) M Δ a b c d = false≢true a.0
  scoped-says (Call label args) M Δ a b c d = uses-says Δ (ids args) c
  scoped-says (Let var ty tag args next) M Δ a b c d = (uses-says Δ (ids args) c.0, binds-says M Δ (var.id ∷ []) b.1 d.1, scoped-says next M (var.id ∷ Δ) a.2 b.2 c.2 d.2)
  scoped-says (Switch var ty cs) M Δ a b c d = (uses-says Δ (var.id ∷ []) c.0 var.id (inl refl), scoped_clauses_says cs M Δ a.1 b.1 c.1 d.1)
  scoped-says (Create var ty env cs next) M Δ a b c d =
      (none_says env a.0, scoped_clauses_says cs M Δ a.1 b.1 c.1 d.1, binds-says M Δ (var.id ∷ []) b.2 d.2, scoped-says next M (var.id ∷ Δ) a.3 b.3 c.3 d.3)
  scoped-says (Invoke var tag ty args) M Δ a b c d = let u = uses-says Δ (var.id ∷ ids args) c in (u var.id (inl refl), λ x h. u x (inr h))
  scoped-says (Literal lit var next) M Δ a b c d = (binds-says M Δ (var.id ∷ []) b.1 d.1, scoped-says next M (var.id ∷ Δ) a.2 b.2 c.2 d.2)
  scoped-says (Op fst op snd var next) M Δ a b c d =
      let u = uses-says Δ (fst.id ∷ snd.id ∷ []) c.0 in
      (u fst.id (inl refl), u snd.id (inr (inl refl)), binds-says M Δ (var.id ∷ []) b.1 d.1, scoped-says next M (var.id ∷ Δ) a.2 b.2 c.2 d.2)
  scoped-says (IfC sort fst snd thenc elsec) M Δ a b c d =
      let u = uses-says Δ (fst.id ∷ optional_id snd) c.0 in
      (u fst.id (inl refl), λ x h. u x (inr h), scoped-says thenc M Δ a.1 b.1 c.1 d.1, scoped-says elsec M Δ a.2 b.2 c.2 d.2)
  scoped-says (PrintI64 newline var next) M Δ a b c d = (uses-says Δ (var.id ∷ []) c.0 var.id (inl refl), scoped-says next M Δ a.1 b.1 c.1 d.1)
  scoped-says (Exit var) M Δ a b c d = uses-says Δ (var.id ∷ []) c var.id (inl refl)

  pub scoped_clauses_says : (cs : Clauses) (M : ℕ) (Δ : List VarId) → AskedClauses cs plain any_binders Δ → AskedClauses cs any_stmt new Δ
      → AskedClauses cs in_scope_lem any_binders Δ → AskedClauses cs any_stmt (up_to M) Δ → ScopedClauses cs M Δ
  scoped_clauses_says end M Δ a b c d = tt
  scoped_clauses_says (clause xtor context body rest) M Δ a b c d =
      (binds-says M Δ (ids context) b.0 d.0, scoped-says body M (ids context ++ Δ) a.1 b.1 c.1 d.1, scoped_clauses_says rest M Δ a.2 b.2 c.2 d.2)

pub scoped_defs_says : (ds : List Def) (M : ℕ) → asked_defs ds plain any_binders ≡ true → asked_defs ds any_stmt new ≡ true
    → asked_defs ds in_scope_lem any_binders ≡ true → asked_defs ds any_stmt (up_to M) ≡ true → ScopedDefs ds M
scoped_defs_says [] M a b c d = tt
scoped_defs_says (f ∷ ds) M a b c d =
    let Δ = ids f.context in
    let pa = both_true (asked f.body plain any_binders Δ) (asked_defs ds plain any_binders) a in
    let pb = three (new [] Δ) (asked f.body any_stmt new Δ) (asked_defs ds any_stmt new) b in
    let pc = both_true (asked f.body in_scope_lem any_binders Δ) (asked_defs ds in_scope_lem any_binders) c in
    let pd = three (up_to M [] Δ) (asked f.body any_stmt (up_to M) Δ) (asked_defs ds any_stmt (up_to M)) d in (
      binds-says M [] Δ pb.0 pd.0,
      scoped-says f.body M Δ (answered f.body plain any_binders Δ pa.0) (answered f.body any_stmt new Δ pb.1)
          (answered f.body in_scope_lem any_binders Δ pc.0) (answered f.body any_stmt (up_to M) Δ pd.1),
      scoped_defs_says ds M pa.1 pb.2 pc.1 pd.2,
    )

pub accepted-scoped : (P : Prog) → Accepted P → ScopedProg P
accepted-scoped P a = scoped_defs_says P.defs P.max_id a.six a.eight a.nine a.ten
