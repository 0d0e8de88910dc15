-- Under question 7 a context that a statement is linearized in is no longer than the scope there, so at most 64, and every count in the
-- output is at most 128: what passes 7 gives what passes 4. Assumes nothing.
use mathlib.Core.Path.{◌≡◌, refl, ap}
use mathlib.Core.Bool.{Bool, true, false, cond, false≢true}
use mathlib.Core.List.{List, [], ◌∷◌, ◌++◌}
use Prim.Native.Nat.{ℕ, suc, ◌+◌, ◌≤◌}
use native.Mathlib.Nat.{le_trans}
use native.Mathlib.Omega.{arith}
use borrow.Author.Tests.{leb-true}
use lib.Dec.{leb}
use lib.ListN.{length, length-append, length-map}
use Rattle.syntax.specs.Context.{Context, ids, vars, id_of, same_context}
use Rattle.syntax.specs.Filter.{filter_by_set_lem}
use Rattle.syntax.specs.declared.names.VarId.{VarId}
use Rattle.syntax.specs.declared.names.Identifier.{Identifier}
use Rattle.syntax.specs.declared.context.Chirality.TheVariants.{Prd, Cns, Ext}
use Rattle.syntax.specs.declared.types.Ty.TheVariants.{I64}
use Rattle.syntax.specs.declared.context.ContextBinding.{ContextBinding}
use Rattle.syntax.proofs.Bools.{both_true}
use Rattle.syntax.proofs.Permutations.{perm_length}
use Rattle.syntax.proofs.Filters.{filter-fewer}
use Rattle.syntax.proofs.Drawing.{freshen-length}
use Rattle.model.specs.Syntax.{Stmt, Clauses, Substitute, Call, Let, Switch, Create, Invoke, Literal, Op, IfC, PrintI64, Exit, end, clause, Def, Prog}
use Rattle.model.specs.Lists.{zip}
use Rattle.model.specs.FreeVars.{free_vars, free_vars_clauses}
use Rattle.model.specs.Renaming.{Renaming, no_renaming, rename, rename_ids, rename_binding, rename_context, renaming, rename_unless}
use Rattle.model.specs.Rules.{arrange, bind, freshen_unless_lem, move_behind_lem}
use Rattle.model.specs.Pass.{linearize_stmt, linearize_clauses, linearize_defs, linearize}
use Rattle.model.specs.Questions.{asked, asked_defs, plain, any_binders, small, small_binders, Accepted}
use Rattle.model.specs.Sizes.{widest, widest_clauses, widest_defs, count, count_clauses, records_defs, depth_defs}
use Rattle.model.proofs.Good.{move_perm}
use Rattle.model.proofs.Sizes.{linearize-records, linearize-depth}
use Rattle.model.proofs.Questions.{Asked, AskedClauses, answered, three}

-- ── lengths ──

pub unless-length : (right : Bool) (Γ : Context) (C : List VarId) (m : ℕ) → length (freshen_unless_lem right Γ C m).0 ≡ length Γ
unfolding freshen_unless_lem
unless-length true Γ C m = refl
unless-length false Γ C m = freshen-length Γ C m

zip-fewer : (T : Context) (xs : List Identifier) → length (zip T xs) ≤ length xs
zip-fewer [] xs = omega arith
zip-fewer (b ∷ T) [] = omega arith
zip-fewer (b ∷ T) (x ∷ xs) = omega (arith, zip-fewer T xs)

pub env_fewer : (s : List VarId) (j : ℕ) (Γ : Context) → length (filter_by_set_lem s (move_behind_lem j Γ)) ≤ length Γ
env_fewer s j Γ = omega (arith, filter-fewer s (move_behind_lem j Γ), perm_length (move_perm j Γ))

-- a rearrangement has as many pairs as are wanted
arrange-widest : (right : Bool) (T W : Context) (s : Stmt) → length W ≤ 128 → widest s ≤ 128 → widest (arrange right T W s) ≤ 128
unfolding arrange widest
arrange-widest true T W s h k = k
arrange-widest false T W s h k = omega (arith, zip-fewer T (vars W), length-map W (λ (b : ContextBinding). b.var))

-- what 7 says at a statement, and of binders
pub small-says : (Δ : List VarId) (s : Stmt) → small Δ s ≡ true → (count s ≤ 32) × (length Δ ≤ 64)
small-says Δ s e = let p = both_true (leb (count s) 32) (leb (length Δ) 64) e in (leb-true (count s) 32 p.0, leb-true (length Δ) 64 p.1)

sized-clauses : (cs : Clauses) (before : Bool) (ρ : Renaming) (Γ : Context) (m : ℕ) → count_clauses (linearize_clauses cs before ρ Γ m).0 ≡ count_clauses cs
unfolding linearize_stmt
sized-clauses end before ρ Γ m = refl
sized-clauses (clause xtor context body rest) before ρ Γ m = ap suc (sized-clauses rest before ρ Γ _)

pub joined_length : (before : Bool) (ps Γ : Context) → length (cond before (ps ++ Γ) (Γ ++ ps)) ≡ length ps + length Γ
joined_length true ps Γ = length-append ps Γ
joined_length false ps Γ = omega (arith, length-append Γ ps)

-- one variable more on both sides
pub longer : (N : Context) (b : ContextBinding) (Δ : List VarId) (x : VarId) → length N ≤ length Δ → length (N ++ (b ∷ [])) ≤ length (x ∷ Δ)
longer N b Δ x h = omega (arith, length-append N (b ∷ []))

mutual
  unfolding linearize_stmt widest Asked

  pub linearize_stmt-widest : (s : Stmt) (Δ : List VarId) → Asked s plain any_binders Δ → Asked s small small_binders Δ → (ρ : Renaming) (Γ : Context) (m : ℕ)
      → length Γ ≤ length Δ → widest (linearize_stmt s ρ Γ m).0 ≤ 128
  linearize_stmt-widest (Substitute ps next) Δ p a ρ Γ m h = absurd (false≢true p.0)
  linearize_stmt-widest (Call label args) Δ p a ρ Γ m h =
      let q = small-says Δ (Call label args) a in
      arrange-widest _ _ (rename_context ρ args) (Call label []) (omega (arith, length-map args (rename_binding ρ))) (omega arith)
  linearize_stmt-widest (Let var ty tag args₀ next) Δ p a ρ Γ m h =
      let q = small-says Δ (Let var ty tag args₀ next) a.0 in
      let args = rename_context ρ args₀ in
      let new = filter_by_set_lem (rename_ids ρ (free_vars next)) Γ in
      let right = same_context Γ (new ++ args) in
      let k : length new ≤ length Δ = le_trans (filter-fewer (rename_ids ρ (free_vars next)) Γ) h in
      let ih = linearize_stmt-widest next (var.id ∷ Δ) p.2 a.2 ρ (new ++ (bind var Prd ty ∷ [])) (freshen_unless_lem right args (ids new) m).1 (longer new (bind var Prd ty) Δ var.id k) in
      arrange-widest right _ (new ++ args) _ (omega (arith, length-append new args, length-map args₀ (rename_binding ρ)))
      (omega (arith, unless-length right args (ids new) m, length-map args₀ (rename_binding ρ)))
  linearize_stmt-widest (Switch var ty cs) Δ p a ρ Γ m h =
      let q = small-says Δ (Switch var ty cs) a.0 in
      let new = filter_by_set_lem (rename_ids ρ (free_vars_clauses cs)) Γ in
      let b = bind (rename ρ var) Prd ty in
      let k : length new ≤ length Δ = le_trans (filter-fewer (rename_ids ρ (free_vars_clauses cs)) Γ) h in
      let ih = linearize_clauses-widest cs Δ p.1 a.1 false ρ new m k in
      arrange-widest (same_context Γ (new ++ (b ∷ []))) _ (new ++ (b ∷ [])) _ (omega (arith, length-append new (b ∷ []))) (omega (arith, sized-clauses cs false ρ new m))
  linearize_stmt-widest (Create var ty env₀ cs next) Δ p a ρ Γ m h =
      let q = small-says Δ (Create var ty env₀ cs next) a.0 in
      let N = filter_by_set_lem (rename_ids ρ (free_vars next)) Γ in
      let env = filter_by_set_lem (rename_ids ρ (free_vars_clauses cs)) (move_behind_lem (length N) Γ) in
      let right = same_context Γ (N ++ env) in
      let m₁ = (linearize_clauses cs true ρ env m).1 in
      let T = (freshen_unless_lem right N (ids env) m₁).0 in
      let kN : length N ≤ length Δ = le_trans (filter-fewer (rename_ids ρ (free_vars next)) Γ) h in
      let kE : length env ≤ length Δ = le_trans (env_fewer (rename_ids ρ (free_vars_clauses cs)) (length N) Γ) h in
      let kT : length T ≤ length Δ = omega (arith, unless-length right N (ids env) m₁) in
      let ihC = linearize_clauses-widest cs Δ p.1 a.1 true ρ env m kE in
      let ihN = linearize_stmt-widest next (var.id ∷ Δ) p.3 a.3 (rename_unless right ρ (renaming N T)) (T ++ (bind var Cns ty ∷ []))
      (freshen_unless_lem right N (ids env) m₁).1 (longer T (bind var Cns ty) Δ var.id kT) in
      arrange-widest right _ (N ++ env) _ (omega (arith, length-append N env)) (omega (arith, sized-clauses cs true ρ env m))
  linearize_stmt-widest (Invoke var tag ty args₀) Δ p a ρ Γ m h =
      let q = small-says Δ (Invoke var tag ty args₀) a in
      let args = rename_context ρ args₀ in
      let b = bind (rename ρ var) Cns ty in
      arrange-widest _ _ (args ++ (b ∷ [])) (Invoke (rename ρ var) tag ty []) (omega (arith, length-append args (b ∷ []), length-map args₀ (rename_binding ρ))) (omega arith)
  linearize_stmt-widest (Literal lit var next) Δ p a ρ Γ m h =
      let q = small-says Δ (Literal lit var next) a.0 in
      let new = filter_by_set_lem (rename_ids ρ (free_vars next)) Γ in
      let k : length new ≤ length Δ = le_trans (filter-fewer (rename_ids ρ (free_vars next)) Γ) h in
      arrange-widest (same_context Γ new) new new _ (omega arith) (linearize_stmt-widest next (var.id ∷ Δ) p.2 a.2 ρ (new ++ (bind var Ext I64 ∷ [])) m (longer new (bind var Ext I64) Δ var.id k))
  linearize_stmt-widest (Op fst op snd var next) Δ p a ρ Γ m h =
      let q = small-says Δ (Op fst op snd var next) a.0 in
      let Z = (rename ρ fst).id ∷ (rename ρ snd).id ∷ rename_ids ρ (free_vars next) in
      let new = filter_by_set_lem Z Γ in
      let k : length new ≤ length Δ = le_trans (filter-fewer Z Γ) h in
      arrange-widest (same_context Γ new) new new _ (omega arith) (linearize_stmt-widest next (var.id ∷ Δ) p.2 a.2 ρ (new ++ (bind var Ext I64 ∷ [])) m (longer new (bind var Ext I64) Δ var.id k))
  linearize_stmt-widest (IfC sort fst snd thenc elsec) Δ p a ρ Γ m h =
      omega (arith, linearize_stmt-widest thenc Δ p.1 a.1 ρ Γ m h, linearize_stmt-widest elsec Δ p.2 a.2 ρ Γ (linearize_stmt thenc ρ Γ m).1 h)
  linearize_stmt-widest (PrintI64 newline var next) Δ p a ρ Γ m h =
      let q = small-says Δ (PrintI64 newline var next) a.0 in
      let Z = (rename ρ var).id ∷ rename_ids ρ (free_vars next) in
      let new = filter_by_set_lem Z Γ in
      let k : length new ≤ length Δ = le_trans (filter-fewer Z Γ) h in
      arrange-widest (same_context Γ new) new new _ (omega arith) (linearize_stmt-widest next Δ p.1 a.1 ρ new m k)
  linearize_stmt-widest (Exit var) Δ p a ρ Γ m h = omega arith

  pub linearize_clauses-widest : (cs : Clauses) (Δ : List VarId) → AskedClauses cs plain any_binders Δ → AskedClauses cs small small_binders Δ
      → (before : Bool) (ρ : Renaming) (Γ : Context) (m : ℕ) → length Γ ≤ length Δ → widest_clauses (linearize_clauses cs before ρ Γ m).0 ≤ 128
  linearize_clauses-widest end Δ p a before ρ Γ m h = omega arith
  linearize_clauses-widest (clause xtor context body rest) Δ p a before ρ Γ m h =
      let Γ' = cond before (context ++ Γ) (Γ ++ context) in
      let c : length context ≤ 32 = omega (arith, leb-true (length (ids context)) 32 a.0, length-map context id_of) in
      let k : length Γ' ≤ length (ids context ++ Δ) = omega (arith, joined_length before context Γ, length-append (ids context) Δ, length-map context id_of) in
      omega (arith, linearize_stmt-widest body (ids context ++ Δ) p.1 a.1 ρ Γ' m k, linearize_clauses-widest rest Δ p.2 a.2 before ρ Γ (linearize_stmt body ρ Γ' m).1 h)

linearize_defs-widest : (ds : List Def) (m : ℕ) → asked_defs ds plain any_binders ≡ true → asked_defs ds small small_binders ≡ true → widest_defs (linearize_defs ds m).0 ≤ 128
unfolding linearize_defs
linearize_defs-widest [] m p a = omega arith
linearize_defs-widest (d ∷ ds) m p a =
    let Δ = ids d.context in
    let pp = both_true (asked d.body plain any_binders Δ) (asked_defs ds plain any_binders) p in
    let pa = three (small_binders [] Δ) (asked d.body small small_binders Δ) (asked_defs ds small small_binders) a in
    let c : length d.context ≤ 32 = omega (arith, leb-true (length Δ) 32 pa.0, length-map d.context id_of) in
    let k : length d.context ≤ length Δ = omega (arith, length-map d.context id_of) in
    omega (
      arith,
      linearize_stmt-widest d.body Δ (answered d.body plain any_binders Δ pp.0) (answered d.body small small_binders Δ pa.1) no_renaming d.context m k,
      linearize_defs-widest ds (linearize_stmt d.body no_renaming d.context m).1 pp.1 pa.2,
    )

-- of an accepted program: at most 4,000 records, 128 statements deep, counts 128
pub linearized-readable : (P : Prog) → Accepted P → (records_defs (linearize P).defs ≤ 4000) × (depth_defs (linearize P).defs ≤ 128) × (widest_defs (linearize P).defs ≤ 128)
unfolding linearize
linearized-readable P a =
    let q = three (leb (records_defs P.defs) 2000) (leb (depth_defs P.defs) 64) (asked_defs P.defs small small_binders) a.seven in (
      omega (arith, linearize-records P, leb-true (records_defs P.defs) 2000 q.0),
      omega (arith, linearize-depth P, leb-true (depth_defs P.defs) 64 q.1),
      linearize_defs-widest P.defs P.max_id a.six q.2,
    )
