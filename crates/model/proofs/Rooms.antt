-- Under question 7 every context that a statement is linearized in is no longer than the scope there, so it has at most 64 bindings.
-- Assumes nothing.
use mathlib.Core.Path.{◌≡◌}
use mathlib.Core.Bool.{Bool, true, false, cond}
use mathlib.Core.List.{List, [], ◌∷◌, ◌++◌}
use Prim.Native.Nat.{ℕ, ◌≤◌}
use native.Mathlib.Nat.{le_trans}
use native.Mathlib.Omega.{arith}
use lib.ListN.{length, length-append, length-map}
use lib.Dec.{leb}
use Rattle.syntax.specs.Context.{Context, id_of, ids, same_context}
use Rattle.syntax.specs.Filter.{filter_by_set_lem}
use Rattle.syntax.specs.declared.names.VarId.{VarId}
use Rattle.syntax.specs.declared.types.Ty.TheVariants.{I64}
use Rattle.syntax.specs.declared.context.Chirality.TheVariants.{Prd, Cns, Ext}
use Rattle.syntax.proofs.Filters.{filter-fewer}
use Rattle.model.specs.Syntax.{Stmt, Clauses, Substitute, Call, Let, Switch, Create, Invoke, Literal, Op, IfC, PrintI64, Exit, end, clause, Def, Prog}
use Rattle.model.specs.Sizes.{records_defs, depth_defs}
use Rattle.model.specs.FreeVars.{free_vars, free_vars_clauses}
use Rattle.model.specs.Renaming.{Renaming, no_renaming, rename, rename_ids, rename_context, renaming, rename_unless}
use Rattle.model.specs.Rules.{bind, freshen_unless_lem, move_behind_lem}
use Rattle.model.specs.Pass.{linearize_stmt, linearize_clauses}
use Rattle.model.specs.Questions.{asked, asked_defs, small, small_binders, Accepted}
use Rattle.model.proofs.Questions.{Asked, AskedClauses, answered, three}
use Rattle.model.proofs.Widths.{small-says, unless-length, env_fewer, joined_length, longer}

-- every context that the statement, or one below it, is linearized in has at most 64 bindings: each part with the context and the
-- max_id that its rule gives it
unfoldable mutual
  pub Fits64 : Stmt → Renaming → Context → ℕ → Type 0
  Fits64 (Substitute ps next) ρ Γ m = length Γ ≤ 64
  Fits64 (Call label args) ρ Γ m = length Γ ≤ 64
  Fits64 (Let var ty tag args next) ρ Γ m =
      let new = filter_by_set_lem (rename_ids ρ (free_vars next)) Γ in
      let right = same_context Γ (new ++ rename_context ρ args) in
      (length Γ ≤ 64) × Fits64 next ρ (new ++ (bind var Prd ty ∷ [])) (freshen_unless_lem right (rename_context ρ args) (ids new) m).1
  Fits64 (Switch var ty cs) ρ Γ m = (length Γ ≤ 64) × Fits64Clauses cs false ρ (filter_by_set_lem (rename_ids ρ (free_vars_clauses cs)) Γ) m
  Fits64 (Create var ty env₀ cs next) ρ Γ m =
      let contextNext = filter_by_set_lem (rename_ids ρ (free_vars next)) Γ in
      let env = filter_by_set_lem (rename_ids ρ (free_vars_clauses cs)) (move_behind_lem (length contextNext) Γ) in
      let right = same_context Γ (contextNext ++ env) in
      let drawn = freshen_unless_lem right contextNext (ids env) (linearize_clauses cs true ρ env m).1 in
      (length Γ ≤ 64) × Fits64Clauses cs true ρ env m × Fits64 next (rename_unless right ρ (renaming contextNext drawn.0)) (drawn.0 ++ (bind var Cns ty ∷ [])) drawn.1
  Fits64 (Invoke var tag ty args) ρ Γ m = length Γ ≤ 64
  Fits64 (Literal lit var next) ρ Γ m = (length Γ ≤ 64) × Fits64 next ρ (filter_by_set_lem (rename_ids ρ (free_vars next)) Γ ++ (bind var Ext I64 ∷ [])) m
  Fits64 (Op fst op snd var next) ρ Γ m =
      (length Γ ≤ 64) × Fits64 next ρ (filter_by_set_lem ((rename ρ fst).id ∷ (rename ρ snd).id ∷ rename_ids ρ (free_vars next)) Γ ++ (bind var Ext I64 ∷ [])) m
  Fits64 (IfC sort fst snd thenc elsec) ρ Γ m = (length Γ ≤ 64) × Fits64 thenc ρ Γ m × Fits64 elsec ρ Γ (linearize_stmt thenc ρ Γ m).1
  Fits64 (PrintI64 newline var next) ρ Γ m = (length Γ ≤ 64) × Fits64 next ρ (filter_by_set_lem ((rename ρ var).id ∷ rename_ids ρ (free_vars next)) Γ) m
  Fits64 (Exit var) ρ Γ m = length Γ ≤ 64

  pub Fits64Clauses : Clauses → Bool → Renaming → Context → ℕ → Type 0
  Fits64Clauses end before ρ Γ m = Unit {0}
  Fits64Clauses (clause xtor context body rest) before ρ Γ m =
      let Γ' = cond before (context ++ Γ) (Γ ++ context) in
      Fits64 body ρ Γ' m × Fits64Clauses rest before ρ Γ (linearize_stmt body ρ Γ' m).1

mutual
  unfolding Fits64 Asked

  fits64 : (s : Stmt) (Δ : List VarId) → Asked s small small_binders Δ → (ρ : Renaming) (Γ : Context) (m : ℕ) → length Γ ≤ length Δ → Fits64 s ρ Γ m
  fits64 (Substitute ps next) Δ a ρ Γ m h = omega (arith, small-says Δ (Substitute ps next) a.0)
  fits64 (Call label args) Δ a ρ Γ m h = omega (arith, small-says Δ (Call label args) a)
  fits64 (Let var ty tag args next) Δ a ρ Γ m h =
      let s = rename_ids ρ (free_vars next) in
      (omega (arith, small-says Δ (Let var ty tag args next) a.0), fits64 next (var.id ∷ Δ) a.2 ρ _ _ (longer (filter_by_set_lem s Γ) (bind var Prd ty) Δ var.id (le_trans (filter-fewer s Γ) h)))
  fits64 (Switch var ty cs) Δ a ρ Γ m h =
      (omega (arith, small-says Δ (Switch var ty cs) a.0), fits64_clauses cs Δ a.1 false ρ _ m (le_trans (filter-fewer (rename_ids ρ (free_vars_clauses cs)) Γ) h))
  fits64 (Create var ty env₀ cs next) Δ a ρ Γ m h =
      let contextNext = filter_by_set_lem (rename_ids ρ (free_vars next)) Γ in
      let env = filter_by_set_lem (rename_ids ρ (free_vars_clauses cs)) (move_behind_lem (length contextNext) Γ) in
      let right = same_context Γ (contextNext ++ env) in
      let m₁ = (linearize_clauses cs true ρ env m).1 in
      let T = (freshen_unless_lem right contextNext (ids env) m₁).0 in
      let k : length T ≤ length Δ = omega (arith, unless-length right contextNext (ids env) m₁, filter-fewer (rename_ids ρ (free_vars next)) Γ) in (
        omega (arith, small-says Δ (Create var ty env₀ cs next) a.0),
        fits64_clauses cs Δ a.1 true ρ env m (le_trans (env_fewer (rename_ids ρ (free_vars_clauses cs)) (length contextNext) Γ) h),
        fits64 next (var.id ∷ Δ) a.3 _ _ _ (longer T (bind var Cns ty) Δ var.id k),
      )
  fits64 (Invoke var tag ty args) Δ a ρ Γ m h = omega (arith, small-says Δ (Invoke var tag ty args) a)
  fits64 (Literal lit var next) Δ a ρ Γ m h =
      let s = rename_ids ρ (free_vars next) in
      (omega (arith, small-says Δ (Literal lit var next) a.0), fits64 next (var.id ∷ Δ) a.2 ρ _ m (longer (filter_by_set_lem s Γ) (bind var Ext I64) Δ var.id (le_trans (filter-fewer s Γ) h)))
  fits64 (Op fst op snd var next) Δ a ρ Γ m h =
      let s = (rename ρ fst).id ∷ (rename ρ snd).id ∷ rename_ids ρ (free_vars next) in
      (omega (arith, small-says Δ (Op fst op snd var next) a.0), fits64 next (var.id ∷ Δ) a.2 ρ _ m (longer (filter_by_set_lem s Γ) (bind var Ext I64) Δ var.id (le_trans (filter-fewer s Γ) h)))
  fits64 (IfC sort fst snd thenc elsec) Δ a ρ Γ m h = (omega (arith, small-says Δ (IfC sort fst snd thenc elsec) a.0), fits64 thenc Δ a.1 ρ Γ m h, fits64 elsec Δ a.2 ρ Γ _ h)
  fits64 (PrintI64 newline var next) Δ a ρ Γ m h =
      let s = (rename ρ var).id ∷ rename_ids ρ (free_vars next) in
      (omega (arith, small-says Δ (PrintI64 newline var next) a.0), fits64 next Δ a.1 ρ _ m (le_trans (filter-fewer s Γ) h))
  fits64 (Exit var) Δ a ρ Γ m h = omega (arith, small-says Δ (Exit var) a)

  fits64_clauses : (cs : Clauses) (Δ : List VarId) → AskedClauses cs small small_binders Δ → (before : Bool) (ρ : Renaming) (Γ : Context) (m : ℕ) → length Γ ≤ length Δ → Fits64Clauses cs before ρ Γ m
  fits64_clauses end Δ a before ρ Γ m h = tt
  fits64_clauses (clause xtor context body rest) Δ a before ρ Γ m h =
      let Γ' = cond before (context ++ Γ) (Γ ++ context) in
      let k : length Γ' ≤ length (ids context ++ Δ) = omega (arith, joined_length before context Γ, length-append (ids context) Δ, length-map context id_of) in
      (fits64 body (ids context ++ Δ) a.1 ρ Γ' m k, fits64_clauses rest Δ a.2 before ρ Γ _ h)

-- of each definition, at the max_id that those before it leave
abbrev pub Fits64Defs : List Def → ℕ → Type 0
Fits64Defs [] m = Unit {0}
Fits64Defs (d ∷ ds) m = Fits64 d.body no_renaming d.context m × Fits64Defs ds (linearize_stmt d.body no_renaming d.context m).1

fits64_defs : (ds : List Def) (m : ℕ) → asked_defs ds small small_binders ≡ true → Fits64Defs ds m
fits64_defs [] m a = tt
fits64_defs (d ∷ ds) m a =
    let Δ = ids d.context in
    let q = three (small_binders [] Δ) (asked d.body small small_binders Δ) (asked_defs ds small small_binders) a in
    let k : length d.context ≤ length Δ = omega (arith, length-map d.context id_of) in
    (fits64 d.body Δ (answered d.body small small_binders Δ q.1) no_renaming d.context m k, fits64_defs ds _ q.2)

-- of an accepted program
pub contexts_fit : (P : Prog) → Accepted P → Fits64Defs P.defs P.max_id
contexts_fit P a = fits64_defs P.defs P.max_id (three (leb (records_defs P.defs) 2000) (leb (depth_defs P.defs) 64) (asked_defs P.defs small small_binders) a.seven).2
