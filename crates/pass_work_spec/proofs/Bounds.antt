-- How far the pass draws: max_id never falls, and under question 7 it rises by at most 128 for each record. Assumes nothing.
use mathlib.Core.Path.{◌≡◌}
use mathlib.Core.Bool.{Bool, true, false, cond}
use mathlib.Core.List.{List, [], ◌∷◌, ◌++◌}
use Prim.Native.Nat.{ℕ, ◌+◌, ◌*◌, ◌≤◌}
use native.Mathlib.Nat.{le_refl, le_trans}
use native.Mathlib.Omega.{arith}
use lib.Dec.{leb}
use lib.ListN.{length, length-append, length-map}
use Rattle.syntax.specs.Context.{Context, id_of, ids, same_context}
use Rattle.syntax.specs.Sets.{elem}
use Rattle.syntax.specs.declared.names.VarId.{VarId}
use Rattle.syntax.specs.declared.context.Chirality.TheVariants.{Prd, Cns, Ext}
use Rattle.syntax.specs.declared.types.Ty.TheVariants.{I64}
use Rattle.syntax.specs.declared.context.ContextBinding.{ContextBinding}
use Rattle.syntax.proofs.Drawing.{fresh-near, freshen-near}
use Rattle.model.specs.Syntax.{Stmt, Clauses, Substitute, Call, Let, Switch, Create, Invoke, Literal, Op, IfC, PrintI64, Exit, end, clause, Def, Prog}
use Rattle.model.specs.Sizes.{records, records_clauses, records_defs, depth_defs}
use Rattle.model.specs.FreeVars.{free_vars, free_vars_clauses}
use Rattle.model.specs.Rules.{bind, freshen_unless_lem, fresh_var_lem, fresh_var_unless}
use Rattle.model.specs.Questions.{asked, asked_clauses, asked_defs, small, small_binders, question7}
use Rattle.model.proofs.Questions.{Asked, AskedClauses, answered, answered_clauses, three}
use borrow.Author.Tests.{leb-true}
use Rattle.model.proofs.Widths.{small-says}
use Rattle.model.proofs.Grows.{freshen_unless-grows, fresh_var_unless-grows}
use Rattle.pass_work_spec.specs.declared.Entry.{Entry}
use Rattle.pass_work_spec.specs.Work.{Work, bindings, own, owns, used, used_binding_lem, used_all_lem, kept, moved_behind, respelled_unless, work_stmt}
use Rattle.pass_work_spec.specs.Work.{work_clauses, work_defs, work_call, work_let, work_switch, work_create, work_invoke, work_literal, work_op, work_if_c}
use Rattle.pass_work_spec.specs.Work.{work_print_i64, work_exit, work_clause}
use Rattle.pass_work_spec.proofs.Lengths.{kept-fewer, env_fewer, unless-fewer, owns-length, longer, joined_length}

-- ── it never falls ──

mutual
  unfolding work_stmt work_call work_let work_switch work_create work_invoke work_literal work_op work_if_c work_print_i64 work_exit work_clause

  pub work_rises : (t : Stmt) (W : Work) (n m : ℕ) → m ≤ (work_stmt t W n m).1
  work_rises (Substitute ps next) W n m = le_refl m
  work_rises (Call label args) W n m = freshen_unless-grows _ _ _ m
  work_rises (Let var ty tag args next) W n m = le_trans (freshen_unless-grows _ _ _ m) (work_rises next _ _ _)
  work_rises (Switch var ty cs) W n m = le_trans (work_rises_clauses cs false _ n m) (fresh_var_unless-grows _ _ _ _)
  work_rises (Create var ty env cs next) W n m = le_trans (work_rises_clauses cs true _ n m) (le_trans (freshen_unless-grows _ _ _ _) (work_rises next _ _ _))
  work_rises (Invoke var tag ty args) W n m = freshen_unless-grows _ _ _ m
  work_rises (Literal lit var next) W n m = work_rises next _ _ m
  work_rises (Op fst op snd var next) W n m = work_rises next _ _ m
  work_rises (IfC sort fst snd thenc elsec) W n m = le_trans (work_rises thenc W n m) (work_rises elsec W n _)
  work_rises (PrintI64 newline var next) W n m = work_rises next _ _ m
  work_rises (Exit var) W n m = le_refl m

  pub work_rises_clauses : (cs : Clauses) (before : Bool) (W : Work) (n m : ℕ) → m ≤ (work_clauses cs before W n m).1
  work_rises_clauses end before W n m = le_refl m
  work_rises_clauses (clause xtor context body rest) before W n m = le_trans (work_rises body _ _ m) (work_rises_clauses rest before W n _)

-- ── by at most 128 for each record ──

-- what one rule draws
pub unless-near : (right : Bool) (Γ : Context) (C : List VarId) (m : ℕ) → (freshen_unless_lem right Γ C m).1 ≤ m + 2 * length Γ
unfolding freshen_unless_lem
unless-near true Γ C m = omega arith
unless-near false Γ C m = freshen-near Γ C m

pub var-near : (right : Bool) (b : ContextBinding) (C : List VarId) (m : ℕ) → (fresh_var_unless right b C m).1 ≤ m + 2
unfolding fresh_var_unless
var-near true b C m = omega arith
var-near false b C m = go (elem (id_of b) C)
  where
    go : (clash : Bool) → (fresh_var_lem clash b m).1 ≤ m + 2
    go true = fresh-near m
    go false = omega arith

mutual
  unfolding work_stmt work_call work_let work_switch work_create work_invoke work_literal work_op work_if_c work_print_i64 work_exit work_clause records Asked

  asked-grows : (t : Stmt) (Δ : List VarId) → Asked t small small_binders Δ → (W : Work) (n m : ℕ) → length W ≤ length Δ → (work_stmt t W n m).1 ≤ m + 128 * records t
  asked-grows (Substitute ps next) Δ a W n m h = omega arith
  asked-grows (Call label args) Δ a W n m h =
      let q = small-says Δ (Call label args) a in
      omega (arith, unless-near (same_context (bindings W) (used_all_lem W args)) (used_all_lem W args) [] m, length-map args (used_binding_lem W))
  asked-grows (Let var ty tag args next) Δ a W n m h =
      let q = small-says Δ (Let var ty tag args next) a.0 in
      let new = kept (free_vars next) W in
      let right = same_context (bindings W) (bindings new ++ used_all_lem W args) in
      let m₁ = (freshen_unless_lem right (used_all_lem W args) (ids (bindings new)) m).1 in
      let ih = asked-grows next (var.id ∷ Δ) a.2 (new ++ (own n (bind var Prd ty) ∷ [])) (n + 1) m₁ (longer new n (bind var Prd ty) Δ var.id (le_trans (kept-fewer (free_vars next) W) h)) in
      omega (arith, unless-near right (used_all_lem W args) (ids (bindings new)) m, length-map args (used_binding_lem W))
  asked-grows (Switch var ty cs) Δ a W n m h =
      let new = kept (free_vars_clauses cs) W in
      let xtor = bind (used W var) Prd ty in
      let m₁ = (work_clauses cs false new n m).1 in
      let ih = asked_grows_clauses cs Δ a.1 false new n m (le_trans (kept-fewer (free_vars_clauses cs) W) h) in
      omega (arith, var-near (same_context (bindings W) (bindings new ++ (xtor ∷ []))) xtor (ids (bindings new)) m₁)
  asked-grows (Create var ty env₀ cs next) Δ a W n m h =
      let q = small-says Δ (Create var ty env₀ cs next) a.0 in
      let contextNext = kept (free_vars next) W in
      let env = kept (free_vars_clauses cs) (moved_behind (length contextNext) W) in
      let right = same_context (bindings W) (bindings contextNext ++ bindings env) in
      let m₁ = (work_clauses cs true env n m).1 in
      let T = (freshen_unless_lem right (bindings contextNext) (ids (bindings env)) m₁).0 in
      let m₂ = (freshen_unless_lem right (bindings contextNext) (ids (bindings env)) m₁).1 in
      let k : length contextNext ≤ length Δ = le_trans (kept-fewer (free_vars next) W) h in
      let ihC = asked_grows_clauses cs Δ a.1 true env n m (le_trans (env_fewer (free_vars_clauses cs) (length contextNext) W) h) in
      let ihN = asked-grows next (var.id ∷ Δ) a.3 (respelled_unless right contextNext T ++ (own n (bind var Cns ty) ∷ [])) (n + 1) m₂
      (longer (respelled_unless right contextNext T) n (bind var Cns ty) Δ var.id (le_trans (unless-fewer right contextNext T) k)) in
      omega (arith, unless-near right (bindings contextNext) (ids (bindings env)) m₁, length-map contextNext (λ (e : Entry). e.binding))
  asked-grows (Invoke var tag ty args) Δ a W n m h =
      let q = small-says Δ (Invoke var tag ty args) a in
      let closure = bind (used W var) Cns ty in
      omega (arith, unless-near (same_context (bindings W) (used_all_lem W args ++ (closure ∷ []))) (used_all_lem W args) (id_of closure ∷ []) m, length-map args (used_binding_lem W))
  asked-grows (Literal lit var next) Δ a W n m h =
      let new = kept (free_vars next) W in
      let ih = asked-grows next (var.id ∷ Δ) a.2 (new ++ (own n (bind var Ext I64) ∷ [])) (n + 1) m (longer new n (bind var Ext I64) Δ var.id (le_trans (kept-fewer (free_vars next) W) h)) in
      omega arith
  asked-grows (Op fst op snd var next) Δ a W n m h =
      let z = fst.id ∷ snd.id ∷ free_vars next in
      let new = kept z W in
      let ih = asked-grows next (var.id ∷ Δ) a.2 (new ++ (own n (bind var Ext I64) ∷ [])) (n + 1) m (longer new n (bind var Ext I64) Δ var.id (le_trans (kept-fewer z W) h)) in
      omega arith
  asked-grows (IfC sort fst snd thenc elsec) Δ a W n m h =
      let ih₁ = asked-grows thenc Δ a.1 W n m h in
      let ih₂ = asked-grows elsec Δ a.2 W n (work_stmt thenc W n m).1 h in
      omega arith
  asked-grows (PrintI64 newline var next) Δ a W n m h =
      let z = var.id ∷ free_vars next in
      let ih = asked-grows next Δ a.1 (kept z W) n m (le_trans (kept-fewer z W) h) in
      omega arith
  asked-grows (Exit var) Δ a W n m h = omega arith

  asked_grows_clauses : (cs : Clauses) (Δ : List VarId) → AskedClauses cs small small_binders Δ → (before : Bool) (W : Work) (n m : ℕ) → length W ≤ length Δ
      → (work_clauses cs before W n m).1 ≤ m + 128 * records_clauses cs
  asked_grows_clauses end Δ a before W n m h = omega arith
  asked_grows_clauses (clause xtor context body rest) Δ a before W n m h =
      let W' = cond before (owns n context ++ W) (W ++ owns n context) in
      let k : length W' ≤ length (ids context ++ Δ) = omega (arith, joined_length before n context W, length-append (ids context) Δ, length-map context id_of) in
      let ih₁ = asked-grows body (ids context ++ Δ) a.1 W' (n + length context) m k in
      let ih₂ = asked_grows_clauses rest Δ a.2 before W n (work_stmt body W' (n + length context) m).1 h in
      omega arith

-- of a statement with Δ in scope and a yes to question 7's counts and room, in a context at work that is no longer than the scope
pub work_grows : (t : Stmt) (Δ : List VarId) → asked t small small_binders Δ ≡ true → (W : Work) (n m : ℕ) → length W ≤ length Δ → (work_stmt t W n m).1 ≤ m + 128 * records t
work_grows t Δ a W n m h = asked-grows t Δ (answered t small small_binders Δ a) W n m h

pub work_grows_clauses : (cs : Clauses) (Δ : List VarId) → asked_clauses cs small small_binders Δ ≡ true → (before : Bool) (W : Work) (n m : ℕ) → length W ≤ length Δ
    → (work_clauses cs before W n m).1 ≤ m + 128 * records_clauses cs
work_grows_clauses cs Δ a before W n m h = asked_grows_clauses cs Δ (answered_clauses cs small small_binders Δ a) before W n m h

-- of definitions
pub work_grows_defs : (ds : List Def) → asked_defs ds small small_binders ≡ true → (m : ℕ) → (work_defs ds m).1 ≤ m + 128 * records_defs ds
unfolding work_defs
work_grows_defs [] a m = omega arith
work_grows_defs (d ∷ ds) a m =
    let Δ = ids d.context in
    let q = three (small_binders [] Δ) (asked d.body small small_binders Δ) (asked_defs ds small small_binders) a in
    let k : length (owns 0 d.context) ≤ length Δ = omega (arith, owns-length 0 d.context, length-map d.context id_of) in
    let ih₁ = work_grows d.body Δ q.1 (owns 0 d.context) (length d.context) m k in
    let ih₂ = work_grows_defs ds q.2 (work_stmt d.body (owns 0 d.context) (length d.context) m).1 in
    omega arith

-- of a program with a yes to question 7, which has at most 2,000 records
pub work_near : (P : Prog) → question7 P ≡ true → (work_defs P.defs P.max_id).1 ≤ P.max_id + 256000
work_near P a =
    let q = three (leb (records_defs P.defs) 2000) (leb (depth_defs P.defs) 64) (asked_defs P.defs small small_binders) a in
    omega (arith, work_grows_defs P.defs q.2 P.max_id, leb-true (records_defs P.defs) 2000 q.0)
