-- The step of Op. Assumes nothing.
use mathlib.Core.Path.{refl, sym, ◌∙◌, ap}
use mathlib.Core.Logic.{inl, inr}
use mathlib.Core.List.{List, [], ◌∷◌, ◌++◌}
use Prim.Native.Nat.{ℕ}
use lib.IntN.{ℤ, pos}
use Rattle.syntax.specs.Context.{Context, ids}
use Rattle.syntax.specs.Sets.{◌∈◌}
use Rattle.syntax.specs.Filter.{filter_by_set_lem}
use Rattle.syntax.specs.declared.names.VarId.{VarId}
use Rattle.syntax.specs.declared.names.Identifier.{Identifier}
use Rattle.syntax.specs.declared.context.Chirality.TheVariants.{Ext}
use Rattle.syntax.specs.declared.types.Ty.TheVariants.{I64}
use Rattle.syntax.specs.declared.op.BinOp.{BinOp}
use Rattle.syntax.proofs.Members.{without-∈}
use Rattle.model.specs.Syntax.{Stmt, Prog, Op}
use Rattle.model.specs.Lists.{zip}
use Rattle.model.specs.FreeVars.{free_vars}
use Rattle.model.specs.Renaming.{Renaming, rename, rename_id, rename_ids}
use Rattle.model.specs.Rules.{bind}
use Rattle.model.specs.Pass.{linearize_stmt, linearize}
use Rattle.model.specs.Machine.{int, Entries, Cells, at, as_int}
use Rattle.model.specs.Source.{source_step_lem, source_work}
use Rattle.model.specs.Linear.{linear_step_lem, linear_work, in_order_lem}
use Rattle.model.specs.Integers.{eval_op}
use Rattle.model.proofs.Scoping.{Scoped}
use Rattle.model.proofs.Good.{selects_filter}
use Rattle.model.proofs.Invariant.{Fits, SameCells, rename-id, rename_ids_in, fits-distinct, fewer, part-values, narrow, behind}
use Rattle.model.proofs.Simulation.{Matches, Simulates, both_halt, arrive-kept, got-present, renamed, appended_distinct}

module _ (P : Prog) {Δ : List VarId} {ρ : Renaming} {Γ : Context} {m : ℕ} {ε l : Entries} (K K' : Cells) (cells : SameCells P.max_id K K') where
  work-Op : (fst : Identifier) (op : BinOp) (snd : Identifier) (var : Identifier) (next : Stmt) → Fits P.max_id (free_vars (Op fst op snd var next)) Δ ρ Γ m ε l
      → Scoped (Op fst op snd var next) P.max_id Δ
      → Matches P.max_id (source_work P (Op fst op snd var next) ε K)
      (linear_step_lem (linearize P) (at (Op (rename ρ fst) op (rename ρ snd) var (linearize_stmt next ρ (Γ ++ (bind var Ext I64 ∷ [])) m).0) l K'))
  unfolding free_vars Scoped source_work linear_step_lem in_order_lem linear_work
  work-Op fst op snd var next f sc =
      let after : (z : ℤ) → Fits P.max_id (free_vars next) (var.id ∷ Δ) ρ (Γ ++ (bind var Ext I64 ∷ [])) m ((var.id, int z) ∷ ε) (l ++ ((var.id, int z) ∷ [])) =
      λ z. behind (free_vars next) (bind var Ext I64 ∷ []) (fewer f (λ x h. inr (inr h))) sc.2 (int z ∷ []) refl in
      let a = f.agrees fst.id (inl refl) in
      let c = f.agrees snd.id (inr (inl refl)) in
      let a' = renamed ρ fst l a.0 a.2 in
      let c' = renamed ρ snd l c.0 c.2 in
      let p = got-present ((rename ρ fst).id ∷ (rename ρ snd).id ∷ []) l (a.0 ∷ c.0 ∷ []) (a', (c', tt)) in
      let d = appended_distinct l var.id (int (pos 0)) (fits-distinct (after (pos 0))) in
      rw (a.1, c.1, p, d, a', c')
      (both_halt P.max_id (as_int a.0) _ _ λ x p.
      both_halt P.max_id (as_int c.0) _ _ λ y q.
      both_halt P.max_id (eval_op op x y) _ _ λ z r.
      (refl, (record { Δ = var.id ∷ Δ; ρ = ρ; Γ = Γ ++ (bind var Ext I64 ∷ []); m = m; fits = after z; scoped = sc.3; is = refl }, cells)))

module _ (P : Prog) {Δ : List VarId} {ρ : Renaming} {Γ : Context} {m : ℕ} {ε l : Entries} (K K' : Cells) (cells : SameCells P.max_id K K') where
  pub sim-Op : (fst : Identifier) (op : BinOp) (snd : Identifier) (var : Identifier) (next : Stmt)
      → Fits P.max_id (free_vars (Op fst op snd var next)) Δ ρ Γ m ε l → Scoped (Op fst op snd var next) P.max_id Δ
      → Simulates P (at (Op fst op snd var next) ε K) (at (linearize_stmt (Op fst op snd var next) ρ Γ m).0 l K')
  unfolding linearize_stmt free_vars source_step_lem
  sim-Op fst op snd var next f sc =
      let Z = (rename ρ fst).id ∷ (rename ρ snd).id ∷ rename_ids ρ (free_vars next) in
      let new = filter_by_set_lem Z Γ in
      let sel = selects_filter Z Γ in
      let part = part-values f sel in (
        at (Op (rename ρ fst) op (rename ρ snd) var (linearize_stmt next ρ (new ++ (bind var Ext I64 ∷ [])) m).0) (zip (ids new) part.0) K',
        arrive-kept (linearize P) f Z _ K',
        work-Op P K K' cells fst op snd var next (narrow f sel (λ x h. h) in_z part.0 part.1) sc,
      )
    where
      in_z : (x : VarId) → x ∈ free_vars (Op fst op snd var next) → rename_id ρ x ∈ ((rename ρ fst).id ∷ (rename ρ snd).id ∷ rename_ids ρ (free_vars next))
      in_z x (inl e) = inl (ap (rename_id ρ) e ∙ sym (rename-id ρ fst))
      in_z x (inr (inl e)) = inr (inl (ap (rename_id ρ) e ∙ sym (rename-id ρ snd)))
      in_z x (inr (inr h)) = inr (inr (rename_ids_in ρ x (free_vars next) (without-∈ x (free_vars next) (var.id ∷ []) h).0))
