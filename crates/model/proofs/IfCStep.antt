-- The step of IfC. Assumes nothing.
use mathlib.Core.Path.{◌≡◌, refl}
use mathlib.Core.Logic.{inl, inr}
use mathlib.Core.Bool.{Bool, true, false, cond}
use mathlib.Core.List.{List, [], ◌∷◌, ◌++◌}
use mathlib.Core.Option.{Option, none, some}
use Prim.Native.Nat.{ℕ}
use lib.IntN.{pos}
use Rattle.syntax.specs.Context.{Context}
use Rattle.syntax.specs.declared.names.VarId.{VarId}
use Rattle.syntax.specs.declared.names.Identifier.{Identifier}
use Rattle.syntax.specs.declared.ifc.IfSort.{IfSort}
use Rattle.syntax.proofs.Members.{∈_left, ∈_right, elem_true}
use Rattle.model.specs.Syntax.{Stmt, Prog, IfC}
use Rattle.model.specs.Lists.{lookup}
use Rattle.model.specs.FreeVars.{free_vars, optional_id}
use Rattle.model.specs.Renaming.{Renaming, rename, rename_id, rename_option}
use Rattle.model.specs.Pass.{linearize_stmt}
use Rattle.model.specs.Machine.{Value, int, Entries, keys, Cells, at, as_int, second}
use Rattle.model.specs.Source.{source_step_lem, source_work}
use Rattle.model.specs.Linear.{linear_step_lem, linear_work, in_order_lem, present}
use Rattle.model.specs.Integers.{holds}
use Rattle.model.proofs.Scoping.{◌⊆◌, Scoped}
use Rattle.model.proofs.Alist.{in_lookup}
use Rattle.model.proofs.Grows.{linearize_stmt-grows}
use Rattle.model.proofs.Invariant.{Fits, SameCells, Same, later, fewer}
use Rattle.model.proofs.Simulation.{Simulates, both_halt, got-present, renamed}

module _ (P : Prog) {Δ : List VarId} {ρ : Renaming} {Γ : Context} {m : ℕ} {ε l : Entries} (K K' : Cells) (cells : SameCells P.max_id K K') where
  -- the second value is the same on both sides, and its variable, if there is one, is present
  second-agrees : (fv : List VarId) → Fits P.max_id fv Δ ρ Γ m ε l → (snd : Option Identifier) → optional_id snd ⊆ fv
      → (v : Value) × (second snd ε ≡ some v) × (second (rename_option ρ snd) l ≡ some v) × (present (optional_id (rename_option ρ snd)) (keys l) ≡ true)
  second-agrees fv f none h = (int (pos 0), refl, refl, refl)
  second-agrees fv f (some x) h =
      let a = f.agrees x.id (h x.id (inl refl)) in
      let a' = renamed ρ x l a.0 a.2 in
      (a.0, a.1, a', got-present ((rename ρ x).id ∷ []) l (a.0 ∷ []) (a', tt))

  pub sim-IfC : (sort : IfSort) (fst : Identifier) (snd : Option Identifier) (thenc elsec : Stmt)
      → Fits P.max_id (free_vars (IfC sort fst snd thenc elsec)) Δ ρ Γ m ε l → Scoped (IfC sort fst snd thenc elsec) P.max_id Δ
      → Simulates P (at (IfC sort fst snd thenc elsec) ε K) (at (linearize_stmt (IfC sort fst snd thenc elsec) ρ Γ m).0 l K')
  unfolding linearize_stmt free_vars Scoped source_step_lem source_work linear_step_lem in_order_lem linear_work
  sim-IfC sort fst snd thenc elsec f sc = (
    at (linearize_stmt (IfC sort fst snd thenc elsec) ρ Γ m).0 l K',
    inr refl,
    rw (a.1, c.1, elem_true (rename ρ fst).id (keys l) (in_lookup (rename ρ fst).id a.0 l (renamed ρ fst l a.0 a.2)), c.3, renamed ρ fst l a.0 a.2, c.2)
        (both_halt P.max_id (as_int a.0) _ _ λ x p.
        both_halt P.max_id (as_int c.0) _ _ λ y q.
        (refl, branch (holds sort x y))),
  )
    where
      a : (v : Value) × (lookup fst.id ε ≡ some v) × (lookup (rename_id ρ fst.id) l ≡ some v)
      a = f.agrees fst.id (inl refl)

      c : (v : Value) × (second snd ε ≡ some v) × (second (rename_option ρ snd) l ≡ some v) × (present (optional_id (rename_option ρ snd)) (keys l) ≡ true)
      c = second-agrees (free_vars (IfC sort fst snd thenc elsec)) f snd (λ x h. inr (∈_left x (optional_id snd) (free_vars thenc ++ free_vars elsec) h))

      of_branches : (free_vars thenc ++ free_vars elsec) ⊆ free_vars (IfC sort fst snd thenc elsec)
      of_branches x h = inr (∈_right x (optional_id snd) (free_vars thenc ++ free_vars elsec) h)

      branch : (t : Bool) → Same P.max_id (at (cond t thenc elsec) ε K) (at (cond t (linearize_stmt thenc ρ Γ m).0 (linearize_stmt elsec ρ Γ (linearize_stmt thenc ρ Γ m).1).0) l K')
      branch true = (
        record {
          Δ = Δ;
          ρ = ρ;
          Γ = Γ;
          m = m;
          fits = fewer f (λ x h. of_branches x (∈_left x (free_vars thenc) (free_vars elsec) h));
          scoped = sc.2;
          is = refl;
        },
        cells,
      )
      branch false = (
        record {
          Δ = Δ;
          ρ = ρ;
          Γ = Γ;
          m = (linearize_stmt thenc ρ Γ m).1;
          fits = later (fewer f (λ x h. of_branches x (∈_right x (free_vars thenc) (free_vars elsec) h))) (linearize_stmt-grows thenc ρ Γ m);
          scoped = sc.3;
          is = refl;
        },
        cells,
      )
