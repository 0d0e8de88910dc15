-- The records of what the pass gives are such as the layout can hold, where those of what it is given are, the closing max_id fits and no count is
-- over 128: `linearize_stmt-formed`, `linearize_defs-formed`. w is the number of bytes of an ID. Assumes nothing.
use Prim.Native.Nat.{ℕ, ◌^◌, ◌≤◌, ◌<◌}
use mathlib.Core.Bool.{Bool, true, false, cond}
use mathlib.Core.List.{List, [], ◌∷◌, ◌++◌}
use native.Mathlib.Nat.{le_trans}
use native.Mathlib.Omega.{arith}
use lib.ListN.{length}
use Rattle.syntax.specs.Context.{Context, id_of, ids, same_context}
use Rattle.syntax.specs.Filter.{filter_by_set_lem}
use Rattle.syntax.specs.declared.context.Chirality.TheVariants.{Prd, Cns, Ext}
use Rattle.syntax.specs.declared.types.Ty.TheVariants.{I64}
use Rattle.model.specs.Syntax.{Stmt, Clauses, Substitute, Call, Let, Switch, Create, Invoke, Literal, Op, IfC, PrintI64, Exit, end, clause, Def}
use Rattle.model.specs.FreeVars.{free_vars, free_vars_clauses}
use Rattle.model.specs.Renaming.{Renaming, no_renaming, rename, rename_ids, rename_context, renaming, rename_unless}
use Rattle.model.specs.Rules.{bind, arrange, freshen_unless_lem, fresh_var_unless, move_behind_lem}
use Rattle.model.specs.Pass.{linearize_stmt, linearize_clauses, linearize_defs}
use Rattle.model.specs.Sizes.{widest, widest_clauses, widest_defs}
use Rattle.model.proofs.Grows.{fresh_var_unless-grows, freshen_unless-grows, linearize_stmt-grows, linearize_clauses-grows}
use Rattle.image_spec.specs.Parse.{All}
use Rattle.image_spec.specs.Fields.{BindingOk}
use Rattle.image_spec.specs.Records.{RecordOk}
use Rattle.image_spec.specs.Shape.{flatten, flatten_clauses, flatten_defs}
use Rattle.image_spec.proofs.ListLaws.{all-++, all_left, all_right}
use Rattle.pass_answer_spec.proofs.Held.{one_more, joined-holds, filter-holds, behind-holds, pairs_hold, RenamingOk, rename-holds, rename_option-holds, rename_context-holds, rename_unless-holds, freshen_unless-holds, fresh_var_unless-holds}

-- max_id never falls
linearize_defs-grows : (ds : List Def) (m : ℕ) → m ≤ (linearize_defs ds m).1
unfolding linearize_defs
linearize_defs-grows [] m = omega arith
linearize_defs-grows (d ∷ ds) m = le_trans (linearize_stmt-grows d.body no_renaming d.context m) (linearize_defs-grows ds _)

module _ (w : ℕ) where
  -- all records of a statement
  abbrev pub Formed : Stmt → Type 0
  Formed t = All (RecordOk w) (flatten t)

  -- a rearrangement of what can be held, before what can be held
  arrange-formed : (right : Bool) (T W : Context) (s : Stmt) → All (BindingOk w) T → All (BindingOk w) W → widest (arrange right T W s) ≤ 128 → (widest s ≤ 128 → Formed s)
      → Formed (arrange right T W s)
  unfolding arrange widest flatten RecordOk
  arrange-formed true T W s h k n f = f n
  arrange-formed false T W s h k n f = ((omega arith, pairs_hold w T W h k), f (omega arith))

  mutual
    unfolding linearize_stmt flatten widest RecordOk

    pub linearize_stmt-formed : (t : Stmt) → All (RecordOk w) (flatten t) → (ρ : Renaming) → RenamingOk w ρ → (Γ : Context) → All (BindingOk w) Γ
        → (m : ℕ) → (linearize_stmt t ρ Γ m).1 < 256 ^ w → widest (linearize_stmt t ρ Γ m).0 ≤ 128 → All (RecordOk w) (flatten (linearize_stmt t ρ Γ m).0)
    linearize_stmt-formed (Substitute ps next) f ρ r Γ h m k n = f
    linearize_stmt-formed (Call label args₀) f ρ r Γ h m k n =
        let args = rename_context ρ args₀ in
        let right = same_context Γ args in
        let ha = rename_context-holds w ρ r args₀ f.0.1.1 in
        arrange-formed right _ args (Call label []) (freshen_unless-holds w right args [] m ha k) ha n (λ _. ((f.0.0, (omega arith, tt)), tt))
    linearize_stmt-formed (Let var ty tag args₀ next) f ρ r Γ h m k n =
        let args = rename_context ρ args₀ in
        let new = filter_by_set_lem (rename_ids ρ (free_vars next)) Γ in
        let right = same_context Γ (new ++ args) in
        let b = bind var Prd ty in
        let drew = freshen_unless_lem right args (ids new) m in
        let ha = rename_context-holds w ρ r args₀ f.0.1.1.1.1 in
        let hn = filter-holds w (rename_ids ρ (free_vars next)) Γ h in
        let hf = freshen_unless-holds w right args (ids new) m ha (omega (arith, linearize_stmt-grows next ρ (new ++ (b ∷ [])) drew.1)) in
        let hb : BindingOk w b = (f.0.0, (tt, f.0.1.0)) in
        arrange-formed right _ (new ++ args) _ (all-++ (BindingOk w) new drew.0 hn hf) (all-++ (BindingOk w) new args hn ha) n
        (λ n. (
          (f.0.0, (f.0.1.0, (f.0.1.1.0, (omega arith, hf)))),
          linearize_stmt-formed next f.1 ρ r (new ++ (b ∷ [])) (one_more w new b hn hb) drew.1 k (omega arith),
        ))
    linearize_stmt-formed (Switch var ty cs) f ρ r Γ h m k n =
        let new = filter_by_set_lem (rename_ids ρ (free_vars_clauses cs)) Γ in
        let b = bind (rename ρ var) Prd ty in
        let right = same_context Γ (new ++ (b ∷ [])) in
        let m₁ = (linearize_clauses cs false ρ new m).1 in
        let hn = filter-holds w (rename_ids ρ (free_vars_clauses cs)) Γ h in
        let hb : BindingOk w b = (rename-holds w ρ r var f.0.0, (tt, f.0.1.0)) in
        let drew = fresh_var_unless right b (ids new) m₁ in
        let hd = fresh_var_unless-holds w right b (ids new) m₁ hb k in
        arrange-formed right (new ++ (drew.0 ∷ [])) (new ++ (b ∷ [])) _ (one_more w new drew.0 hn hd) (one_more w new b hn hb) n
        (λ n. (
          (hd.0, (f.0.1.0, omega arith)),
          linearize_clauses-formed cs f.1 false ρ r new hn m (omega (arith, fresh_var_unless-grows right b (ids new) m₁)) (omega arith),
        ))
    linearize_stmt-formed (Create var ty env₀ cs next) f ρ r Γ h m k n =
        let N = filter_by_set_lem (rename_ids ρ (free_vars next)) Γ in
        let env = filter_by_set_lem (rename_ids ρ (free_vars_clauses cs)) (move_behind_lem (length N) Γ) in
        let right = same_context Γ (N ++ env) in
        let m₁ = (linearize_clauses cs true ρ env m).1 in
        let drew = freshen_unless_lem right N (ids env) m₁ in
        let T = drew.0 in
        let σ = rename_unless right ρ (renaming N T) in
        let b = bind var Cns ty in
        let hN = filter-holds w (rename_ids ρ (free_vars next)) Γ h in
        let hE = filter-holds w (rename_ids ρ (free_vars_clauses cs)) (move_behind_lem (length N) Γ) (behind-holds w (length N) Γ h) in
        let g = linearize_stmt-grows next σ (T ++ (b ∷ [])) drew.1 in
        let hT = freshen_unless-holds w right N (ids env) m₁ hN (omega arith) in
        let hb : BindingOk w b = (f.0.0, (tt, f.0.1.0)) in
        arrange-formed right (T ++ env) (N ++ env) _ (all-++ (BindingOk w) T env hT hE) (all-++ (BindingOk w) N env hN hE) n
        (λ n. (
          (f.0.0, (f.0.1.0, ((omega arith, hE), omega arith))),
          all-++ (RecordOk w) (flatten_clauses (linearize_clauses cs true ρ env m).0) (flatten (linearize_stmt next σ (T ++ (b ∷ [])) drew.1).0)
              (linearize_clauses-formed cs (all_left (RecordOk w) (flatten_clauses cs) (flatten next) f.1) true ρ r env hE m (omega (arith, freshen_unless-grows right N (ids env) m₁)) (omega arith))
              (linearize_stmt-formed next (all_right (RecordOk w) (flatten_clauses cs) (flatten next) f.1) σ (rename_unless-holds w right ρ N T r hT) (T ++ (b ∷ [])) (one_more w T b hT hb) drew.1 k (omega arith)),
        ))
    linearize_stmt-formed (Invoke var tag ty args₀) f ρ r Γ h m k n =
        let args = rename_context ρ args₀ in
        let b = bind (rename ρ var) Cns ty in
        let right = same_context Γ (args ++ (b ∷ [])) in
        let ha = rename_context-holds w ρ r args₀ f.0.1.1.1.1 in
        let hv = rename-holds w ρ r var f.0.0 in
        let hb : BindingOk w b = (hv, (tt, f.0.1.1.0)) in
        let hf = freshen_unless-holds w right args (id_of b ∷ []) m ha k in
        arrange-formed right _ (args ++ (b ∷ [])) (Invoke (rename ρ var) tag ty []) (one_more w (freshen_unless_lem right args (id_of b ∷ []) m).0 b hf hb) (one_more w args b ha hb) n
        (λ _. ((hv, (f.0.1.0, (f.0.1.1.0, (omega arith, tt)))), tt))
    linearize_stmt-formed (Literal lit var next) f ρ r Γ h m k n =
        let new = filter_by_set_lem (rename_ids ρ (free_vars next)) Γ in
        let b = bind var Ext I64 in
        let hn = filter-holds w (rename_ids ρ (free_vars next)) Γ h in
        let hb : BindingOk w b = (f.0.1, (tt, tt)) in
        arrange-formed (same_context Γ new) new new _ hn hn n
        (λ n. (f.0, linearize_stmt-formed next f.1 ρ r (new ++ (b ∷ [])) (one_more w new b hn hb) m k n))
    linearize_stmt-formed (Op fst op snd var next) f ρ r Γ h m k n =
        let s = (rename ρ fst).id ∷ (rename ρ snd).id ∷ rename_ids ρ (free_vars next) in
        let new = filter_by_set_lem s Γ in
        let b = bind var Ext I64 in
        let hn = filter-holds w s Γ h in
        let hb : BindingOk w b = (f.0.1.1.1, (tt, tt)) in
        arrange-formed (same_context Γ new) new new _ hn hn n
        (λ n. (
          (rename-holds w ρ r fst f.0.0, (tt, (rename-holds w ρ r snd f.0.1.1.0, f.0.1.1.1))),
          linearize_stmt-formed next f.1 ρ r (new ++ (b ∷ [])) (one_more w new b hn hb) m k n,
        ))
    linearize_stmt-formed (IfC sort fst snd thenc elsec) f ρ r Γ h m k n =
        let m₁ = (linearize_stmt thenc ρ Γ m).1 in (
          (tt, (rename-holds w ρ r fst f.0.1.0, rename_option-holds w ρ r snd f.0.1.1)),
          all-++ (RecordOk w) (flatten (linearize_stmt thenc ρ Γ m).0) (flatten (linearize_stmt elsec ρ Γ m₁).0)
              (linearize_stmt-formed thenc (all_left (RecordOk w) (flatten thenc) (flatten elsec) f.1) ρ r Γ h m (omega (arith, linearize_stmt-grows elsec ρ Γ m₁)) (omega arith))
              (linearize_stmt-formed elsec (all_right (RecordOk w) (flatten thenc) (flatten elsec) f.1) ρ r Γ h m₁ k (omega arith)),
        )
    linearize_stmt-formed (PrintI64 newline var next) f ρ r Γ h m k n =
        let s = (rename ρ var).id ∷ rename_ids ρ (free_vars next) in
        let new = filter_by_set_lem s Γ in
        let hn = filter-holds w s Γ h in
        arrange-formed (same_context Γ new) new new _ hn hn n
        (λ n. ((tt, rename-holds w ρ r var f.0.1), linearize_stmt-formed next f.1 ρ r new hn m k n))
    linearize_stmt-formed (Exit var) f ρ r Γ h m k n = (rename-holds w ρ r var f.0, tt)

    pub linearize_clauses-formed : (cs : Clauses) → All (RecordOk w) (flatten_clauses cs) → (before : Bool) (ρ : Renaming) → RenamingOk w ρ → (Γ : Context) → All (BindingOk w) Γ
        → (m : ℕ) → (linearize_clauses cs before ρ Γ m).1 < 256 ^ w → widest_clauses (linearize_clauses cs before ρ Γ m).0 ≤ 128
        → All (RecordOk w) (flatten_clauses (linearize_clauses cs before ρ Γ m).0)
    linearize_clauses-formed end f before ρ r Γ h m k n = tt
    linearize_clauses-formed (clause xtor context body rest) f before ρ r Γ h m k n =
        let Γ' = cond before (context ++ Γ) (Γ ++ context) in
        let m₁ = (linearize_stmt body ρ Γ' m).1 in (
          f.0,
          all-++ (RecordOk w) (flatten (linearize_stmt body ρ Γ' m).0) (flatten_clauses (linearize_clauses rest before ρ Γ m₁).0)
              (linearize_stmt-formed body (all_left (RecordOk w) (flatten body) (flatten_clauses rest) f.1) ρ r Γ' (joined-holds w before context Γ f.0.1.1 h) m (omega (arith, linearize_clauses-grows rest before ρ Γ m₁)) (omega arith))
              (linearize_clauses-formed rest (all_right (RecordOk w) (flatten body) (flatten_clauses rest) f.1) before ρ r Γ h m₁ k (omega arith)),
        )

  pub linearize_defs-formed : (ds : List Def) → All (RecordOk w) (flatten_defs ds) → (m : ℕ) → (linearize_defs ds m).1 < 256 ^ w → widest_defs (linearize_defs ds m).0 ≤ 128
      → All (RecordOk w) (flatten_defs (linearize_defs ds m).0)
  unfolding linearize_defs flatten_defs RecordOk RenamingOk
  linearize_defs-formed [] f m k n = tt
  linearize_defs-formed (d ∷ ds) f m k n =
      let m₁ = (linearize_stmt d.body no_renaming d.context m).1 in (
        f.0,
        all-++ (RecordOk w) (flatten (linearize_stmt d.body no_renaming d.context m).0) (flatten_defs (linearize_defs ds m₁).0)
            (linearize_stmt-formed d.body (all_left (RecordOk w) (flatten d.body) (flatten_defs ds) f.1) no_renaming (λ i. tt) d.context f.0.1.1 m (omega (arith, linearize_defs-grows ds m₁)) (omega arith))
            (linearize_defs-formed ds (all_right (RecordOk w) (flatten d.body) (flatten_defs ds) f.1) m₁ k (omega arith)),
      )
