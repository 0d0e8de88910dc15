-- The rules are the model's rules where the uses are what the renaming makes of them, what is kept is what the model filters, and the
-- parts are linearized alike. Assumes nothing.
use mathlib.Core.Path.{◌≡◌}
use mathlib.Core.Bool.{Bool, cond}
use mathlib.Core.List.{List, [], ◌∷◌, ◌++◌}
use mathlib.Core.Option.{Option}
use Prim.Native.Nat.{ℕ, ◌+◌}
use lib.IntN.{ℤ}
use lib.ListN.{length}
use Rattle.syntax.specs.Context.{Context, ids, same_context}
use Rattle.syntax.specs.Filter.{filter_by_set_lem}
use Rattle.syntax.specs.declared.names.VarId.{VarId}
use Rattle.syntax.specs.declared.names.Identifier.{Identifier}
use Rattle.syntax.specs.declared.context.Chirality.TheVariants.{Prd, Cns, Ext}
use Rattle.syntax.specs.declared.types.Ty.{Ty}
use Rattle.syntax.specs.declared.types.Ty.TheVariants.{I64}
use Rattle.syntax.specs.declared.op.BinOp.{BinOp}
use Rattle.syntax.specs.declared.ifc.IfSort.{IfSort}
use Rattle.model.specs.Syntax.{Stmt, Clauses}
use Rattle.model.specs.Renaming.{Renaming, renaming}
use Rattle.model.specs.Rules.{Linearize, bind, freshen_unless_lem, move_behind_lem, rule_call, rule_let, rule_switch, rule_create, rule_invoke, rule_literal}
use Rattle.model.specs.Rules.{rule_op, rule_if_c, rule_print_i64, rule_exit, rule_clause}
use Rattle.pass_work_spec.specs.Work.{Work, bindings, own, owns, used, used_option, used_all_lem, kept, moved_behind, respelled_unless, Working, work_call}
use Rattle.pass_work_spec.specs.Work.{work_let, work_switch, work_create, work_invoke, work_literal, work_op, work_if_c, work_print_i64, work_exit, work_clause}

module _ (W : Work) (n m : ℕ) where
  pub same-Call : (label : Identifier) (args args₀ : Context) → used_all_lem W args ≡ args₀ → work_call label args W n m ≡ rule_call label args₀ (bindings W) m
  unfolding work_call
  same-Call label args args₀ e = rw e

  pub same-Invoke : (var var₀ tag : Identifier) (ty : Ty) (args args₀ : Context) → used W var ≡ var₀ → used_all_lem W args ≡ args₀
      → work_invoke var tag ty args W n m ≡ rule_invoke var₀ tag ty args₀ (bindings W) m
  unfolding work_invoke
  same-Invoke var var₀ tag ty args args₀ d e = rw (d, e)

  pub same-Let : (var : Identifier) (ty : Ty) (tag : Identifier) (args args₀ : Context) (f : Working Stmt) (g : Linearize Stmt) (s s₀ : List VarId)
      → used_all_lem W args ≡ args₀ → bindings (kept s W) ≡ filter_by_set_lem s₀ (bindings W)
      → (let new = filter_by_set_lem s₀ (bindings W) in
      let m₁ = (freshen_unless_lem (same_context (bindings W) (new ++ args₀)) args₀ (ids new) m).1 in
      f (kept s W ++ (own n (bind var Prd ty) ∷ [])) (n + 1) m₁ ≡ g (new ++ (bind var Prd ty ∷ [])) m₁)
      → work_let var ty tag args f s W n m ≡ rule_let var ty tag args₀ g s₀ (bindings W) m
  unfolding work_let
  same-Let var ty tag args args₀ f g s s₀ d e h = rw (d, e, h)

  pub same-Switch : (var var₀ : Identifier) (ty : Ty) (f : Working Clauses) (g : Linearize Clauses) (s s₀ : List VarId)
      → used W var ≡ var₀ → bindings (kept s W) ≡ filter_by_set_lem s₀ (bindings W)
      → f (kept s W) n m ≡ g (filter_by_set_lem s₀ (bindings W)) m
      → work_switch var ty f s W n m ≡ rule_switch var₀ ty g s₀ (bindings W) m
  unfolding work_switch
  same-Switch var var₀ ty f g s s₀ d e h = rw (d, e, h)

  pub same-Create : (var : Identifier) (ty : Ty) (f : Working Clauses) (g : Linearize Clauses) (c c₀ : List VarId) (k : Working Stmt) (l : Bool → Renaming → Linearize Stmt) (s s₀ : List VarId)
      → (let N = filter_by_set_lem s₀ (bindings W) in
      let E = filter_by_set_lem c₀ (move_behind_lem (length N) (bindings W)) in
      let W₁ = kept c (moved_behind (length (kept s W)) W) in
      let right = same_context (bindings W) (N ++ E) in
      let (T, m₂) = freshen_unless_lem right N (ids E) (g E m).1 in
      (bindings (kept s W) ≡ N)
      → (bindings W₁ ≡ E)
      → (f W₁ n m ≡ g E m)
      → (k (respelled_unless right (kept s W) T ++ (own n (bind var Cns ty) ∷ [])) (n + 1) m₂ ≡ l right (renaming N T) (T ++ (bind var Cns ty ∷ [])) m₂)
      → work_create var ty f c k s W n m ≡ rule_create var ty g c₀ l s₀ (bindings W) m)
  unfolding work_create
  same-Create var ty f g c c₀ k l s s₀ d e h i = rw (d, e, h, i)

  pub same-Literal : (lit : ℤ) (var : Identifier) (f : Working Stmt) (g : Linearize Stmt) (s s₀ : List VarId)
      → bindings (kept s W) ≡ filter_by_set_lem s₀ (bindings W)
      → f (kept s W ++ (own n (bind var Ext I64) ∷ [])) (n + 1) m ≡ g (filter_by_set_lem s₀ (bindings W) ++ (bind var Ext I64 ∷ [])) m
      → work_literal lit var f s W n m ≡ rule_literal lit var g s₀ (bindings W) m
  unfolding work_literal
  same-Literal lit var f g s s₀ e h = rw (e, h)

  pub same-Op : (fst fst₀ : Identifier) (op : BinOp) (snd snd₀ var : Identifier) (f : Working Stmt) (g : Linearize Stmt) (s s₀ : List VarId)
      → used W fst ≡ fst₀ → used W snd ≡ snd₀
      → (let z = fst.id ∷ snd.id ∷ s in
      let new = filter_by_set_lem (fst₀.id ∷ snd₀.id ∷ s₀) (bindings W) in
      (bindings (kept z W) ≡ new)
      → (f (kept z W ++ (own n (bind var Ext I64) ∷ [])) (n + 1) m ≡ g (new ++ (bind var Ext I64 ∷ [])) m)
      → work_op fst op snd var f s W n m ≡ rule_op fst₀ op snd₀ var g s₀ (bindings W) m)
  unfolding work_op
  same-Op fst fst₀ op snd snd₀ var f g s s₀ c d e h = rw (c, d, e, h)

  pub same-IfC : (sort : IfSort) (fst fst₀ : Identifier) (snd snd₀ : Option Identifier) (f₁ f₂ : Working Stmt) (g₁ g₂ : Linearize Stmt)
      → used W fst ≡ fst₀ → used_option W snd ≡ snd₀
      → f₁ W n m ≡ g₁ (bindings W) m → (let m₁ = (g₁ (bindings W) m).1 in f₂ W n m₁ ≡ g₂ (bindings W) m₁)
      → work_if_c sort fst snd f₁ f₂ W n m ≡ rule_if_c sort fst₀ snd₀ g₁ g₂ (bindings W) m
  unfolding work_if_c
  same-IfC sort fst fst₀ snd snd₀ f₁ f₂ g₁ g₂ d e h i = rw (d, e, h, i)

  pub same-PrintI64 : (newline : Bool) (var var₀ : Identifier) (f : Working Stmt) (g : Linearize Stmt) (s s₀ : List VarId)
      → used W var ≡ var₀
      → (let z = var.id ∷ s in
      let new = filter_by_set_lem (var₀.id ∷ s₀) (bindings W) in
      (bindings (kept z W) ≡ new)
      → (f (kept z W) n m ≡ g new m)
      → work_print_i64 newline var f s W n m ≡ rule_print_i64 newline var₀ g s₀ (bindings W) m)
  unfolding work_print_i64
  same-PrintI64 newline var var₀ f g s s₀ d e h = rw (d, e, h)

  pub same-Exit : (var var₀ : Identifier) → used W var ≡ var₀ → work_exit var W n m ≡ rule_exit var₀ (bindings W) m
  unfolding work_exit
  same-Exit var var₀ d = rw d

  pub same-Clause : (xtor : Identifier) (context : Context) (before : Bool) (f : Working Stmt) (g : Linearize Stmt) (k : Working Clauses) (l : Linearize Clauses)
      → (let Γ = cond before (context ++ bindings W) (bindings W ++ context) in
      (f (cond before (owns n context ++ W) (W ++ owns n context)) (n + length context) m ≡ g Γ m)
      → (k W n (g Γ m).1 ≡ l (bindings W) (g Γ m).1)
      → work_clause xtor context before f k W n m ≡ rule_clause xtor context before g l (bindings W) m)
  unfolding work_clause
  same-Clause xtor context before f g k l h i = rw (h, i)
