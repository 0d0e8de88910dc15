-- Uses: the first entry that stands for a variable, if one does, and what a use is once the entry is known. Assumes nothing.
use mathlib.Core.Path.{◌≡◌, refl, sym, ap}
use mathlib.Core.Bool.{true, false}
use mathlib.Core.List.{List, [], ◌∷◌, map}
use mathlib.Core.Option.{Option, some, none}
use Prim.Native.Nat.{ℕ, zero, suc, ◌<◌}
use native.Mathlib.Omega.{arith}
use lib.ListN.{length, get_or}
use Rattle.syntax.specs.Names.{same_var_id}
use Rattle.syntax.specs.declared.names.VarId.{VarId}
use Rattle.syntax.specs.declared.names.Identifier.{Identifier}
use Rattle.syntax.specs.Context.{rebound}
use Rattle.syntax.specs.declared.context.ContextBinding.{ContextBinding}
use Rattle.pass_work_spec.specs.Work.{Work, entry_of, spelling, used, used_binding_lem}
use Rattle.pass_work_spec.specs.declared.Entry.{Entry}
use Rattle.pass_entries.specs.Entries.{entry_in}
use Rattle.pass_entries.specs.declared.entries.FlatEntry.{FlatEntry}

-- where none stands for the variable, none is found
pub entry_absent : (x : VarId) (es : List FlatEntry) → ((k : ℕ) (d : FlatEntry) → k < length es → same_var_id x (get_or es k d).source ≡ false) → entry_of x (map entry_in es) ≡ none
entry_absent x [] f = refl
entry_absent x (a ∷ es) f = rw (f 0 a (omega arith)) (entry_absent x es (λ k d h. f (suc k) d (omega arith)))

-- the one at i does, and none before it
pub entry_first : (x : VarId) (es : List FlatEntry) (i : ℕ) (e : FlatEntry) → i < length es → get_or es i e ≡ e → same_var_id x e.source ≡ true
    → ((k : ℕ) (d : FlatEntry) → k < i → same_var_id x (get_or es k d).source ≡ false) → entry_of x (map entry_in es) ≡ some (entry_in e)
entry_first x [] i e h at t f = absurd (omega arith)
entry_first x (a ∷ es) zero e h at t f = let q : a ≡ e = at in rw (q, t) refl
entry_first x (a ∷ es) (suc i) e h at t f = rw (f 0 a (omega arith)) (entry_first x es i e (omega arith) at t (λ k d l. f (suc k) d (omega arith)))

-- a use by the entry that stands for its variable
pub used_by : (W : Work) (x : Identifier) (o : Option Entry) → o ≡ entry_of x.id W → used W x ≡ spelling o x
unfolding used
used_by W x o e = ap (λ (z : Option Entry). spelling z x) (sym e)

pub bound_by : (W : Work) (b : ContextBinding) (o : Option Entry) → o ≡ entry_of b.var.id W → rebound b (spelling o b.var) ≡ used_binding_lem W b
bound_by W b o e = ap (rebound b) (sym (used_by W b.var o e))
