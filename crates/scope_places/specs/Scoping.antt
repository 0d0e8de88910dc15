-- The scopes that the code holds, and what a use and a binder make of them.
use Rattle.std.specs.Prelude.{◌≤◌, ◌≡◌, List, length}
use Rattle.std.specs.Int.Bits.{bit_or}
use Rattle.syntax.specs.Arrays.{set_of}
use Rattle.syntax.specs.declared.names.VarId.{VarId}
use Rattle.syntax.specs.declared.sets.IdSet.{IdSet}
use Rattle.scope_spec.specs.declared.Verdict.{Verdict}
use Rattle.scope_spec.specs.Walk.{Scoped, max_scope, use_all}
use Rattle.scope_spec.specs.FreeRows.{mask_of}
use Rattle.scope_places.specs.Places.{scope_in, Kept}
use Rattle.scope_places.specs.declared.scope.InScope.{InScope}
use Rattle.scope_places.specs.declared.scoping.Using.{Using}

-- a scope of at most 64 IDs. (No field of `IdSet`, which holds up to 128: of a set that is the scope of a list. `count`
-- follows from the set's `size` and `fits`, and is here under the name by which proofs go.)
pub record Scope (x : IdSet) : Type 0 where
  pub count : x.len ≡ length (set_of x)
  pub small : x.len ≤ max_scope

-- ── the scope in a lent array ──

abbrev pub scope_of : InScope → List VarId
scope_of s = scope_in s.n s.ids.now

-- these are used: their places, and the verdict
abbrev pub used_all_lem : (scope used : List VarId) → Using → Using
used_all_lem Δ xs u = record { mask = bit_or u.mask (mask_of xs Δ); verdict = use_all Δ xs u.verdict }

abbrev pub scoped_of : InScope → Verdict → Scoped
scoped_of s v = record { scope = scope_of s; verdict = v }

-- this scope is reached, with this verdict: it stands in the same array, behind those that were in scope before
pub record Entered (before after : InScope) (v : Verdict) (x : Scoped) : Type 0 where
  pub is : scoped_of after v ≡ x
  pub kept : Kept before.n before.ids.now after.ids.now
  pub more : before.n ≤ after.n
  pub same : after.ids.ghost_name ≡ before.ids.ghost_name
