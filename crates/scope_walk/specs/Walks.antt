-- Where a walk has come to, and the scope that it leaves.
use Rattle.std.specs.Prelude.{ℕ, ◌≡◌}
use Rattle.scope_spec.specs.declared.Verdict.{Verdict}
use Rattle.scope_places.specs.Places.{Kept}
use Rattle.scope_places.specs.declared.scope.InScope.{InScope}
use Rattle.scope_walk.specs.declared.walk.Walked.{Walked}

-- the walk has come to this place with this verdict
pub record WalkedTo (r : Walked) (place : ℕ) (v : Verdict) : Type 0 where
  pub next : r.next ≡ place
  pub verdict : r.verdict ≡ v

-- the scope is as it was, in the same array
pub record Restored (before after : InScope) : Type 0 where
  pub kept : Kept before.n before.ids.now after.ids.now
  pub n : after.n ≡ before.n
  pub same : after.ids.ghost_name ≡ before.ids.ghost_name
