-- Scopes that a walk leaves as they were, and a scope that is set back behind a part that binds. Assumes nothing.
use mathlib.Core.Path.{◌≡◌, refl, ap, ◌∙◌}
use native.Mathlib.Omega.{arith}
use Rattle.scope_spec.specs.declared.Verdict.{Verdict}
use Rattle.scope_spec.specs.Walk.{Scoped}
use Rattle.scope_places.specs.Places.{scope_in, Kept}
use Rattle.scope_places.specs.Scoping.{scope_of, Entered}
use Rattle.scope_places.specs.declared.scope.InScope.{InScope}
use Rattle.scope_places.proofs.EnterLaws.{kept-all, kept_then, kept-ids}
use Rattle.scope_walk.specs.Walks.{Restored}

pub restored-same : (s : InScope) → Restored s s
restored-same s = record { kept = kept-all s.n s.ids.now; n = refl; same = refl }

pub restored-ids : {s t : InScope} → Restored s t → scope_of t ≡ scope_of s
restored-ids {s} {t} h = ap (λ n. scope_in n t.ids.now) h.n ∙ kept-ids h.kept

pub restored_then : {s t u : InScope} → Restored s t → Restored t u → Restored s u
restored_then h k = record { kept = kept_then (omega (arith, h.n)) h.kept k.kept; n = k.n ∙ h.n; same = k.same ∙ h.same }

-- what was in scope stays behind a part that binds
pub set-back : {s t u w : InScope} {v : Verdict} {x : Scoped} → Restored s t → Entered t u v x → Restored u w → Kept s.n s.ids.now w.ids.now
set-back h e k = kept_then (omega (arith, h.n)) h.kept (kept_then e.more e.kept k.kept)
