-- Sets with room. Assumes nothing.
use Prim.Native.Nat.{ℕ, ◌-◌, ◌<◌}
use mathlib.Core.Path.{◌≡◌, sym, ap, ◌∙◌}
use mathlib.Core.List.{List, [], ◌∷◌, ◌++◌, append-nil, append_assoc}
use native.Mathlib.Omega.{arith}
use lib.ListN.{length, length-append}
use Rattle.syntax.specs.Arrays.{set_of, SetHolds}
use Rattle.syntax.specs.declared.names.VarId.{VarId}
use Rattle.syntax.specs.declared.sets.IdSet.{IdSet}
use Rattle.annotate_uses.specs.Sets.{Room}

-- more IDs behind those that are there
abbrev pub behind : List VarId → List VarId → List VarId
behind xs s = s ++ xs

abbrev pub one_behind : VarId → List VarId → List VarId
one_behind x s = s ++ (x ∷ [])

pub behind-step : (x : VarId) (xs s : List VarId) → behind (x ∷ xs) s ≡ behind xs (one_behind x s)
behind-step x xs s = sym (append_assoc s (x ∷ []) xs)

pub behind_none : (s : List VarId) → behind [] s ≡ s
behind_none s = append-nil s

pub room-more : {a b : IdSet} {n : ℕ} (x : VarId) → Room a n → 0 < n → SetHolds b (set_of a ++ (x ∷ [])) → Room b (n - 1)
room-more {a} {b} {n} x r h e = record {
  count = e.count ∙ ap length (sym e.list);
  small = omega (arith, r.count, r.small, e.count, length-append (set_of a) (x ∷ []));
}

pub room-holds : {a : IdSet} {n : ℕ} {xs : List VarId} → Room a n → xs ≡ set_of a → SetHolds a xs
room-holds r e = record { count = r.count ∙ ap length (sym e); list = sym e }
