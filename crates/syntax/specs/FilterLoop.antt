-- `filter_by_set` as the Rust's loop runs (context.rs), over any elements and any test. (proofs/FilterLoops.antt: it is `filtered`.)
use Rattle.std.specs.Prelude.{ℕ, zero, suc, Bool, true, false, List, [], ◌∷◌}
use Rattle.std.proofs.Math.Option.{Option, none, some}

module _ {A : Type 0} (p : A → Bool) where
  -- the elements beyond a position with those popped that are not kept: the last that is kept, and what stands before it
  abbrev pub before : A → (kept : Bool) → Option (List A × A) → Option (List A × A)
  before x kept (some r) = some (x ∷ r.0, r.1)
  before x true none = some ([], x)
  before x false none = none

  unfoldable pub last_kept : List A → Option (List A × A)
  last_kept [] = none
  last_kept (x ∷ xs) = before x (p x) (last_kept xs)

  -- at most n positions, from one on: keep the element there, or move the last that is kept into its place (`swap_remove`), or be done
  unfoldable pub filter_loop : ℕ → List A → List A
  filter_loop zero xs = []
  filter_loop (suc n) [] = []
  filter_loop (suc n) (x ∷ xs) =
      elim (p x) [
        | true ↦ x ∷ filter_loop n xs
        | false ↦ elim (last_kept xs) [ none ↦ [] | some r ↦ r.1 ∷ filter_loop n r.0 ]
      ]
