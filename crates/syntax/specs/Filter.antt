-- The rule of `filter_by_set` (context.rs), over any elements and any test.
use Rattle.std.specs.Prelude.{Bool, cond, List, [], ◌∷◌, reverse, length, take, drop}
use Rattle.syntax.specs.Sets.{elem}
use Rattle.syntax.specs.Context.{Context, id_of}
use Rattle.syntax.specs.declared.names.VarId.{VarId}
use Rattle.syntax.specs.declared.context.ContextBinding.{ContextBinding}

module _ {A : Type 0} (p : A → Bool) where
  -- the retained ones, in order
  unfoldable pub retained : List A → List A
  retained [] = []
  retained (x ∷ xs) = cond (p x) (x ∷ retained xs) (retained xs)

  -- place by place: a retained one stays, a free place takes the next spare. (There are as many spares as free places.)
  unfoldable pub fill : List A → (spares : List A) → List A
  fill [] spares = spares
  fill (x ∷ xs) [] = cond (p x) (x ∷ fill xs []) (fill xs [])
  fill (x ∷ xs) (s ∷ spares) = cond (p x) (x ∷ fill xs (s ∷ spares)) (s ∷ fill xs spares)

  -- document 01, "The Rust": k bindings are retained; retained ones at places below k stay; the free places below k,
  -- ascending, take the retained ones at k and beyond, last first
  unfoldable pub filtered : List A → List A
  filtered xs =
      let k = length (retained xs) in
      fill (take k xs) (reverse (retained (drop k xs)))

-- is the binding's variable in the set?
abbrev pub in_set : List VarId → ContextBinding → Bool
in_set s b = elem (id_of b) s

abbrev pub filter_by_set_lem : List VarId → Context → Context
filter_by_set_lem s Γ = filtered (in_set s) Γ
