-- Rows a to e of document 01, under one theorem. `model` has them in its table of all rows.
use Rattle.std.specs.Prelude.{◌≡◌, refl, List, [], ◌∷◌, map, ℕ}
use Rattle.syntax.specs.Context.{Context, ids, empty_binding, rebound}
use Rattle.syntax.specs.Filter.{filter_by_set_lem, filtered, fill, retained}
use Rattle.syntax.specs.Fresh.{freshen, fresh}
use Rattle.syntax.specs.declared.names.VarId.{VarId}
use Rattle.syntax.specs.declared.context.ContextBinding.{ContextBinding}

-- each element has its proof
infixr 20 ◌&◌
pub data All {A : Type 0} (P : A → Type 0) : List A → Type 0 where
  done : All P []
  ◌&◌ : {a : A} {rest : List A} → P a → All P rest → All P (a ∷ rest)

-- document 01, "Rows": IDs only; names and types agree
abbrev pub var : ℕ → VarId
var n = record { 0 = n }

abbrev pub binding : ℕ → ContextBinding
binding n = rebound empty_binding (record { name = record { 0 = 0 }; id = var n })

-- a row: what is filtered, by which set, and what comes out; or what is freshened, against what and from which max_id,
-- what comes out and the closing max_id
pub data Row : Type 0 where
  filtering : (context set result : List ℕ) → Row
  freshening : (context clashes : List ℕ) (max_id : ℕ) (result : List ℕ) (closing : ℕ) → Row

abbrev pub ids_and_max : Context × ℕ → List VarId × ℕ
ids_and_max w = (ids w.0, w.1)

abbrev pub Claim : Row → Type 0
Claim (filtering Γ s result) = ids (filter_by_set_lem (map var s) (map binding Γ)) ≡ map var result
Claim (freshening Γ clashes m result closing) = ids_and_max (freshen (map binding Γ) (map var clashes) m) ≡ (map var result, closing)

abbrev pub rows : List Row
rows =
    -- a. Filter [1 2 3 4] by {2,4}: [4 2]
    filtering (1 ∷ 2 ∷ 3 ∷ 4 ∷ []) (2 ∷ 4 ∷ []) (4 ∷ 2 ∷ [])
    -- b. [1 2 3 4 5] by {3,4,5}: [5 4 3]
    ∷ filtering (1 ∷ 2 ∷ 3 ∷ 4 ∷ 5 ∷ []) (3 ∷ 4 ∷ 5 ∷ []) (5 ∷ 4 ∷ 3 ∷ [])
    -- c. [] by {1}: []
    ∷ filtering [] (1 ∷ []) []
    -- d. [1 2 3] by {1}: [1]
    ∷ filtering (1 ∷ 2 ∷ 3 ∷ []) (1 ∷ []) (1 ∷ [])
    -- e. Freshen [1 1 2], clashes {2}, max_id 5: [1 6 7], max_id 7
    ∷ freshening (1 ∷ 1 ∷ 2 ∷ []) (2 ∷ []) 5 (1 ∷ 6 ∷ 7 ∷ []) 7
    ∷ []

pub rows_hold : All Claim rows
unfolding retained fill filtered freshen fresh
rows_hold = refl & refl & refl & refl & refl & done
