-- Which statements each of the three steps is for.
use Rattle.std.specs.Prelude.{ℕ, ◌≡◌, ◌≤◌, Bool, true, ◌||◌, eqb}

-- document 01, "The image": 5 Switch, 6 Create. Its clauses come before its step.
abbrev pub HasClauses : (kind : ℕ) → Type 0
HasClauses k = (5 ≤ k) × (k ≤ 6)

-- document 01, "The image": 4 Let, 8 Literal, 9 Op; document 02, A.1: 12 PrintI64. It goes on with its next, in a context of its own.
abbrev pub proceeds : (kind : ℕ) → Bool
proceeds k = eqb k 4 || (eqb k 8 || (eqb k 9 || eqb k 12))

abbrev pub Proceeds : (kind : ℕ) → Type 0
Proceeds k = proceeds k ≡ true

-- document 01, "The image": 3 Call, 7 Invoke, 10 IfC; document 02, A.1: 13 Exit. It binds nothing, and its bodies have the context as it is.
abbrev pub Settles : (kind : ℕ) → Type 0
Settles k = (eqb k 3 || (eqb k 7 || (eqb k 10 || eqb k 13))) ≡ true
