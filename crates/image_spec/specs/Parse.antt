-- Parsers that take a value from the front of a list, over any symbols (bytes, and flat records), and what is written of the same values.
use Rattle.std.specs.Prelude.{ℕ, zero, suc, ◌+◌, ◌*◌, ◌/◌, ◌%◌, List, [], ◌∷◌, ◌++◌, Bool, true, false, leb}
use Rattle.std.proofs.Math.Option.{Option, none, some}

-- the value read and what is left, or a refusal
pub data Parsed (X A : Type 0) : Type 0 where
  refused : Parsed X A
  got : A → List X → Parsed X A

abbrev pub Parser : Type 0 → Type 0 → Type 0
Parser X A = List X → Parsed X A

abbrev pub and_then : {X A B : Type 0} → Parsed X A → (A → List X → Parsed X B) → Parsed X B
and_then refused k = refused
and_then (got a l) k = k a l

abbrev pub only_if : {X A : Type 0} → Bool → Parsed X A → Parsed X A
only_if true r = r
only_if false r = refused

-- the value, changed by f
abbrev pub via : {X A B : Type 0} → (A → B) → Parser X A → Parser X B
via f p l = and_then (p l) (λ a m. got (f a) m)

-- one value after the other
abbrev pub both : {X A B : Type 0} → Parser X A → Parser X B → Parser X (A × B)
both p q l = and_then (p l) (λ a m. and_then (q m) (λ b n. got (a, b) n))

-- n values, one after the other
abbrev pub times : {X A : Type 0} → ℕ → Parser X A → Parser X (List A)
times zero p l = got [] l
times (suc n) p l = and_then (p l) (λ a m. and_then (times n p m) (λ xs n. got (a ∷ xs) n))

abbrev pub each : {X A : Type 0} → (A → List X) → List A → List X
each e [] = []
each e (a ∷ xs) = e a ++ each e xs

-- each has the property
abbrev pub All : {A : Type 0} → (A → Type 0) → List A → Type 0
All P [] = Unit {0}
All P (a ∷ xs) = P a × All P xs

-- what was read where nothing is left
abbrev pub whole : {X A : Type 0} → Parsed X A → Option A
whole refused = none
whole (got a []) = some a
whole (got a (b ∷ m)) = none

-- a byte of at most n
abbrev pub code : ℕ → Parser ℕ ℕ
code n [] = refused
code n (b ∷ l) = only_if (leb b n) (got b l)

-- document 01, "The image": fields are little-endian
abbrev pub number : ℕ → Parser ℕ ℕ
number zero l = got 0 l
number (suc w) l = and_then (code 255 l) (λ b m. and_then (number w m) (λ h n. got (b + 256 * h) n))

abbrev pub field : ℕ → ℕ → List ℕ
field zero n = []
field (suc w) n = n % 256 ∷ field w (n / 256)

-- n zero bytes
abbrev pub zeros : ℕ → Parser ℕ (Unit {0})
zeros zero l = got tt l
zeros (suc n) l = and_then (code 0 l) (λ _ m. zeros n m)

-- the value with a number, counted from 0
abbrev pub numbered : {A : Type 0} → List A → ℕ → Option A
numbered [] k = none
numbered (a ∷ vs) zero = some a
numbered (a ∷ vs) (suc k) = numbered vs k

abbrev pub or_refused : {X A : Type 0} → Option A → List X → Parsed X A
or_refused none l = refused
or_refused (some a) l = got a l

-- a byte that stands for one of these values, from 0
abbrev pub one_of : {A : Type 0} → List A → Parser ℕ A
one_of vs [] = refused
one_of vs (b ∷ l) = or_refused (numbered vs b) l

-- a count of at most `limit`, then as many values
abbrev pub counted : {A : Type 0} → ℕ → Parser ℕ A → Parser ℕ (List A)
counted limit p l = and_then (code limit l) (λ n m. times n p m)

-- byte 0, or byte 1 and a value
abbrev pub marked : {A : Type 0} → Parser ℕ A → Parser ℕ (Option A)
marked p [] = refused
marked p (zero ∷ l) = got none l
marked p (suc zero ∷ l) = via some p l
marked p (suc (suc b) ∷ l) = refused

abbrev pub mark : {A : Type 0} → (A → List ℕ) → Option A → List ℕ
mark e none = 0 ∷ []
mark e (some a) = 1 ∷ e a

abbrev pub Marked : {A : Type 0} → (A → Type 0) → Option A → Type 0
Marked P none = Unit {0}
Marked P (some a) = P a
