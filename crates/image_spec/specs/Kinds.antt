-- What the kind of a record decides: its fixed part, and the bodies that follow. w is the number of bytes of an ID.
use Rattle.std.specs.Prelude.{ℕ, ◌+◌, ◌*◌, List, [], ◌∷◌, ◌++◌, length, get_or}
use Rattle.image_spec.specs.Parse.{each, mark}
use Rattle.image_spec.specs.Fields.{identifier_bytes, list_bytes, pair_bytes}
use Rattle.image_spec.specs.Records.{Record, definition, substitute, call, let', switch, create, invoke, literal, op, ifc, clause', print, exit}

-- document 01, "The image": the kind byte
abbrev pub kind_of : Record → ℕ
kind_of (definition x Γ) = 1
kind_of (substitute ps) = 2
kind_of (call x Γ) = 3
kind_of (let' v t g Γ) = 4
kind_of (switch v t n) = 5
kind_of (create v t e n) = 6
kind_of (invoke v g t Γ) = 7
kind_of (literal z v) = 8
kind_of (op f o s v) = 9
kind_of (ifc c f s) = 10
kind_of (clause' x Γ) = 11
kind_of (print n v) = 12
kind_of (exit v) = 13

-- one more than the last of them
abbrev pub kinds : ℕ
kinds = 14

-- the clauses that follow a record, each with its body
abbrev pub clauses_of : Record → ℕ
clauses_of (definition x Γ) = 0
clauses_of (substitute ps) = 0
clauses_of (call x Γ) = 0
clauses_of (let' v t g Γ) = 0
clauses_of (switch v t n) = n
clauses_of (create v t e n) = n
clauses_of (invoke v g t Γ) = 0
clauses_of (literal z v) = 0
clauses_of (op f o s v) = 0
clauses_of (ifc c f s) = 0
clauses_of (clause' x Γ) = 0
clauses_of (print n v) = 0
clauses_of (exit v) = 0

-- document 01, "The image": each kind has one fixed part and one number of bodies, clauses apart.
-- By kind from 0: the bytes of the fixed part (the kind byte, and what stands before its list, mark or count) without its IDs
abbrev pub plain_bytes : List ℕ
plain_bytes = 0 ∷ 3 ∷ 1 ∷ 3 ∷ 8 ∷ 6 ∷ 6 ∷ 8 ∷ 11 ∷ 8 ∷ 4 ∷ 3 ∷ 4 ∷ 3 ∷ []

-- .. how many IDs are in it (one in a type)
abbrev pub id_counts : List ℕ
id_counts = 0 ∷ 1 ∷ 0 ∷ 1 ∷ 3 ∷ 2 ∷ 2 ∷ 3 ∷ 1 ∷ 3 ∷ 1 ∷ 1 ∷ 1 ∷ 1 ∷ []

-- .. and the bodies (document 02, A.1: PrintI64 is followed by one body)
abbrev pub body_counts : List ℕ
body_counts = 0 ∷ 1 ∷ 1 ∷ 0 ∷ 1 ∷ 0 ∷ 1 ∷ 0 ∷ 1 ∷ 1 ∷ 2 ∷ 1 ∷ 1 ∷ 0 ∷ []

abbrev pub bodies : ℕ → ℕ
bodies k = get_or body_counts k 0

module _ (w : ℕ) where
  -- the length of the fixed part
  abbrev pub fixed : ℕ → ℕ
  fixed k = get_or plain_bytes k 0 + get_or id_counts k 0 * w

  -- what follows it
  abbrev pub tail_bytes : Record → List ℕ
  tail_bytes (definition x Γ) = list_bytes w Γ
  tail_bytes (substitute ps) = length ps ∷ each (pair_bytes w) ps
  tail_bytes (call x Γ) = list_bytes w Γ
  tail_bytes (let' v t g Γ) = list_bytes w Γ
  tail_bytes (switch v t n) = n ∷ []
  tail_bytes (create v t e n) = mark (list_bytes w) e ++ (n ∷ [])
  tail_bytes (invoke v g t Γ) = list_bytes w Γ
  tail_bytes (literal z v) = []
  tail_bytes (op f o s v) = []
  tail_bytes (ifc c f s) = mark (identifier_bytes w) s
  tail_bytes (clause' x Γ) = list_bytes w Γ
  tail_bytes (print n v) = []
  tail_bytes (exit v) = []
