-- The store: the bytes of a stepper's state, and which bytes are those of a state (question 14).
use Rattle.std.specs.Prelude.{ℕ, zero, suc, ◌+◌, ◌*◌, ◌^◌, ◌<◌, ◌≡◌, Bool, true, false, ◌&&◌, cond, List, [], ◌∷◌, ◌++◌, map, ltb, eqb, length, take, drop, replicate}
use Rattle.std.proofs.Math.Option.{Option, none, some}
use Rattle.std.specs.Int.{w64}
use Rattle.std.proofs.Common.{SFits, to_z}
use Rattle.syntax.specs.declared.names.VarId.{VarId}
use Rattle.model.specs.Syntax.{Prog}
use Rattle.model.specs.Machine.{Value, int, cell, outside, Entries}
use Rattle.image_spec.specs.Parse.{got, and_then, Parser, both, times, each, All, code, number, field, zeros}
use Rattle.image_spec.specs.Image.{if_got}
use Rattle.image_spec.specs.Records.{Record, definition, substitute, call, let', switch, create, invoke, literal, op, ifc, clause', print, exit}
use Rattle.step_spec.specs.Located.{Kept, held, made, Located, records_in}
use Rattle.step_slots.specs.Slots.{Slot, slot, slot_bytes, slot_parser, is_cell_lem, value_slot}

-- ── the bytes of a state ──

abbrev pub size_of : Kept → ℕ
size_of (held tag fields) = 1 + length fields
size_of (made i entries) = 1 + length entries

-- the place of cell k's own slot among the slots of the cells, from 0. An entry refers to a cell by it, so that a step finds the cell at once;
-- the cell's slot has its number
abbrev pub place_of : List Kept → ℕ → ℕ
place_of [] k = 0
place_of (c ∷ K) zero = 0
place_of (c ∷ K) (suc k) = size_of c + place_of K k

abbrev pub entry_slot : (of : ℕ → ℕ) → VarId × Value → Slot
entry_slot of e = value_slot of e.0.0 e.1

-- a cell's own slot, and those of what it holds, which follow it
abbrev pub Block : Type 0
Block = Slot × List Slot

abbrev pub block_of : (of : ℕ → ℕ) → ℕ → Kept → Block
block_of of k (held tag fields) = (slot 3 tag.0 k, map (value_slot of 0) fields)
block_of of k (made i entries) = (slot 4 i k, map (entry_slot of) entries)

-- cells are numbered from 0
abbrev pub blocks_of : (of : ℕ → ℕ) → ℕ → List Kept → List Block
blocks_of of k [] = []
blocks_of of k (c ∷ K) = block_of of k c ∷ blocks_of of (suc k) K

abbrev pub block_slots : Block → List Slot
block_slots b = b.0 ∷ b.1

unfoldable pub heap_of : List Kept → List Slot
heap_of K = each block_slots (blocks_of (place_of K) 0 K)

unfoldable pub environment_of : List Kept → Entries → List Slot
environment_of K ε = map (entry_slot (place_of K)) ε

-- a state as its slots
pub record Raw : Type 0 where
  pub position : ℕ
  pub has_ended : ℕ
  pub has_stopped : ℕ
  pub cells : ℕ
  pub heap : List Slot
  pub environment : List Slot

abbrev pub bit : Bool → ℕ
bit false = 0
bit true = 1

unfoldable pub raw_of : Located → Raw
raw_of l = record {
  position = l.position;
  has_ended = bit l.has_ended;
  has_stopped = bit l.has_stopped;
  cells = length l.cells;
  heap = heap_of l.cells;
  environment = environment_of l.cells l.environment;
}

-- the first 64 bytes:
-- bytes 0-3    position: the place of the statement's record
-- byte 4       ended flag, 0 or 1
-- byte 5       stopped flag, 0 or 1
-- bytes 6-7    zero
-- bytes 8-15   how many cells
-- bytes 16-23  how many slots of cells: the cells and what they hold. They begin at byte 64
-- bytes 24-31  how many entries the environment has. They follow the slots of the cells
-- bytes 32-63  zero
abbrev pub Header : Type 0
Header = ℕ × (ℕ × (ℕ × (Unit {0} × (ℕ × (ℕ × (ℕ × Unit {0}))))))

abbrev pub header_of : Raw → Header
header_of r = (r.position, (r.has_ended, (r.has_stopped, (tt, (r.cells, (length r.heap, (length r.environment, tt)))))))

abbrev pub header_bytes : Header → List ℕ
header_bytes h =
    field 4 h.0
    ++ ((h.1.0 ∷ [])
    ++ ((h.1.1.0 ∷ [])
    ++ (replicate 2 0
    ++ (field 8 h.1.1.1.1.0
    ++ (field 8 h.1.1.1.1.1.0
    ++ (field 8 h.1.1.1.1.1.1.0
    ++ replicate 32 0))))))

-- document 02, A.2: it takes exactly 64 bytes, and 16 for each cell and for each entry of the environment or a cell
abbrev pub raw_bytes : Raw → List ℕ
raw_bytes r = header_bytes (header_of r) ++ (each slot_bytes r.heap ++ each slot_bytes r.environment)

unfoldable pub store_bytes : Located → List ℕ
store_bytes l = raw_bytes (raw_of l)

-- .. the entries of the cells
abbrev pub held_in : List Kept → ℕ
held_in [] = 0
held_in (held tag fields ∷ K) = length fields + held_in K
held_in (made i entries ∷ K) = length entries + held_in K

-- .. in one number (proofs/Sizes.antt: the bytes are as many)
abbrev pub store_size : Located → ℕ
store_size l = 64 + 16 * (length l.cells + held_in l.cells + length l.environment)

-- ── the states that have bytes ──

-- where there are n cells
abbrev pub ValueFits : (n : ℕ) → Value → Type 0
ValueFits n (int z) = SFits w64 z
ValueFits n (cell k) = k < n
ValueFits n (outside m) = m < 256

abbrev pub EntryFits : (n : ℕ) → VarId × Value → Type 0
EntryFits n e = (e.0.0 < 256 ^ 4) × ValueFits n e.1

-- ── which bytes are those of a state ──

abbrev pub header_parser : Parser ℕ Header
header_parser = both (number 4) (both (code 1) (both (code 1) (both (zeros 2) (both (number 8) (both (number 8) (both (number 8) (zeros 32)))))))

abbrev pub raw_from : Header → List Slot → List Slot → Raw
raw_from h hs es = record { position = h.0; has_ended = h.1.0; has_stopped = h.1.1.0; cells = h.1.1.1.1.0; heap = hs; environment = es }

-- document 02, A.2: a store of under 64 bytes or whose counts .. point outside it
unfoldable pub raw_parser : Parser ℕ Raw
raw_parser s =
    and_then (header_parser s) λ h m.
    and_then (times h.1.1.1.1.1.0 slot_parser m) λ hs n.
    and_then (times h.1.1.1.1.1.1.0 slot_parser n) λ es r.
    got (raw_from h hs es) r

-- the slots before the first cell, and the cells with what they hold
unfoldable pub leading : List Slot → List Slot
leading [] = []
leading (s ∷ ss) = cond (is_cell_lem s) [] (s ∷ leading ss)

unfoldable pub blocks : List Slot → List Block
blocks [] = []
blocks (s ∷ ss) = cond (is_cell_lem s) ((s, leading ss) ∷ blocks ss) (blocks ss)

-- how many cells begin in these slots
unfoldable pub cells_in : List Slot → ℕ
cells_in [] = 0
cells_in (s ∷ ss) = cond (is_cell_lem s) (suc (cells_in ss)) (cells_in ss)

abbrev pub first_slot : (Slot → Bool) → List Slot → Bool
first_slot f [] = false
first_slot f (s ∷ ss) = f s

abbrev pub every_slot : (Slot → Bool) → List Slot → Bool
every_slot f [] = true
every_slot f (s ∷ ss) = f s && every_slot f ss

abbrev pub first_record : (Record → Bool) → List Record → Bool
first_record f [] = false
first_record f (r ∷ rs) = f r

abbrev pub is_a_statement : Record → Bool
is_a_statement (definition x Γ) = false
is_a_statement (substitute ps) = true
is_a_statement (call x Γ) = true
is_a_statement (let' v t g Γ) = true
is_a_statement (switch v t n) = true
is_a_statement (create v t e n) = true
is_a_statement (invoke v g t Γ) = true
is_a_statement (literal z v) = true
is_a_statement (op f o s v) = true
is_a_statement (ifc c f s) = true
is_a_statement (clause' x Γ) = false
is_a_statement (print n v) = true
is_a_statement (exit v) = true

abbrev pub is_a_create : Record → Bool
is_a_create (definition x Γ) = false
is_a_create (substitute ps) = false
is_a_create (call x Γ) = false
is_a_create (let' v t g Γ) = false
is_a_create (switch v t n) = false
is_a_create (create v t e n) = true
is_a_create (invoke v g t Γ) = false
is_a_create (literal z v) = false
is_a_create (op f o s v) = false
is_a_create (ifc c f s) = false
is_a_create (clause' x Γ) = false
is_a_create (print n v) = false
is_a_create (exit v) = false

-- document 02, A.2: .. positions .. point outside .. the image, or at a wrong kind of record
unfoldable pub statement_at : Prog → ℕ → Bool
statement_at P i = first_record is_a_statement (drop i (records_in P))

unfoldable pub create_at : Prog → ℕ → Bool
create_at P i = first_record is_a_create (drop i (records_in P))

abbrev pub KeptFits : Prog → (n : ℕ) → Kept → Type 0
KeptFits P n (held tag fields) = (tag.0 < 256 ^ 2) × All (ValueFits n) fields
KeptFits P n (made i entries) = (create_at P i ≡ true) × All (EntryFits n) entries

-- a state of this program that has bytes: its places are those of such records, its cells are there, its numbers fit
pub record Fits (P : Prog) (l : Located) : Type 0 where
  pub position : statement_at P l.position ≡ true
  pub cells : All (KeptFits P (length l.cells)) l.cells
  pub environment : All (EntryFits (length l.cells)) l.environment

module _ (P : Prog) (heap : List Slot) where
  -- is it a value: an integer, a cell by the place of its slot, or an outside number (0 to 255)?
  -- document 02, A.2: .. cell numbers point outside it
  abbrev pub value_ok : (sort payload : ℕ) → Bool
  value_ok zero p = true
  value_ok (suc zero) p = first_slot is_cell_lem (drop p heap)
  value_ok (suc (suc zero)) p = ltb p 256
  value_ok (suc (suc (suc k))) p = false

  abbrev pub entry_ok : Slot → Bool
  entry_ok s = value_ok s.sort s.payload

  -- what a cell of a Let holds has no ID
  abbrev pub field_ok : Slot → Bool
  field_ok s = eqb s.id 0 && entry_ok s

  -- the cell numbered k: of a Let with a tag and values, or of a Create with the place of its record and entries
  abbrev pub cell_ok : ℕ → Block → Bool
  cell_ok k b = eqb b.0.payload k
      && cond (eqb b.0.sort 3) (ltb b.0.id (256 ^ 2) && every_slot field_ok b.1) (create_at P b.0.id && every_slot entry_ok b.1)

  abbrev pub cells_ok : ℕ → List Block → Bool
  cells_ok k [] = true
  cells_ok k (b ∷ bs) = cell_ok k b && cells_ok (suc k) bs

-- document 02, A.2: a store .. whose counts, positions or cell numbers point outside it or the image, or at a wrong kind of record
unfoldable pub formed : Prog → Raw → Bool
formed P r =
    statement_at P r.position
    && (eqb r.cells (cells_in r.heap)
    && (eqb (length (leading r.heap)) 0
    && (cells_ok P r.heap 0 (blocks r.heap)
    && every_slot (entry_ok P r.heap) r.environment)))

-- ── the state of the bytes ──

abbrev pub value_in : List Slot → (sort payload : ℕ) → Value
value_in heap zero p = int (to_z w64 p)
value_in heap (suc zero) p = cell (cells_in (take p heap))
value_in heap (suc (suc k)) p = outside p

abbrev pub field_in : List Slot → Slot → Value
field_in heap s = value_in heap s.sort s.payload

abbrev pub entry_in : List Slot → Slot → VarId × Value
entry_in heap s = (record { 0 = s.id }, value_in heap s.sort s.payload)

abbrev pub kept_in : List Slot → Block → Kept
kept_in heap b = cond (eqb b.0.sort 3) (held (record { 0 = b.0.id }) (map (field_in heap) b.1)) (made b.0.id (map (entry_in heap) b.1))

unfoldable pub state_in : Raw → Located
state_in r = record {
  position = r.position;
  environment = map (entry_in r.heap) r.environment;
  cells = map (kept_in r.heap) (blocks r.heap);
  has_ended = eqb r.has_ended 1;
  has_stopped = eqb r.has_stopped 1;
}

abbrev pub if_formed : Bool → Located → Option Located
if_formed true l = some l
if_formed false l = none

-- the state that a store's bytes begin with; nothing is question 14's no
unfoldable pub state_from : Prog → List ℕ → Option Located
state_from P s = if_got (raw_parser s) none (λ r _. if_formed (formed P r) (state_in r))
