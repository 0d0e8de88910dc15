-- The first 64 bytes of a store as code holds them, and the state that they are said of.
use Rattle.std.specs.Prelude.{ℕ, zero, suc, ◌+◌, ◌*◌, ◌≤◌, ◌≡◌, Bool, true, false, Option, Some, None, List, length}
use Rattle.image_spec.specs.Parse.{Parsed, refused, got}
use Rattle.step_slots.specs.Slots.{Slot}
use Rattle.step_slots.specs.Views.{slots_at, all_slots}
use Rattle.step_spec.specs.Located.{Located}
use Rattle.step_spec.specs.Store as store
use Rattle.step_spec.specs.Store.{bit}
use Rattle.step_header.specs.declared.Header.{Header}

-- the numbers of the 64 bytes; they are a header's where the two flags are 0 or 1
abbrev pub tuple_with : (position ended stopped cells heap entries : ℕ) → store.Header
tuple_with position ended stopped cells heap entries = (position, (ended, (stopped, (tt, (cells, (heap, (entries, tt)))))))

abbrev pub tuple_of : Header → store.Header
tuple_of h = tuple_with h.position (bit h.ended) (bit h.stopped) h.cells h.heap h.entries

-- a byte that is a flag
abbrev pub flag_of : ℕ → Option Bool
flag_of zero = Some false
flag_of (suc zero) = Some true
flag_of (suc (suc n)) = None

-- what a header's parser says where code reads r, with m left
abbrev pub read_as : Option Header → List ℕ → Parsed ℕ store.Header
read_as None m = refused
read_as (Some h) m = got (tuple_of h) m

-- the header is this state's
abbrev pub Heads : Header → Located → Type 0
Heads h l = tuple_of h ≡ store.header_of (store.raw_of l)

-- the slots of the cells and of the environment, where the header says that they are
abbrev pub heap_in : List ℕ → Header → List Slot
heap_in s h = slots_at s 64 h.heap

abbrev pub entries_in : List ℕ → Header → List Slot
entries_in s h = slots_at s (64 + 16 * h.heap) h.entries

-- the store has the slots that the header says. (Asked where a `State` is made, which carries it from then on, or of a store that is written then.)
pub record Holds (s : List ℕ) (h : Header) : Type 0 where
  pub inside : 64 + 16 * (h.heap + h.entries) ≤ length s
  pub heap : all_slots (heap_in s h) ≡ true
  pub entries : all_slots (entries_in s h) ≡ true
  pub cells : h.cells ≤ h.heap
