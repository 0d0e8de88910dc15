-- What is written where a clause is entered, and where the run ends, as the code has it. Assumes nothing.
use Prim.Native.Nat.{ℕ, ◌+◌, ◌*◌}
use mathlib.Core.Path.{◌≡◌, sym, ap, ap₂, ◌∙◌, subst}
use mathlib.Core.List.{List, [], ◌++◌, map}
use native.Mathlib.Omega.{arith}
use lib.ListN.{length, take, drop}
use lib.Seq.{sets, length-sets, take_all}
use Rattle.std.specs.Prelude.{Option as Maybe, Some, None, Result, Err}
use Rattle.syntax.specs.declared.names.VarId.{VarId}
use Rattle.image_spec.specs.Parse.{each}
use Rattle.image_directory.specs.declared.Frame.{Frame}
use Rattle.step_slots.specs.Slots.{Slot, slot_bytes}
use Rattle.step_slots.specs.Views.{no_slot, slots_at}
use Rattle.step_slots.proofs.SlotBytes.{slots_length, slots-count}
use Rattle.step_spec.specs.Events.{event_head}
use Rattle.step_header.specs.declared.Header.{Header}
use Rattle.step_header.specs.Headers.{heap_in}
use Rattle.step_gather.specs.Gathering.{renamed, shown_as}
use Rattle.step_gather.proofs.Renaming.{renamed-length}
use Rattle.step_rows.specs.Rows.{ids_of}
use Rattle.step_cells.specs.Cells.{Cell, no_cell_lem, cell_in'}
use Rattle.step_cells.proofs.HeldLaws.{no-reference}
use Rattle.step_write.specs.declared.Step.{Step}
use Rattle.step_write.specs.declared.Stop.{Stop}
use Rattle.step_write.specs.declared.Stop.TheVariants.{NoStep}
use Rattle.step_write.specs.Writing.{Finishes}
use Rattle.step_write.proofs.Regions.{taken-put}
use Rattle.step_enter.specs.declared.Parameters.{Parameters}
use Rattle.step_enter.specs.Entering.{entered}
use Rattle.step_statement_invoke.specs.Invoking.{EntranceOf, no-closure, EntersClause, over, Invokes, of-outside, of-nothing, of-closure}

-- bytes that are so many slots, under other IDs
renamed-whole : (bytes bytes' : List ℕ) (k : ℕ) (xs : List VarId) → length xs ≡ k → length bytes ≡ 16 * k → bytes' ≡ sets bytes 0 (each slot_bytes (renamed xs (slots_at bytes 0 k)))
    → bytes' ≡ each slot_bytes (renamed xs (slots_at bytes 0 k))
renamed-whole bytes bytes' k xs n r e =
    let ts = slots_at bytes 0 k in
    let m : length (renamed xs ts) ≡ k = renamed-length xs ts (n ∙ sym (slots-count bytes 0 k)) ∙ n in
    let long : length bytes' ≡ 16 * k = ap length e ∙ (length-sets bytes 0 (each slot_bytes (renamed xs ts)) ∙ r) in
    sym (take_all (16 * k) bytes' (omega (arith, long)))
    ∙ (ap (take (16 * k)) e ∙ taken-put bytes (each slot_bytes (renamed xs ts)) (16 * k) (slots_length (renamed xs ts) ∙ ap (λ (i : ℕ). 16 * i) m) (omega (arith, r)))

pub enters-clause : (bytes : List ℕ) {store events bytes' store' events' : List ℕ} {h : Header} {at : ℕ} {cell : Cell} {body tag : ℕ} (k : ℕ) {xs : List VarId}
    {entries heap : ℕ} {shown : List ℕ} {m : Result Step Stop} → length xs ≡ k → length bytes ≡ 16 * k
    → bytes' ≡ sets bytes 0 (each slot_bytes (renamed xs (slots_at bytes 0 k))) → entries ≡ k + cell.len → heap ≡ h.heap
    → shown ≡ event_head 7 1 tag 0 cell.number
    → Finishes store events at (entered h body entries) shown (64 + 16 * heap) (bytes' ++ take (16 * cell.len) (drop cell.from store)) store' events' m
    → EntersClause store events h at cell body xs (slots_at bytes 0 k) tag store' events' m
enters-clause bytes {store} {events} {bytes'} {store'} {events'} {h} {at} {cell} {body} {tag} k {xs} {entries} {heap} {shown} {m} n r e f g s w =
    let c : entries ≡ length (slots_at bytes 0 k) + cell.len = f ∙ ap (λ (i : ℕ). i + cell.len) (sym (slots-count bytes 0 k)) in
    let t = renamed-whole bytes bytes' k xs n r e in
    let held = take (16 * cell.len) (drop cell.from store) in
    let Is : ℕ × (List ℕ × (ℕ × List ℕ)) → Type 0 =
    λ (z : ℕ × (List ℕ × (ℕ × List ℕ))). Finishes store events at (entered h body z.0) z.1.0 (64 + 16 * z.1.1.0) (z.1.1.1 ++ held) store' events' m in
    record { finishes = subst Is (λ i. (c i, (s i, (g i, t i)))) w }

pub outside_as : {frame : Frame} {bytes store events store' events' : List ℕ} {h : Header} {at : ℕ} {value : Slot} {slots values : List Slot} {tag : ℕ} (k : ℕ) {shown : List ℕ} {next : Header}
    {m : Result Step Stop} → value.sort ≡ 2 → next ≡ over h → shown ≡ event_head 7 2 tag k value.payload → length values ≡ k → slots ≡ values
    → Finishes store events at next (shown ++ each slot_bytes (map (shown_as (heap_in store next)) slots)) 64 [] store' events' m
    → Invokes frame bytes store events h at value values tag store' events' m
outside_as {store = store} {events} {store'} {events'} {h} {at} {value} {slots} {values} {tag} k {shown} {next} {m} s n e c q w =
    let g : shown ≡ event_head 7 2 tag (length values) value.payload = e ∙ ap (λ (i : ℕ). event_head 7 2 tag i value.payload) (sym c) in
    let Is : Header × (List ℕ × List Slot) → Type 0 =
    λ (z : Header × (List ℕ × List Slot)). Finishes store events at z.0 (z.1.0 ++ each slot_bytes (map (shown_as (heap_in store z.0)) z.1.1)) 64 [] store' events' m in
    of-outside s (subst Is (λ i. (n i, (g i, q i))) w)

-- an entrance with equal parts
entrance_as : {frame : Frame} {bytes : List ℕ} {cell cell' : Cell} {tag j k : ℕ} {r r' : Maybe Parameters} → cell ≡ cell' → j ≡ k → r ≡ r' → EntranceOf frame bytes cell tag j r
    → EntranceOf frame bytes cell' tag k r'
entrance_as {frame} {bytes} {tag = tag} c n e w = subst (λ (z : Cell × (ℕ × Maybe Parameters)). EntranceOf frame bytes z.0 tag z.1.0 z.1.1) (λ i. (c i, (n i, e i))) w

-- the cell that is found in a state is that of the store
pub referred_in : {o : Cell} (t : Slot) {s s' : List ℕ} {h h' : Header} → s ≡ s' → h ≡ h' → o ≡ cell_in' (heap_in s h) t → o ≡ cell_in' (heap_in s' h') t
referred_in t p q e = e ∙ ap (λ (H : List Slot). cell_in' H t) (ap₂ {C = List Slot} heap_in p q)

-- the value refers to no cell
pub no-cell_as : {frame : Frame} {bytes store events : List ℕ} {h : Header} {at : ℕ} {value : Slot} {values : List Slot} {tag : ℕ} → no_cell_lem ≡ cell_in' (heap_in store h) value
    → (value.sort ≡ 2 → ⊥) → Invokes frame bytes store events h at value values tag store events (Err NoStep)
no-cell_as {store = store} {h = h} {value} e s =
    let five : 5 ≡ (cell_in' (heap_in store h) value).sort = ap (λ (r : Cell). r.sort) e in
    of-nothing s (no-closure (λ q. omega (arith, five, q)))

-- there is no value
pub no-value : {frame : Frame} {bytes store events : List ℕ} {h : Header} {at : ℕ} {values : List Slot} {tag : ℕ} → Invokes frame bytes store events h at no_slot values tag store events (Err NoStep)
no-value {store = store} {h = h} = no-cell_as (no-reference (heap_in store h) no_slot (λ e. omega (arith, e))) (λ e. omega (arith, e))

-- the clause of this cell was asked for with as many parameters as there are values
module _ {frame : Frame} {bytes store events : List ℕ} {h : Header} {at : ℕ} {value : Slot} {values : List Slot} {tag k : ℕ} {cell : Cell} {r : Maybe Parameters}
    (w : EntranceOf frame bytes cell tag k r) (c : cell ≡ cell_in' (heap_in store h) value) (n : length values ≡ k) where
  pub nothing_as : r ≡ None → (value.sort ≡ 2 → ⊥) → Invokes frame bytes store events h at value values tag store events (Err NoStep)
  nothing_as e s = of-nothing s (entrance_as c (sym n) e w)

  pub closure_as : {p : Parameters} {slots : List Slot} {store' events' : List ℕ} {m : Result Step Stop} → r ≡ Some p → slots ≡ values
      → EntersClause store events h at cell p.body (ids_of p.row) slots tag store' events' m → Invokes frame bytes store events h at value values tag store' events' m
  closure_as {p} {slots} {store'} {events'} {m} e q x =
      of-closure (entrance_as c (sym n) e w)
      (subst (λ (z : Cell × List Slot). EntersClause store events h at z.0 p.body (ids_of p.row) z.1 tag store' events' m) (λ i. (c i, q i)) x)
