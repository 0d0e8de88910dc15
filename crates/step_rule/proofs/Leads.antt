-- Where the machine's step leads, in slots; and that what is then written is that step. Assumes nothing.
use Rattle.std.specs.Prelude.{Result, Ok, Err}
use Prim.Native.Nat.{ℕ, ◌+◌, ◌-◌, ◌*◌, ◌≤◌}
use mathlib.Core.Path.{◌≡◌, refl, sym, ap, ap₂, ◌∙◌, subst}
use mathlib.Core.Bool.{Bool, true, false, ◌&&◌}
use mathlib.Core.List.{List, ◌++◌}
use mathlib.Core.Option.{Option, some}
use native.Mathlib.Omega.{arith}
use lib.Dec.{leb}
use lib.ListN.{length, take, length-append}
use lib.Seq.{sets}
use Rattle.model.specs.Syntax.{Prog}
use Rattle.model.specs.Machine.{Event}
use Rattle.image_spec.specs.Parse.{each}
use Rattle.step_slots.specs.Slots.{Slot, slot_bytes}
use Rattle.step_slots.proofs.SlotBytes.{slots_length}
use Rattle.step_spec.specs.Located.{Machine, Located, Stepped, located_step}
use Rattle.step_spec.specs.Store.{heap_of, environment_of, bit, header_of, header_bytes, raw_of, store_bytes}
use Rattle.step_spec.specs.Events.{shown_bytes}
use Rattle.step_spec.specs.Calls.{has_room_lem}
use Rattle.step_header.specs.declared.Header.{Header}
use Rattle.step_header.specs.Headers.{tuple_of, heap_in, entries_in}
use Rattle.step_write.specs.declared.Step.{Step}
use Rattle.step_write.specs.declared.Stop.{Stop}
use Rattle.step_write.specs.Writing.{size, room_for, Sealed, Finishes, finished, finished-full}
use Rattle.step_rule.specs.Rules.{Stored, resting, Makes, no_room, one-step}
use Rattle.step_rule.proofs.Views.{viewed}
use Rattle.step_rule.proofs.Written.{region}

-- a header whose stopped flag is clear
abbrev pub headed : (position : ℕ) (ended : Bool) (cells heap entries : ℕ) → Header
headed p e c k n = record { position = p; ended = e; stopped = false; cells = c; heap = k; entries = n }

-- .. is that of a state
pub heads_as : {p : ℕ} {e : Bool} {c k n : ℕ} (l : Located) → p ≡ l.position → e ≡ l.has_ended → l.has_stopped ≡ false → c ≡ length l.cells → k ≡ length (heap_of l.cells)
    → n ≡ length (environment_of l.cells l.environment) → tuple_of (headed p e c k n) ≡ header_of (raw_of l)
unfolding raw_of
heads_as l a b s c d e = λ i. (a i, (bit (b i), (bit (sym s i), (tt, (c i, (d i, (e i, tt)))))))

-- the step from l, which the store has with the header h, shows these bytes and leads to the state with this header, with these new slots behind those
-- of the cells and this environment
pub record Leads (M : Machine) (P : Prog) (l : Located) (store : List ℕ) (h : Header) (shown : List ℕ) (header : Header) (new environment : List Slot) : Type 0 where
  pub event : Option Event
  pub next : Located
  pub step : resting (located_step M P l) ≡ some (event, next)
  pub shows : shown_bytes event ≡ shown
  pub heads : tuple_of header ≡ header_of (raw_of next)
  pub heap : heap_of next.cells ≡ heap_in store h ++ new
  pub entries : environment_of next.cells next.environment ≡ environment

module _ {M : Machine} {P : Prog} {store : List ℕ} {h : Header} {l : Located} (o : Stored M P store h l) {shown : List ℕ} {header : Header} {new environment : List Slot}
    (w : Leads M P l store h shown header new environment) where
  abbrev bytes : List ℕ
  bytes = each slot_bytes (heap_in store h ++ new) ++ each slot_bytes environment

  state-bytes : store_bytes w.next ≡ header_bytes (tuple_of header) ++ bytes
  unfolding store_bytes raw_of
  state-bytes =
      sym (ap (λ x. header_bytes x ++ bytes) w.heads
      ∙ ap₂ {C = List ℕ} (λ (a b : List Slot). header_bytes (header_of (raw_of w.next)) ++ (each slot_bytes a ++ each slot_bytes b)) (sym w.heap) (sym w.entries))

  state-size : length (store_bytes w.next) ≡ size header
  unfolding raw_of
  state-size =
      let H = heap_in store h ++ new in
      let k : header.heap ≡ length H = ap (λ x. x.1.1.1.1.1.0) w.heads ∙ ap length w.heap in
      let n : header.entries ≡ length environment = ap (λ x. x.1.1.1.1.1.1.0) w.heads ∙ ap length w.entries in
      let a : length (header_bytes (tuple_of header)) ≡ 64 = refl in
      ap length state-bytes
      ∙ omega (arith, k, n, a, length-append (header_bytes (tuple_of header)) bytes, length-append (each slot_bytes H) (each slot_bytes environment), slots_length H, slots_length environment)

  module _ (events : List ℕ) (at : ℕ) where
    room_is : has_room_lem (w.event, w.next) store (length events - at) ≡ room_for store events at header shown
    room_is = ap₂ {C = Bool} (λ (a b : ℕ). leb a (length store) && leb b (length events - at)) state-size (ap length w.shows)

    -- what is written is the step, where the first j entries of the environment stay
    pub leads-makes : (j : ℕ) → j ≤ h.entries → {from : ℕ} {written : List ℕ} → from ≡ 64 + 16 * (h.heap + j)
        → each slot_bytes (new ++ environment) ≡ each slot_bytes (take j (entries_in store h)) ++ written → {store' events' : List ℕ} {m : Result Step Stop}
        → Finishes store events at header shown from written store' events' m → Makes store events at (resting (located_step M P l)) store' events' m
    leads-makes j within {from} {written} f e (finished-full r) = rw w.step (no_room (room_is ∙ r))
    leads-makes j within {from} {written} f e {store'} {events'} {m} (finished r s) =
        let v = viewed o in
        let a = region store h v.heap_slots v.entries_slots j within from written
        (header_bytes (tuple_of header)) new environment f refl e in
        let made : Makes store events at (some (w.event, w.next)) store' events' (Ok (record { header = header; at = at + length shown })) =
        one-step (room_is ∙ r) (s.headed ∙ (a ∙ ap (sets store 0) (sym state-bytes))) (s.shows ∙ ap (sets events at) (sym w.shows)) w.heads (ap (λ (z : List ℕ). at + length z) (sym w.shows)) in
        rw w.step (subst (λ (z : Step). Makes store events at (some (w.event, w.next)) store' events' (Ok z)) (sym s.made) made)
