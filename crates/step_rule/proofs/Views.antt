-- What code sees of a store that is read as a state: the slots of its cells and of its environment, where the header says. Assumes nothing.
use Prim.Native.Nat.{ℕ, ◌+◌, ◌*◌, ◌≤◌}
use mathlib.Core.Path.{◌≡◌, refl, sym, ap, ap₂, ◌∙◌, subst}
use mathlib.Core.Bool.{Bool, true}
use mathlib.Core.List.{List, [], ◌∷◌, ◌++◌, append_assoc}
use mathlib.Core.Option.{some}
use native.Mathlib.Omega.{arith}
use borrow.Author.Tests.{le-leb}
use lib.Dec.{eqb}
use lib.ListN.{length, drop, length-append, length-map}
use lib.Seq.{drop-append_seam}
use Rattle.model.specs.Syntax.{Prog}
use Rattle.image_spec.specs.Parse.{each, All}
use Rattle.step_slots.specs.Slots.{Slot, slot_bytes, SlotOk}
use Rattle.step_slots.specs.Views.{slots_at, is_slot, all_slots}
use Rattle.step_slots.proofs.SlotLaws.{past, slots-stand}
use Rattle.step_slots.proofs.SlotBytes.{slots_length}
use Rattle.step_spec.specs.Located.{Machine, Located}
use Rattle.step_spec.specs.Store.{place_of, entry_slot, heap_of, environment_of, bit, header_of, header_bytes, raw_of, raw_bytes, store_bytes, Fits}
use Rattle.step_spec.proofs.Lists.{bit-back}
use Rattle.step_spec.proofs.OneToOne.{Stores, only_its_bytes}
use Rattle.step_header.specs.declared.Header.{Header}
use Rattle.step_header.specs.Headers.{tuple_of, heap_in, entries_in, Holds}
use Rattle.step_rule.specs.Rules.{Reads, Stored}

-- slots that fit are slots
fit-slots : (ts : List Slot) → All SlotOk ts → all_slots ts ≡ true
fit-slots [] o = refl
fit-slots (t ∷ ts) o = rw (le-leb t.sort 4 o.0.0) (fit-slots ts o.1)

-- a flag is known by its byte
bit_same : (b c : Bool) → bit b ≡ bit c → b ≡ c
bit_same b c e = sym (bit-back b) ∙ (ap (λ (k : ℕ). eqb k 1) e ∙ bit-back c)

pub record Viewed (P : Prog) (store : List ℕ) (h : Header) (l : Located) : Type 0 where
  pub position : h.position ≡ l.position
  pub ended : h.ended ≡ l.has_ended
  pub stopped : h.stopped ≡ l.has_stopped
  pub cells : h.cells ≡ length l.cells
  pub heap : heap_in store h ≡ heap_of l.cells
  pub entries : entries_in store h ≡ environment_of l.cells l.environment
  pub heap_size : h.heap ≡ length (heap_of l.cells)
  pub entries_size : h.entries ≡ length (environment_of l.cells l.environment)
  pub heap_fits : All SlotOk (heap_of l.cells)
  pub entries_fit : All SlotOk (environment_of l.cells l.environment)
  pub heap_slots : all_slots (heap_in store h) ≡ true
  pub entries_slots : all_slots (entries_in store h) ≡ true
  pub inside : 64 + 16 * (h.heap + h.entries) ≤ length store
  pub fits : Fits P l

module _ {P : Prog} {store : List ℕ} {h : Header} {l : Located} where
  pub views : Reads P store h l → Viewed P store h l
  unfolding store_bytes raw_of
  views o =
      let s = only_its_bytes P store l o.read in
      let A = header_bytes (header_of (raw_of l)) in
      let B = each slot_bytes (heap_of l.cells) in
      let E = each slot_bytes (environment_of l.cells l.environment) in
      let b : length B ≡ 16 * length (heap_of l.cells) = slots_length (heap_of l.cells) in
      let c : length E ≡ 16 * length (environment_of l.cells l.environment) = slots_length (environment_of l.cells l.environment) in
      let q : drop 0 store ≡ A ++ (B ++ (E ++ s.rest)) = s.bytes ∙ (append_assoc A (B ++ E) s.rest ∙ ap (λ (z : List ℕ). A ++ z) (append_assoc B E s.rest)) in
      let p : drop 64 store ≡ B ++ (E ++ s.rest) = past store A (B ++ (E ++ s.rest)) 0 64 refl q in
      let r : drop (64 + 16 * length (heap_of l.cells)) store ≡ E ++ s.rest = past store B (E ++ s.rest) 64 (16 * length (heap_of l.cells)) b p in
      let k : h.heap ≡ length (heap_of l.cells) = ap (λ x. x.1.1.1.1.1.0) o.heads in
      let n : h.entries ≡ length (environment_of l.cells l.environment) = ap (λ x. x.1.1.1.1.1.1.0) o.heads in
      let H : heap_in store h ≡ heap_of l.cells = ap (slots_at store 64) k ∙ slots-stand store 64 (heap_of l.cells) (E ++ s.rest) s.slots.heap p in
      let N : entries_in store h ≡ environment_of l.cells l.environment =
      ap₂ {C = List Slot} (λ (i j : ℕ). slots_at store (64 + 16 * i) j) k n ∙ slots-stand store _ (environment_of l.cells l.environment) s.rest s.slots.environment r in
      record {
        position = ap (λ x. x.0) o.heads;
        ended = bit_same h.ended l.has_ended (ap (λ x. x.1.0) o.heads);
        stopped = bit_same h.stopped l.has_stopped (ap (λ x. x.1.1.0) o.heads);
        cells = ap (λ x. x.1.1.1.1.0) o.heads;
        heap = H;
        entries = N;
        heap_size = k;
        entries_size = n;
        heap_fits = s.slots.heap;
        entries_fit = s.slots.environment;
        heap_slots = ap all_slots H ∙ fit-slots (heap_of l.cells) s.slots.heap;
        entries_slots = ap all_slots N ∙ fit-slots (environment_of l.cells l.environment) s.slots.environment;
        inside = omega (arith, k, n, b, c, ap length s.bytes, length-append (A ++ (B ++ E)) s.rest, length-append A (B ++ E), length-append B E);
        fits = s.fits;
      }

  pub reads_of : {M : Machine} → Stored M P store h l → Reads P store h l
  reads_of o = record { read = o.read; heads = o.heads }

  pub viewed : {M : Machine} → Stored M P store h l → Viewed P store h l
  viewed o = views (reads_of o)

  -- the state has as many entries as the header counts
  pub environment-count : {M : Machine} → Stored M P store h l → length l.environment ≡ h.entries
  unfolding environment_of
  environment-count o = sym ((viewed o).entries_size ∙ length-map l.environment (entry_slot (place_of l.cells)))
