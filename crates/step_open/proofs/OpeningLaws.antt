-- Question 14 as code asks it: header, counts, position, cells, environment. Assumes nothing.
use Prim.Native.Nat.{ℕ, zero, suc, ◌+◌, ◌-◌, ◌*◌, ◌/◌, ◌≤◌, ◌<◌}
use mathlib.Core.Path.{◌≡◌, refl, sym, ap, ap₂, ◌∙◌}
use mathlib.Core.Bool.{Bool, true, false, ◌&&◌, cond, false≢true, and-false}
use Rattle.std.proofs.lemmas.Bool.Decides.{nat_tests}
use mathlib.Core.List.{List, [], ◌∷◌}
use mathlib.Core.Option.{Option, none, some}
use Rattle.std.specs.Bool.{then_some}
use native.Mathlib.Omega.{arith}
use native.Mathlib.Nat.{add-zero}
use borrow.Author.Tests.{le-leb, lt-leb, leb-true, leb-false}
use lib.Dec.{leb, eqb}
use lib.ListN.{length, drop, length-drop, length-append}
use Rattle.model.specs.Syntax.{Prog}
use Rattle.image_spec.specs.Parse.{Parsed, refused, got, and_then, only_if, times}
use Rattle.image_spec.specs.Image.{if_got}
use Rattle.image_spec.proofs.ParseLaws.{Sound, one-read}
use Rattle.image_spec.proofs.DirectoryLaws.{and_left, and_right}
use Rattle.step_slots.specs.Slots.{Slot, slot_bytes, SlotOk, slot_parser, is_cell_lem}
use Rattle.step_slots.specs.Views.{slot_from, slot_at, slots_at, is_slot, all_slots}
use Rattle.step_slots.proofs.SlotLaws.{slot_exact, slots_parse}
use Rattle.step_spec.specs.Store as store
use Rattle.std.specs.Prelude as code
use Rattle.std.specs.Prelude.{None}
use Rattle.image_directory.specs.declared.Frame.{Frame}
use Rattle.step_open.specs.Opening.{slots_formed, seen_in, Opens}
use Rattle.step_spec.specs.Store.{header_bytes, header_parser, raw_from, raw_parser, every_slot, statement_at, entry_ok, value_ok, cells_in, leading, blocks, cells_ok, formed, state_in, if_formed, state_from}
use Rattle.step_spec.specs.Scan.{held_ok, head_ok, scan}
use Rattle.step_spec.proofs.Scans.{scanned}
use Rattle.step_spec.proofs.Slots.{HeaderOk, header_exact}
use Rattle.step_header.specs.declared.Header.{Header}
use Rattle.step_header.specs.Headers.{tuple_of, heap_in, entries_in}
use Rattle.step_scan.specs.Pass.{Of, pass, seen}

-- ── tests in another order ──

eqb_sym : (a b : ℕ) → eqb a b ≡ eqb b a
eqb_sym a b = grind (arith, nat_tests)

regroup : (aH aE st ce le ck eE : Bool) → (aH && aE) && (st && (ce && (le && (ck && eE)))) ≡ st && ((aH && ((le && ck) && ce)) && (aE && eE))
regroup aH aE false ce le ck eE = and-false (aH && aE)
regroup false aE true ce le ck eE = refl
regroup true false true ce le ck eE = sym (and-false ((le && ck) && ce))
regroup true true true false le ck eE = rw (and-false (le && ck)) refl
regroup true true true true false ck eE = refl
regroup true true true true true false eE = refl
regroup true true true true true true eE = refl

-- ── the pass is the test of the slots, of the cells' numbers and of what they hold ──

module _ (P : Prog) (heap : List Slot) (cells : ℕ) where
  turn : (s a p h x y : Bool) → s && (p && (h && (a && (x && y)))) ≡ (s && a) && ((p && (h && x)) && y)
  turn false a p h x y = refl
  turn true false false h x y = refl
  turn true false true false x y = refl
  turn true false true true x y = refl
  turn true true false h x y = refl
  turn true true true false x y = refl
  turn true true true true x y = refl

  turn-held : (s a h x y : Bool) → s && (h && (a && (x && y))) ≡ (s && a) && ((h && x) && y)
  turn-held false a h x y = refl
  turn-held true false false x y = refl
  turn-held true false true x y = refl
  turn-held true true false x y = refl
  turn-held true true true x y = refl

  pass_is : (k f : ℕ) (ts : List Slot) → pass P heap cells k f ts ≡ all_slots ts && (scan P heap k f ts && eqb (k + cells_in ts) cells)
  unfolding pass scan cells_in
  pass_is k f [] = ap (λ (z : ℕ). eqb z cells) (sym (add-zero k))
  pass_is k f (t ∷ ts) = go (is_cell_lem t) (λ k f. pass_is k f ts)
    where
      go : (b : Bool) → ((k f : ℕ) → pass P heap cells k f ts ≡ all_slots ts && (scan P heap k f ts && eqb (k + cells_in ts) cells))
          → is_slot t && cond b (eqb t.payload k && (head_ok P heap t && pass P heap cells (suc k) t.sort ts)) (held_ok P heap f t && pass P heap cells k f ts)
          ≡ (is_slot t && all_slots ts) && (cond b (eqb t.payload k && (head_ok P heap t && scan P heap (suc k) t.sort ts)) (held_ok P heap f t && scan P heap k f ts)
          && eqb (k + cond b (suc (cells_in ts)) (cells_in ts)) cells)
      go true h =
          let e : suc k + cells_in ts ≡ k + suc (cells_in ts) = omega arith in
          rw (h (suc k) t.sort, e) (turn (is_slot t) (all_slots ts) (eqb t.payload k) (head_ok P heap t) (scan P heap (suc k) t.sort ts) (eqb (k + suc (cells_in ts)) cells))
      go false h = rw (h k f) (turn-held (is_slot t) (all_slots ts) (held_ok P heap f t) (scan P heap k f ts) (eqb (k + cells_in ts) cells))

  pub passed : pass P heap cells 0 0 heap ≡ all_slots heap && ((eqb (length (leading heap)) 0 && cells_ok P heap 0 (blocks heap)) && eqb cells (cells_in heap))
  passed =
      let z : 0 + cells_in heap ≡ cells_in heap = omega arith in
      pass_is 0 0 heap ∙ ap₂ {C = Bool} (λ (a b : Bool). all_slots heap && (a && b)) (scanned P heap) (ap (λ (n : ℕ). eqb n cells) z ∙ eqb_sym (cells_in heap) cells)

  -- a value is a slot
  value-slot : (t : Slot) → entry_ok P heap t ≡ is_slot t && entry_ok P heap t
  value-slot t = go t.sort t.payload
    where
      go : (k p : ℕ) → value_ok P heap k p ≡ leb k 4 && value_ok P heap k p
      go zero p = refl
      go (suc zero) p = refl
      go (suc (suc zero)) p = refl
      go (suc (suc (suc k))) p = sym (and-false (leb (suc (suc (suc k))) 4))

  pub values-slots : (es : List Slot) → every_slot (entry_ok P heap) es ≡ all_slots es && every_slot (entry_ok P heap) es
  values-slots [] = refl
  values-slots (e ∷ es) =
      ap₂ {C = Bool} (λ (a b : Bool). a && b) (value-slot e) (values-slots es) ∙ go (is_slot e) (entry_ok P heap e) (all_slots es) (every_slot (entry_ok P heap) es)
    where
      go : (s v a b : Bool) → (s && v) && (a && b) ≡ (s && a) && (v && b)
      go false v a b = refl
      go true false true b = refl
      go true false false b = refl
      go true true a b = refl

-- ── slots are inside ──

slot-room : (s : List ℕ) (at : ℕ) → is_slot (slot_at s at) ≡ true → at + 16 ≤ length s
unfolding slot_at
slot-room s at h = go (slot_parser (drop at s)) (slot_exact.right (drop at s)) h
  where
    go : (r : Parsed ℕ Slot) → Sound slot_bytes SlotOk (drop at s) r → is_slot (slot_from r) ≡ true → at + 16 ≤ length s
    go refused o h = absurd (false≢true h)
    go (got t m) (one-read ok e) h = omega (arith, sym (length-drop at s) ∙ (ap length e ∙ length-append (slot_bytes t) m))

slots-room : (s : List ℕ) (at n : ℕ) → at ≤ length s → all_slots (slots_at s at n) ≡ true → at + 16 * n ≤ length s
unfolding slots_at
slots-room s at zero r h = omega arith
slots-room s at (suc n) r h =
    let a = slot-room s at (and_left (is_slot (slot_at s at)) (all_slots (slots_at s (at + 16) n)) h) in
    omega (arith, slots-room s (at + 16) n a (and_right (is_slot (slot_at s at)) (all_slots (slots_at s (at + 16) n)) h))

pub no_room : (s : List ℕ) (at n : ℕ) → at ≤ length s → length s < at + 16 * n → all_slots (slots_at s at n) ≡ false
no_room s at n r h = go (all_slots (slots_at s at n)) refl
  where
    go : (b : Bool) → all_slots (slots_at s at n) ≡ b → b ≡ false
    go false e = refl
    go true e = absurd (omega (arith, h, slots-room s at n r e))

-- room for so many more, as code asks for it
pub room-left : (len k e : ℕ) → 64 ≤ len → k ≤ (len - 64) / 16 → leb e ((len - 64) / 16 - k) ≡ leb (64 + 16 * k + 16 * e) len
room-left len k e r h = go (leb e ((len - 64) / 16 - k)) refl
  where
    go : (b : Bool) → leb e ((len - 64) / 16 - k) ≡ b → b ≡ leb (64 + 16 * k + 16 * e) len
    go true f = sym (le-leb (64 + 16 * k + 16 * e) len (omega (arith, r, h, leb-true e ((len - 64) / 16 - k) f)))
    go false f = sym (lt-leb (64 + 16 * k + 16 * e) len (omega (arith, r, h, leb-false e ((len - 64) / 16 - k) f)))

-- ── the whole store ──

-- a store of under 64 bytes
pub short-store : (P : Prog) (s : List ℕ) → length s < 64 → state_from P s ≡ none
unfolding state_from raw_parser
short-store P s h = go (header_parser s) (header_exact.right s)
  where
    go : (r : Parsed ℕ store.Header) → Sound header_bytes HeaderOk s r
        → if_got (and_then r λ h m. and_then (times h.1.1.1.1.1.0 slot_parser m) λ hs n. and_then (times h.1.1.1.1.1.1.0 slot_parser n) λ es r. got (raw_from h hs es) r) none (λ r _. if_formed (formed P r) (state_in r)) ≡ none
    go refused o = refl
    go (got a m) (one-read ok e) = absurd (omega (arith, h, ap length e ∙ length-append (header_bytes a) m))

-- .. and one that has no header
pub no_head : (P : Prog) (s : List ℕ) → header_parser s ≡ refused → state_from P s ≡ none
unfolding state_from raw_parser
no_head P s e = rw e refl

module _ (P : Prog) (s : List ℕ) (h : Header) (e : header_parser s ≡ got (tuple_of h) (drop 64 s)) where
  stage : (a b : Bool) (H E : List Slot) (m n r : List ℕ)
      → header_parser s ≡ got (tuple_of h) m → times h.heap slot_parser m ≡ only_if a (got H n) → times h.entries slot_parser n ≡ only_if b (got E r)
      → state_from P s ≡ if_formed ((a && b) && formed P (raw_from (tuple_of h) H E)) (state_in (raw_from (tuple_of h) H E))
  unfolding state_from raw_parser
  stage false b H E m n r p q t = rw (p, q) refl
  stage true false H E m n r p q t = rw (p, q, t) refl
  stage true true H E m n r p q t = rw (p, q, t) refl

  pub asked_is : state_from P s ≡ if_formed (slots_formed P s h) (seen s h)
  unfolding seen formed
  asked_is =
      stage (all_slots (heap_in s h)) (all_slots (entries_in s h)) (heap_in s h) (entries_in s h) (drop 64 s) (drop (64 + 16 * h.heap) s) _ e (slots_parse s 64 h.heap) (slots_parse s (64 + 16 * h.heap) h.entries)
      ∙ ap (λ (z : Bool). if_formed z (state_in (raw_from (tuple_of h) (heap_in s h) (entries_in s h)))) (regroup (all_slots (heap_in s h)) (all_slots (entries_in s h)) (statement_at P h.position) (eqb h.cells (cells_in (heap_in s h)))
      (eqb (length (leading (heap_in s h))) 0) (cells_ok P (heap_in s h) 0 (blocks (heap_in s h))) (every_slot (entry_ok P (heap_in s h)) (entries_in s h))
      ∙ ap₂ {C = Bool} (λ (a b : Bool). statement_at P h.position && (a && b)) (sym (passed P (heap_in s h) h.cells)) (sym (values-slots P (heap_in s h) h.cells (entries_in s h))))

  -- what the test answers
  pub opened : slots_formed P s h ≡ true → state_from P s ≡ some (seen s h)
  opened a = asked_is ∙ (ap (λ (z : Bool). if_formed z (seen s h)) a)

  pub not_opened : slots_formed P s h ≡ false → state_from P s ≡ none
  not_opened a = asked_is ∙ (ap (λ (z : Bool). if_formed z (seen s h)) a)

  -- counts that reach past the store
  not_cells : pass P (heap_in s h) h.cells 0 0 (heap_in s h) ≡ false → slots_formed P s h ≡ false
  not_cells e = rw e (and-false (statement_at P h.position))

  not_entries : every_slot (entry_ok P (heap_in s h)) (entries_in s h) ≡ false → slots_formed P s h ≡ false
  not_entries e = rw (e, and-false (pass P (heap_in s h) h.cells 0 0 (heap_in s h))) (and-false (statement_at P h.position))

  heap-outside : 64 ≤ length s → length s < 64 + 16 * h.heap → slots_formed P s h ≡ false
  heap-outside r o =
      let H = heap_in s h in
      let as_counted = (eqb (length (leading H)) 0 && cells_ok P H 0 (blocks H)) && eqb h.cells (cells_in H) in
      not_cells (passed P H h.cells ∙ ap (λ (z : Bool). z && as_counted) (no_room s 64 h.heap r o))

  entries-outside : 64 + 16 * h.heap ≤ length s → length s < 64 + 16 * h.heap + 16 * h.entries → slots_formed P s h ≡ false
  entries-outside r o = not_entries (values-slots P (heap_in s h) h.cells (entries_in s h) ∙ ap (λ (z : Bool). z && every_slot (entry_ok P (heap_in s h)) (entries_in s h)) (no_room s (64 + 16 * h.heap) h.entries r o))

  pub outside : 64 ≤ length s → leb (64 + 16 * h.heap + 16 * h.entries) (length s) ≡ false → state_from P s ≡ none
  outside r f = not_opened (go (leb (64 + 16 * h.heap) (length s)) refl)
    where
      go : (c : Bool) → leb (64 + 16 * h.heap) (length s) ≡ c → slots_formed P s h ≡ false
      go true t = entries-outside (leb-true _ _ t) (leb-false (64 + 16 * h.heap + 16 * h.entries) (length s) f)
      go false t = heap-outside r (leb-false (64 + 16 * h.heap) (length s) t)

-- nothing is opened
pub opens_none : (frame : Frame) (bytes s : List ℕ) {r : code.Option Header} → r ≡ None → ((P : Prog) → Of P frame bytes → state_from P s ≡ none) → Opens frame bytes s r
opens_none frame bytes s {r} e n = record { state = λ P o. n P o ∙ ap (seen_in s) (sym e); header = λ h q. cc }

-- .. or this header, as a test says
pub opens_as : (frame : Frame) (bytes s : List ℕ) (h : Header) (v : Bool) {r : code.Option Header} → header_parser s ≡ got (tuple_of h) (drop 64 s) → r ≡ then_some v h
    → (v ≡ true → (P : Prog) → Of P frame bytes → state_from P s ≡ some (seen s h)) → (v ≡ false → (P : Prog) → Of P frame bytes → state_from P s ≡ none)
    → Opens frame bytes s r
opens_as frame bytes s h true {r} e q y n = record {
  state = λ P o. y refl P o ∙ ap (seen_in s) (sym q);
  header = λ k p. let i : h ≡ k = cc in e ∙ ap (λ (x : Header). got (tuple_of x) (drop 64 s)) i;
}
opens_as frame bytes s h false e q y n = opens_none frame bytes s q (n refl)
