-- Stores and states are one to one: a store that is read as a state begins with exactly that state's bytes. Assumes nothing.
use Prim.Native.Nat.{ℕ, zero, suc, ◌+◌, ◌^◌, ◌≤◌, ◌<◌}
use mathlib.Core.Path.{◌≡◌, refl, sym, ap, ap₂, ◌∙◌, subst}
use mathlib.Core.Bool.{Bool, true, false, ◌&&◌, cond, false≢true}
use mathlib.Core.List.{List, [], ◌∷◌, ◌++◌, map, append_assoc}
use mathlib.Core.Option.{none, some}
use native.Mathlib.Omega.{arith}
use borrow.Author.Tests.{ltb-true, leb-true, eqb-true, eqb-false}
use lib.Dec.{ltb, eqb}
use Rattle.std.proofs.lemmas.List.{nil_from_length}
use lib.ListN.{length, take, drop, length-map}
use mir.Syntax.{w64}
use mir.ValLaws.{to_z-Fits, of_z-to_z}
use Rattle.syntax.proofs.Bools.{both_true}
use Rattle.model.specs.Syntax.{Prog}
use Rattle.image_spec.specs.Parse.{Parsed, refused, got, each, All}
use Rattle.image_spec.specs.Image.{if_got}
use Rattle.image_spec.proofs.ParseLaws.{Sound, none_read, one-read, following, times_exact}
use Rattle.step_spec.specs.Located.{held, made, Located}
use Rattle.step_slots.specs.Slots.{Slot, slot, slot_bytes, SlotOk, is_cell_lem, value_slot}
use Rattle.step_spec.specs.Store.{size_of, place_of, entry_slot, Block, block_of, blocks_of, block_slots, heap_of, environment_of, Raw, bit, raw_of, Header}
use Rattle.step_spec.specs.Store.{header_of, header_bytes, raw_bytes, store_bytes, ValueFits, EntryFits, raw_from, raw_parser, leading, blocks, cells_in}
use Rattle.step_spec.specs.Store.{first_slot, every_slot, statement_at, create_at, KeptFits, Fits, value_ok, entry_ok, field_ok, cell_ok, cells_ok, formed}
use Rattle.step_spec.specs.Store.{value_in, field_in, entry_in, kept_in, state_in, if_formed, state_from}
use Rattle.step_slots.proofs.SlotLaws.{slot_exact}
use Rattle.step_spec.proofs.Slots.{HeaderOk, header_exact, RawOk}
use Rattle.step_spec.proofs.Lists.{all_left, all_right}

-- ── bytes to slots ──

pub raw_right : (s : List ℕ) → Sound raw_bytes RawOk s (raw_parser s)
unfolding raw_parser
raw_right s =
    following _ (header_exact.right s) λ h m oh eh.
    following _ ((times_exact slot_exact h.1.1.1.1.1.0).right m) λ hs n oa ea.
    following _ ((times_exact slot_exact h.1.1.1.1.1.1.0).right n) λ es r ob eb.
    let q : header_of (raw_from h hs es) ≡ h = ap₂ (λ (a b : ℕ). (h.0, (h.1.0, (h.1.1.0, (tt, (h.1.1.1.1.0, (a, (b, tt)))))))) oa.0 ob.0 in
    one-read {a = raw_from h hs es} (record { header = subst HeaderOk (sym q) oh; heap = oa.1; environment = ob.1 })
    (eh ∙ (ap (λ (z : List ℕ). header_bytes h ++ z) (ea ∙ ap (λ (z : List ℕ). each slot_bytes hs ++ z) eb)
    ∙ (ap (λ (z : Header). header_bytes z ++ (each slot_bytes hs ++ (each slot_bytes es ++ r))) (sym q)
    ∙ (ap (λ (z : List ℕ). header_bytes (header_of (raw_from h hs es)) ++ z) (sym (append_assoc (each slot_bytes hs) (each slot_bytes es) r))
    ∙ sym (append_assoc (header_bytes (header_of (raw_from h hs es))) (each slot_bytes hs ++ each slot_bytes es) r)))))

-- ── slots to cells ──

blocks-back : (ss : List Slot) → leading ss ++ each block_slots (blocks ss) ≡ ss
unfolding leading blocks
blocks-back [] = refl
blocks-back (s ∷ ss) = go (is_cell_lem s) (blocks-back ss)
  where
    go : (b : Bool) → leading ss ++ each block_slots (blocks ss) ≡ ss → cond b [] (s ∷ leading ss) ++ each block_slots (cond b ((s, leading ss) ∷ blocks ss) (blocks ss)) ≡ s ∷ ss
    go true h = ap (λ (z : List Slot). s ∷ z) h
    go false h = ap (λ (z : List Slot). s ∷ z) h

-- the place of a block's own slot
place_in : List Block → ℕ → ℕ
place_in [] k = 0
place_in (b ∷ bs) zero = 0
place_in (b ∷ bs) (suc k) = 1 + length b.1 + place_in bs k

place-back : (ss : List Slot) (p : ℕ) → first_slot is_cell_lem (drop p ss) ≡ true → length (leading ss) + place_in (blocks ss) (cells_in (take p ss)) ≡ p
unfolding leading blocks cells_in place_in
place-back [] zero h = absurd (false≢true h)
place-back [] (suc p) h = absurd (false≢true h)
place-back (s ∷ ss) zero h = rw h refl
place-back (s ∷ ss) (suc p) h = go (is_cell_lem s) (place-back ss p h)
  where
    go : (b : Bool) → length (leading ss) + place_in (blocks ss) (cells_in (take p ss)) ≡ p
        → length (cond b [] (s ∷ leading ss)) + place_in (cond b ((s, leading ss) ∷ blocks ss) (blocks ss)) (cond b (suc (cells_in (take p ss))) (cells_in (take p ss))) ≡ suc p
    go true e = omega arith
    go false e = omega arith

module _ (heap : List Slot) where
  kept-size : (b : Block) → size_of (kept_in heap b) ≡ 1 + length b.1
  kept-size b = go (eqb b.0.sort 3)
    where
      go : (t : Bool) → size_of (cond t (held (record { 0 = b.0.id }) (map (field_in heap) b.1)) (made b.0.id (map (entry_in heap) b.1))) ≡ 1 + length b.1
      go true = ap (λ (n : ℕ). 1 + n) (length-map b.1 (field_in heap))
      go false = ap (λ (n : ℕ). 1 + n) (length-map b.1 (entry_in heap))

  place_same : (bs : List Block) (k : ℕ) → place_of (map (kept_in heap) bs) k ≡ place_in bs k
  unfolding place_in
  place_same [] k = refl
  place_same (b ∷ bs) zero = refl
  place_same (b ∷ bs) (suc k) = omega (arith, kept-size b, place_same bs k)

four : (k : ℕ) → (k ≡ 3 → ⊥) → 3 ≤ k → k ≤ 4 → k ≡ 4
four k n a b = omega arith

-- cells that begin before one are not all
fewer-before : (ss : List Slot) (p : ℕ) → first_slot is_cell_lem (drop p ss) ≡ true → cells_in (take p ss) < cells_in ss
unfolding cells_in
fewer-before [] zero h = absurd (false≢true h)
fewer-before [] (suc p) h = absurd (false≢true h)
fewer-before (s ∷ ss) zero h = rw h (omega arith)
fewer-before (s ∷ ss) (suc p) h = go (is_cell_lem s) (fewer-before ss p h)
  where
    go : (b : Bool) → cells_in (take p ss) < cells_in ss → cond b (suc (cells_in (take p ss))) (cells_in (take p ss)) < cond b (suc (cells_in ss)) (cells_in ss)
    go true e = omega arith
    go false e = e

blocks-counted : (ss : List Slot) → length (blocks ss) ≡ cells_in ss
unfolding blocks cells_in
blocks-counted [] = refl
blocks-counted (s ∷ ss) = go (is_cell_lem s) (blocks-counted ss)
  where
    go : (b : Bool) → length (blocks ss) ≡ cells_in ss → length (cond b ((s, leading ss) ∷ blocks ss) (blocks ss)) ≡ cond b (suc (cells_in ss)) (cells_in ss)
    go true e = ap suc e
    go false e = e

blocks-cells : (ss : List Slot) → All (λ (b : Block). is_cell_lem b.0 ≡ true) (blocks ss)
unfolding blocks
blocks-cells [] = tt
blocks-cells (s ∷ ss) = go (is_cell_lem s) refl (blocks-cells ss)
  where
    go : (b : Bool) → is_cell_lem s ≡ b → All (λ (b : Block). is_cell_lem b.0 ≡ true) (blocks ss) → All (λ (b : Block). is_cell_lem b.0 ≡ true) (cond b ((s, leading ss) ∷ blocks ss) (blocks ss))
    go true e h = (e, h)
    go false e h = h

-- ── one slot ──

module _ (P : Prog) (heap : List Slot) (opens : leading heap ≡ []) where
  abbrev of : ℕ → ℕ
  of = place_of (map (kept_in heap) (blocks heap))

  cell-back : (p : ℕ) → first_slot is_cell_lem (drop p heap) ≡ true → of (cells_in (take p heap)) ≡ p
  cell-back p h = place_same heap (blocks heap) (cells_in (take p heap)) ∙ (omega (arith, place-back heap p h, ap length opens))

  value-back : (k i p : ℕ) → p < 256 ^ 8 → value_ok P heap k p ≡ true → value_slot of i (value_in heap k p) ≡ slot k i p
  value-back zero i p o h = ap (slot 0 i) (of_z-to_z w64 p (record { fits = o }))
  value-back (suc zero) i p o h = ap (slot 1 i) (cell-back p h)
  value-back (suc (suc zero)) i p o h = refl
  value-back (suc (suc (suc k))) i p o h = absurd (false≢true h)

  entries-back : (es : List Slot) → All SlotOk es → every_slot (entry_ok P heap) es ≡ true → map (entry_slot of) (map (entry_in heap) es) ≡ es
  entries-back [] o h = refl
  entries-back (e ∷ es) o h =
      let b = both_true (entry_ok P heap e) _ h in
      ap₂ {C = List Slot} (λ (x : Slot) (y : List Slot). x ∷ y) (value-back e.sort e.id e.payload o.0.1.1.1 b.0) (entries-back es o.1 b.1)

  fields_back : (es : List Slot) → All SlotOk es → every_slot (field_ok P heap) es ≡ true → map (value_slot of 0) (map (field_in heap) es) ≡ es
  fields_back [] o h = refl
  fields_back (e ∷ es) o h =
      let b = both_true (field_ok P heap e) _ h in
      let c = both_true (eqb e.id 0) _ b.0 in
      ap₂ {C = List Slot} (λ (x : Slot) (y : List Slot). x ∷ y)
      (value-back e.sort 0 e.payload o.0.1.1.1 c.1 ∙ ap (λ (z : ℕ). slot e.sort z e.payload) (sym (eqb-true e.id 0 c.0))) (fields_back es o.1 b.1)

  -- ── cells ──

  block_back : (k : ℕ) (b : Block) → is_cell_lem b.0 ≡ true → All SlotOk (block_slots b) → cell_ok P heap k b ≡ true → block_of of k (kept_in heap b) ≡ b
  block_back k b c o h =
      let a = both_true (eqb b.0.payload k) _ h in
      go (eqb b.0.sort 3) refl (eqb-true b.0.payload k a.0) a.1
    where
      go : (t : Bool) → eqb b.0.sort 3 ≡ t → b.0.payload ≡ k
          → cond t (ltb b.0.id (256 ^ 2) && every_slot (field_ok P heap) b.1) (create_at P b.0.id && every_slot (entry_ok P heap) b.1) ≡ true
          → block_of of k (cond t (held (record { 0 = b.0.id }) (map (field_in heap) b.1)) (made b.0.id (map (entry_in heap) b.1))) ≡ b
      go true e p f =
          let q : b.0.sort ≡ 3 = eqb-true b.0.sort 3 e in
          let r = fields_back b.1 o.1 (both_true (ltb b.0.id (256 ^ 2)) _ f).1 in
          λ i. (record { sort = sym q i; id = b.0.id; payload = sym p i }, r i)
      go false e p f =
          let n : b.0.sort ≡ 3 → ⊥ = eqb-false b.0.sort 3 e in
          let q : b.0.sort ≡ 4 = four b.0.sort n (leb-true 3 b.0.sort c) o.0.0 in
          let r = entries-back b.1 o.1 (both_true (create_at P b.0.id) _ f).1 in
          λ i. (record { sort = sym q i; id = b.0.id; payload = sym p i }, r i)

  cells-back : (k : ℕ) (bs : List Block) → All (λ (b : Block). is_cell_lem b.0 ≡ true) bs → All SlotOk (each block_slots bs) → cells_ok P heap k bs ≡ true → blocks_of of k (map (kept_in heap) bs) ≡ bs
  cells-back k [] c o h = refl
  cells-back k (b ∷ bs) c o h =
      let a = both_true (cell_ok P heap k b) _ h in
      ap₂ {C = List Block} (λ (x : Block) (y : List Block). x ∷ y) (block_back k b c.0 (all_left SlotOk (block_slots b) (each block_slots bs) o) a.0)
      (cells-back (suc k) bs c.1 (all_right SlotOk (block_slots b) (each block_slots bs) o) a.1)

  -- ── what is read fits ──

  abbrev n : ℕ
  n = length (map (kept_in heap) (blocks heap))

  module _ (counted : cells_in heap ≡ n) where
    value-fits : (k p : ℕ) → p < 256 ^ 8 → value_ok P heap k p ≡ true → ValueFits n (value_in heap k p)
    value-fits zero p o h = to_z-Fits w64 p (record { fits = o })
    value-fits (suc zero) p o h = omega (arith, fewer-before heap p h)
    value-fits (suc (suc zero)) p o h = ltb-true p 256 h
    value-fits (suc (suc (suc k))) p o h = absurd (false≢true h)

    entries_fit : (es : List Slot) → All SlotOk es → every_slot (entry_ok P heap) es ≡ true → All (EntryFits n) (map (entry_in heap) es)
    entries_fit [] o h = tt
    entries_fit (e ∷ es) o h =
        let b = both_true (entry_ok P heap e) _ h in
        ((o.0.1.1.0, value-fits e.sort e.payload o.0.1.1.1 b.0), entries_fit es o.1 b.1)

    fields_fit : (es : List Slot) → All SlotOk es → every_slot (field_ok P heap) es ≡ true → All (ValueFits n) (map (field_in heap) es)
    fields_fit [] o h = tt
    fields_fit (e ∷ es) o h =
        let b = both_true (field_ok P heap e) _ h in
        let c = both_true (eqb e.id 0) _ b.0 in
        (value-fits e.sort e.payload o.0.1.1.1 c.1, fields_fit es o.1 b.1)

    kept-fits : (k : ℕ) (b : Block) → All SlotOk (block_slots b) → cell_ok P heap k b ≡ true → KeptFits P n (kept_in heap b)
    kept-fits k b o h = go (eqb b.0.sort 3) (both_true (eqb b.0.payload k) _ h).1
      where
        go : (t : Bool) → cond t (ltb b.0.id (256 ^ 2) && every_slot (field_ok P heap) b.1) (create_at P b.0.id && every_slot (entry_ok P heap) b.1) ≡ true
            → KeptFits P n (cond t (held (record { 0 = b.0.id }) (map (field_in heap) b.1)) (made b.0.id (map (entry_in heap) b.1)))
        go true f = let q = both_true (ltb b.0.id (256 ^ 2)) _ f in (ltb-true b.0.id (256 ^ 2) q.0, fields_fit b.1 o.1 q.1)
        go false f = let q = both_true (create_at P b.0.id) _ f in (q.0, entries_fit b.1 o.1 q.1)

    cells_fit : (k : ℕ) (bs : List Block) → All SlotOk (each block_slots bs) → cells_ok P heap k bs ≡ true → All (KeptFits P n) (map (kept_in heap) bs)
    cells_fit k [] o h = tt
    cells_fit k (b ∷ bs) o h =
        let a = both_true (cell_ok P heap k b) _ h in
        (kept-fits k b (all_left SlotOk (block_slots b) (each block_slots bs) o) a.0, cells_fit (suc k) bs (all_right SlotOk (block_slots b) (each block_slots bs) o) a.1)

-- ── the whole state ──

flag_back : (h : ℕ) → h ≤ 1 → bit (eqb h 1) ≡ h
flag_back zero o = refl
flag_back (suc zero) o = refl
flag_back (suc (suc h)) o = absurd (omega arith)

record Yes (P : Prog) (r : Raw) : Type 0 where
  position : statement_at P r.position ≡ true
  counted : r.cells ≡ cells_in r.heap
  opens : leading r.heap ≡ []
  cells : cells_ok P r.heap 0 (blocks r.heap) ≡ true
  environment : every_slot (entry_ok P r.heap) r.environment ≡ true

formed-yes : (P : Prog) (r : Raw) → formed P r ≡ true → Yes P r
unfolding formed
formed-yes P r h =
    let a = both_true (statement_at P r.position) _ h in
    let b = both_true (eqb r.cells (cells_in r.heap)) _ a.1 in
    let c = both_true (eqb (length (leading r.heap)) 0) _ b.1 in
    let d = both_true (cells_ok P r.heap 0 (blocks r.heap)) _ c.1 in
    record { position = a.0; counted = eqb-true _ _ b.0; opens = nil_from_length (leading r.heap) (eqb-true _ _ c.0); cells = d.0; environment = d.1 }

module _ (P : Prog) (r : Raw) (o : RawOk r) (y : Yes P r) where
  heap-split : each block_slots (blocks r.heap) ≡ r.heap
  heap-split = ap (λ (z : List Slot). z ++ each block_slots (blocks r.heap)) (sym y.opens) ∙ blocks-back r.heap

  slots-ok : All SlotOk (each block_slots (blocks r.heap))
  slots-ok = subst (All SlotOk) (sym heap-split) o.heap

  count : cells_in r.heap ≡ length (map (kept_in r.heap) (blocks r.heap))
  count = sym (length-map (blocks r.heap) (kept_in r.heap) ∙ blocks-counted r.heap)

  raw_back : raw_of (state_in r) ≡ r
  unfolding raw_of state_in heap_of environment_of
  raw_back =
      let c : each block_slots (blocks_of (place_of (map (kept_in r.heap) (blocks r.heap))) 0 (map (kept_in r.heap) (blocks r.heap))) ≡ r.heap =
      ap (each block_slots) (cells-back P r.heap y.opens 0 (blocks r.heap) (blocks-cells r.heap) slots-ok y.cells) ∙ heap-split in
      let e = entries-back P r.heap y.opens r.environment o.environment y.environment in
      let k : length (map (kept_in r.heap) (blocks r.heap)) ≡ r.cells = sym count ∙ sym y.counted in
      let f = flag_back r.has_ended o.header.1.0 in
      let g = flag_back r.has_stopped o.header.1.1.0 in
      λ i. record { position = r.position; has_ended = f i; has_stopped = g i; cells = k i; heap = c i; environment = e i }

  raw_fits : Fits P (state_in r)
  unfolding state_in
  raw_fits = record {
    position = y.position;
    cells = cells_fit P r.heap y.opens count 0 (blocks r.heap) slots-ok y.cells;
    environment = entries_fit P r.heap y.opens count r.environment o.environment y.environment;
  }

-- what a store that is read as l is
pub record Stores (P : Prog) (l : Located) (s : List ℕ) : Type 0 where
  pub rest : List ℕ
  pub bytes : s ≡ store_bytes l ++ rest
  pub fits : Fits P l
  pub slots : RawOk (raw_of l)

-- document 02, A.2: question 14's yes: the store begins with the bytes of a state of this program
pub only_its_bytes : (P : Prog) (s : List ℕ) (l : Located) → state_from P s ≡ some l → Stores P l s
unfolding state_from store_bytes
only_its_bytes P s l e = go (raw_parser s) (raw_right s) e
  where
    yes' : (r : Raw) (rest : List ℕ) (b : Bool) → RawOk r → s ≡ raw_bytes r ++ rest → formed P r ≡ b → if_formed b (state_in r) ≡ some l → Stores P l s
    yes' r rest true o q h f =
        let y = formed-yes P r h in
        let k : state_in r ≡ l = cc in
        subst (λ (z : Located). Stores P z s) k (record {
          rest = rest;
          bytes = q ∙ ap (λ (z : List ℕ). z ++ rest) (ap raw_bytes (sym (raw_back P r o y)));
          fits = raw_fits P r o y;
          slots = rw (raw_back P r o y) o;
        })
    yes' r rest false o q h f = let z : ◌≡◌ {A = ℕ} 0 1 = cc in absurd (omega arith)

    go : (x : Parsed ℕ Raw) → Sound raw_bytes RawOk s x → if_got x none (λ r _. if_formed (formed P r) (state_in r)) ≡ some l → Stores P l s
    go refused none_read f = let z : ◌≡◌ {A = ℕ} 0 1 = cc in absurd (omega arith)
    go (got r rest) (one-read o q) f = yes' r rest (formed P r) o q refl f
