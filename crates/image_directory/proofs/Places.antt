-- The record at a place of an image that has passed questions 1 to 4: where its pair and its bytes are, and what its kind byte and
-- its last byte say (`seen`, `spot`). Assumes nothing.
use Rattle.std.specs.Prelude.{Option, Some, None}
use Prim.Native.Nat.{ℕ, zero, suc, ◌+◌, ◌-◌, ◌*◌, ◌≤◌, ◌<◌}
use mathlib.Core.List.{List, [], ◌∷◌}
use mathlib.Core.Bool.{true, cond}
use mathlib.Core.Option.{some}
use mathlib.Core.Path.{◌≡◌, refl, ap, sym, ◌∙◌, subst}
use native.Mathlib.Omega.{arith}
use native.Mathlib.Nat.{suc-mul, zero-mul, add-zero, mul-le-mul}
use borrow.Author.Tests.{eqb-true}
use lib.Dec.{eqb}
use lib.ListN.{length, drop, take, get_or, length-drop}
use lib.Seq.{get_or-take, get_or-drop, length-take-le, drop-drop, drop-nil}
use Rattle.image_spec.specs.Records.{Record, decode_record, record_bytes, RecordOk}
use Rattle.image_spec.specs.Kinds.{kind_of, clauses_of}
use Rattle.image_spec.specs.Image.{if_some, is_some, tiled_from, records_from}
use Rattle.image_spec.proofs.RecordLaws.{encode_decode}
use Rattle.image_spec.proofs.KindLaws.{kind-first, record_nonempty, last, clauses-last}
use Rattle.image_spec.proofs.DirectoryLaws.{and_left, and_right, there}
use Rattle.image_directory.specs.Slots.{slot_at, formed_from, records_in, Ready}
use Rattle.image_directory.specs.declared.Frame.{Frame}
use Rattle.image_directory.specs.declared.Slot.{Slot}
use Rattle.image_directory.proofs.Tiling.{tiled-step, tiled-short, tiled_le, tiled-next, records-step, formed-step, records-end}

record Decoded (w : ℕ) (l : List ℕ) : Type 0 where
  head : Record
  is : decode_record w l ≡ some head
  ok : RecordOk w head
  bytes : l ≡ record_bytes w head

decoded : (w : ℕ) (l : List ℕ) → is_some (decode_record w l) ≡ true → Decoded w l
decoded w l h =
    let d = there (decode_record w l) h in
    let f = encode_decode w l d.0 d.1 in
    record { head = d.0; is = d.1; ok = f.0; bytes = f.1 }

abbrev at_size : ℕ → ℕ → Slot
at_size o z = record { offset = o; size = z }

-- the records that begin at a place of the directory and of the body are there
module _ (w p : ℕ) (s : List ℕ) where
  record Rest (n at here : ℕ) : Type 0 where
    tiled : tiled_from p n at here s ≡ true
    formed : formed_from w p n at here s ≡ true

  record_list : ℕ → ℕ → ℕ → List Record
  record_list n at here = if_some (records_from w p n at here s) [] (λ rs. rs)

  record First (n at here : ℕ) : Type 0 where
    size : ℕ
    head : Record
    ok : RecordOk w head
    slot : slot_at p at s ≡ Some (record { offset = here; size = size })
    bytes : take size (drop here s) ≡ record_bytes w head
    fits : here + size ≤ length s
    list : record_list n at here ≡ head ∷ record_list (n - 1) (at + (p + p)) (here + size)
    others : Rest (n - 1) (at + (p + p)) (here + size)

  list-step : (n at here : ℕ) (v : Slot) (r : Record) (rs : List Record) → 0 < n → slot_at p at s ≡ Some v → decode_record w (take v.size (drop here s)) ≡ some r
      → records_from w p (n - 1) (at + (p + p)) (here + v.size) s ≡ some rs → record_list n at here ≡ r ∷ record_list (n - 1) (at + (p + p)) (here + v.size)
  unfolding record_list
  list-step n at here v r rs t q d m = rw (records-step p s w n at here v t q, d, m)

  first : (n at here : ℕ) → 0 < n → Rest n at here → First n at here
  unfolding record_list formed_from
  first n at here t h = go (slot_at p at s) refl
    where
      go : (o : Option Slot) → slot_at p at s ≡ o → First n at here
      go None q = let e = tiled-short p s n at here t q in absurd (cc (e, h.tiled))
      go (Some v) q =
          let a : v.offset ≡ here = eqb-true v.offset here (and_left _ _ (sym (tiled-step p s n at here v t q) ∙ h.tiled)) in
          let u = tiled-next p s n at here v t q h.tiled in
          let f = sym (formed-step p s w n at here v t q) ∙ h.formed in
          let d = decoded w (take v.size (drop here s)) (and_left _ _ f) in
          let g : formed_from w p (n - 1) (at + (p + p)) (here + v.size) s ≡ true = and_right (is_some (decode_record w (take v.size (drop here s)))) _ f in
          let m = there (records_from w p (n - 1) (at + (p + p)) (here + v.size) s) g in
          record {
            size = v.size;
            head = d.head;
            ok = d.ok;
            slot = q ∙ ap (λ (x : ℕ). Some (at_size x v.size)) a;
            bytes = d.bytes;
            fits = tiled_le p s _ _ _ u;
            list = list-step n at here v d.head m.0 t q d.is m.1;
            others = record { tiled = u; formed = g };
          }

  -- after i of them
  record After (n at here i : ℕ) : Type 0 where
    place : ℕ
    others : Rest (n - i) (at + i * (p + p)) place
    list : drop i (record_list n at here) ≡ record_list (n - i) (at + i * (p + p)) place

  after : (i n at here : ℕ) → i ≤ n → Rest n at here → After n at here i
  after zero n at here t h =
      let k : n - 0 ≡ n = omega arith in
      record { place = here; others = rw (k, zero-mul, add-zero) h; list = rw (k, zero-mul, add-zero) }
  after (suc i) n at here t h =
      let f = first n at here (omega arith) h in
      let a = after i (n - 1) (at + (p + p)) (here + f.size) (omega arith) f.others in
      let k : n - suc i ≡ n - 1 - i = omega arith in
      let m : at + suc i * (p + p) ≡ at + (p + p) + i * (p + p) = rw suc-mul (omega arith) in
      record { place = a.place; others = rw (k, m) a.others; list = rw (k, m, f.list) a.list }

  list_length : (n at here : ℕ) → Rest n at here → length (record_list n at here) ≡ n
  unfolding record_list
  list_length zero at here h = ap (λ o. length (if_some o [] (λ rs. rs))) (records-end p s w 0 at here refl)
  list_length (suc n) at here h =
      let f = first (suc n) at here (omega arith) h in
      let k : suc n - 1 ≡ n = omega arith in
      ap length f.list ∙ ap suc (ap (λ m. length (record_list m (at + (p + p)) (here + f.size))) k ∙ list_length n (at + (p + p)) (here + f.size) (subst (λ m. Rest m (at + (p + p)) (here + f.size)) k f.others))

pub records-length : (g : Frame) (s : List ℕ) → Ready g s → length (records_in g s) ≡ g.count
unfolding records_in record_list
records-length g s h = list_length g.id g.place s g.count g.from g.start (record { tiled = h.tiled; formed = h.formed })

-- what the first and the last byte of a record say
pub record Says (s : List ℕ) (o z : ℕ) (r : Record) : Type 0 where
  pub some : 0 < z
  pub kind : get_or s o 0 ≡ kind_of r
  pub count : clauses_of r ≡ cond (eqb (get_or s o 0) 5) (get_or s (o + z - 1) 0) (cond (eqb (get_or s o 0) 6) (get_or s (o + z - 1) 0) 0)

-- a byte of a part
part-byte : (s b : List ℕ) (o z j : ℕ) → take z (drop o s) ≡ b → j < z → get_or s (o + j) 0 ≡ get_or b j 0
part-byte s b o z j e h = sym (get_or-drop o s j 0) ∙ (sym (get_or-take z (drop o s) j 0 h) ∙ ap (λ l. get_or l j 0) e)

says : (w : ℕ) (s : List ℕ) (o z : ℕ) (r : Record) → take z (drop o s) ≡ record_bytes w r → o + z ≤ length s → Says s o z r
says w s o z r b h =
    let d : z ≤ length (drop o s) = rw length-drop (omega arith) in
    let n : length (record_bytes w r) ≡ z = sym (ap length b) ∙ length-take-le z (drop o s) d in
    let pos : 0 < z = omega (arith, record_nonempty w r) in
    let a : o + 0 ≡ o = omega arith in
    let k : get_or s o 0 ≡ kind_of r = ap (λ x. get_or s x 0) (sym a) ∙ (part-byte s _ o z 0 b pos ∙ kind-first w r) in
    let e : o + (z - 1) ≡ o + z - 1 = omega arith in
    let t : z - 1 < z = omega arith in
    let l : get_or s (o + z - 1) 0 ≡ last (record_bytes w r) =
    ap (λ x. get_or s x 0) (sym e) ∙ (part-byte s _ o z (z - 1) b t ∙ ap (λ x. get_or (record_bytes w r) (x - 1) 0) (sym n)) in
    record { some = pos; kind = k; count = rw (k, l) (clauses-last w r) }

-- the record at place i of an image
pub record Seen (g : Frame) (s : List ℕ) (i : ℕ) : Type 0 where
  pub offset : ℕ
  pub size : ℕ
  pub head : Record
  pub ok : RecordOk g.id head
  pub bytes : take size (drop offset s) ≡ record_bytes g.id head
  pub tail : List Record
  pub slot : slot_at g.place (g.from + i * (g.place + g.place)) s ≡ Some (record { offset = offset; size = size })
  pub fits : offset + size ≤ length s
  pub list : drop i (records_in g s) ≡ head ∷ tail

pub seen : (g : Frame) (s : List ℕ) (i : ℕ) → Ready g s → i < g.count → Seen g s i
unfolding records_in record_list
seen g s i h t =
    let w = g.id in
    let p = g.place in
    let a = after w p s i g.count g.from g.start (omega arith) (record { tiled = h.tiled; formed = h.formed }) in
    let f = first w p s (g.count - i) (g.from + i * (p + p)) a.place (omega arith) a.others in
    record {
      offset = a.place;
      size = f.size;
      head = f.head;
      ok = f.ok;
      bytes = f.bytes;
      tail = record_list w p s (g.count - i - 1) (g.from + i * (p + p) + (p + p)) (a.place + f.size);
      slot = f.slot;
      fits = f.fits;
      list = a.list ∙ f.list;
    }

-- past the last record
pub unseen : (g : Frame) (s : List ℕ) (i : ℕ) → Ready g s → g.count ≤ i → drop i (records_in g s) ≡ []
unfolding records_in record_list
unseen g s i h t =
    let n = g.count in
    let a = after g.id g.place s n n g.from g.start (omega arith) (record { tiled = h.tiled; formed = h.formed }) in
    let z : n - n ≡ 0 = omega arith in
    let e : drop n (records_in g s) ≡ [] = a.list ∙ rw (records-end g.place s g.id (n - n) (g.from + n * (g.place + g.place)) a.place z) in
    let k : n + (i - n) ≡ i = omega arith in
    ap (λ x. drop x (records_in g s)) (sym k) ∙ (sym (drop-drop (i - n) n (records_in g s)) ∙ (ap (drop (i - n)) e ∙ drop-nil (i - n)))

-- the same, at the pair that was read
pub record Spot (g : Frame) (s : List ℕ) (i : ℕ) (v : Slot) : Type 0 where
  pub head : Record
  pub ok : RecordOk g.id head
  pub bytes : take v.size (drop v.offset s) ≡ record_bytes g.id head
  pub list : drop i (records_in g s) ≡ head ∷ drop (i + 1) (records_in g s)
  pub fits : v.offset + v.size ≤ length s
  pub says : Says s v.offset v.size head

pub spot : (g : Frame) (s : List ℕ) (i : ℕ) (v : Slot) → Ready g s → i < g.count → slot_at g.place (g.from + i * (g.place + g.place)) s ≡ Some v → Spot g s i v
spot g s i v h t q = go (seen g s i h t)
  where
    go : Seen g s i → Spot g s i v
    go y =
        let e : ◌≡◌ {A = Slot} (record { offset = y.offset; size = y.size }) v = cc (y.slot, q) in
        let a : y.offset ≡ v.offset = ap (λ (x : Slot). x.offset) e in
        let b : y.size ≡ v.size = ap (λ (x : Slot). x.size) e in
        record {
          head = y.head;
          ok = y.ok;
          bytes = rw (a, b) at y.bytes;
          list = y.list ∙ ap (λ l. y.head ∷ l) (sym (ap (drop 1) y.list) ∙ drop-drop 1 i (records_in g s));
          fits = rw (a, b) at y.fits;
          says = rw (a, b) at (says g.id s y.offset y.size y.head y.bytes y.fits);
        }

-- the directory is small
pub place-small : (i p : ℕ) → i ≤ 4000 → p ≤ 4 → i * (p + p) ≤ 32000
place-small i p a b = let h : p + p ≤ 8 = omega arith in mul-le-mul a h

pub no_short : (g : Frame) (s : List ℕ) (i : ℕ) → Ready g s → i < g.count → slot_at g.place (g.from + i * (g.place + g.place)) s ≡ None → ⊥
no_short g s i h t q = let v = seen g s i h t in absurd (cc (v.slot, q))
