-- The directory of an image and the records it cuts the bytes into: what tiles and is formed is the directory of its records
-- (`body-right`), and the directory of records tiles and cuts them out again (`tiles-entries_of`, `records_at-left`). Assumes nothing.
use Prim.Native.Nat.{ℕ, suc, ◌+◌, ◌*◌, ◌^◌, ◌≤◌, ◌<◌}
use mathlib.Core.List.{List, [], ◌∷◌, ◌++◌}
use mathlib.Core.Bool.{Bool, true, false, ◌&&◌}
use mathlib.Core.Option.{Option, none, some}
use mathlib.Core.Path.{◌≡◌, refl, ap, sym, ◌∙◌, subst}
use native.Mathlib.Omega.{arith}
use native.Mathlib.Nat.{suc-mul, zero-mul}
use borrow.Author.Tests.{eq-eqb, eqb-true}
use lib.Dec.{eqb}
use lib.ListN.{length, take, drop, length-append, length-drop, take-append-drop}
use lib.Seq.{take-append_seam, drop-append_seam, length-take-le, drop_at, drop-drop}
use Rattle.std.proofs.lemmas.List.{nil_from_length}
use Rattle.syntax.proofs.Bools.{both_true}
use Rattle.image_spec.specs.declared.Layout.{Layout}
use Rattle.image_spec.specs.Parse.{Parsed, each, All}
use Rattle.image_spec.specs.Layout.{header_size, body_at}
use Rattle.image_spec.specs.Records.{Record, record_bytes, RecordOk, decode_record}
use Rattle.image_spec.specs.Image.{if_got, if_some, is_some, Header, header_bytes, Entry, entry_bytes, entry, tiles, records_at, tiled_from, records_from, entries_of, image_of}
use Rattle.image_spec.proofs.ParseLaws.{Sound, none_read, one-read, Exact, both_exact, times_exact, number_exact, whole-left, whole_case}
use Rattle.image_spec.proofs.FieldLaws.{field-length}
use Rattle.image_spec.proofs.RecordLaws.{record_exact}

pub and_left : (a b : Bool) → a && b ≡ true → a ≡ true
and_left a b h = (both_true a b h).0

pub and_right : (a b : Bool) → a && b ≡ true → b ≡ true
and_right a b h = (both_true a b h).1

-- the value that is there
pub there : {A : Type 0} (o : Option A) → is_some o ≡ true → (a : A) × (o ≡ some a)
there none h = let z : ◌≡◌ {A = ℕ} 0 1 = cc in absurd (omega arith)
there (some a) h = (a, refl)

-- ---- entries

abbrev pub EntryOk : ℕ → Entry → Type 0
EntryOk p e = (e.0 < 256 ^ p) × (e.1 < 256 ^ p)

pub entry_exact : (p : ℕ) → Exact (entry_bytes p) (EntryOk p) (entry p)
entry_exact p = both_exact (number_exact p) (number_exact p)

pub entry_length : (p : ℕ) (e : Entry) → length (entry_bytes p e) ≡ p + p
entry_length p e = simp (length-append, field-length)

pub entries-length : (p : ℕ) (es : List Entry) → length (each (entry_bytes p) es) ≡ length es * (p + p)
entries-length p [] = sym (zero-mul _)
entries-length p (e ∷ es) = simp (length-append, field-length, entries-length p es, suc-mul) (omega arith)

pub tiles_le : (es : List Entry) (at end : ℕ) → tiles at es end ≡ true → at ≤ end
tiles_le [] at end h = omega (arith, eqb-true at end h)
tiles_le (e ∷ es) at end h = omega (arith, tiles_le es (at + e.1) end (and_right (eqb e.0 at) _ h))

module _ (L : Layout) where
  pub entries_of-length : (rs : List Record) (at : ℕ) → length (entries_of L at rs) ≡ length rs
  entries_of-length [] at = refl
  entries_of-length (r ∷ rs) at = ap suc (entries_of-length rs (at + length (record_bytes L.id r)))

  -- ---- from bytes to records

  data Cut (at : ℕ) (es : List Entry) (l : List ℕ) : Option (List Record) → Type 0 where
    none_cut : Cut at es l none
    all-cut : {rs : List Record} → All (RecordOk L.id) rs → l ≡ each (record_bytes L.id) rs → es ≡ entries_of L at rs → Cut at es l (some rs)

  cut-more : (at : ℕ) (e : Entry) (es : List Entry) (l : List ℕ) (r : Record) {o : Option (List Record)} → e.0 ≡ at → e.1 ≤ length l
      → RecordOk L.id r → take e.1 l ≡ record_bytes L.id r → Cut (at + e.1) es (drop e.1 l) o
      → Cut at (e ∷ es) l (if_some o none (λ rs. some (r ∷ rs)))
  cut-more at e es l r a b ok t none_cut = none_cut
  cut-more at e es l r a b ok t (all-cut {rs = rs} oks d es') =
      let n : e.1 ≡ length (record_bytes L.id r) = sym (length-take-le e.1 l b) ∙ ap length t in
      let es'' : es ≡ entries_of L (at + length (record_bytes L.id r)) rs = subst (λ z. es ≡ entries_of L (at + z) rs) n es' in
      all-cut {rs = r ∷ rs} (ok, oks) (sym (take-append-drop e.1 l) ∙ rw (t, d)) (λ i. (a i, n i) ∷ es'' i)

  cut : (es : List Entry) (at end : ℕ) (l : List ℕ) → tiles at es end ≡ true → at + length l ≡ end → Cut at es l (records_at L.id es l)
  unfolding records_at decode_record
  cut [] at end l h s = all-cut tt (nil_from_length l (omega (arith, eqb-true at end h))) refl
  cut (e ∷ es) at end l h s =
      let a : e.0 ≡ at = eqb-true e.0 at (and_left _ _ h) in
      let t : tiles (at + e.1) es end ≡ true = and_right (eqb e.0 at) _ h in
      let b : e.1 ≤ length l = omega (arith, tiles_le es (at + e.1) end t) in
      whole_case (λ o. Cut at (e ∷ es) l (if_some o none (λ r. if_some (records_at L.id es (drop e.1 l)) none (λ rs. some (r ∷ rs)))))
      ((record_exact L.id).right (take e.1 l)) none_cut
      (λ r ok q. cut-more at e es l r a b ok q (cut es (at + e.1) end (drop e.1 l) t (rw length-drop (omega arith))))

  -- what follows a header is the directory and the bytes of n records
  pub record Body (n : ℕ) (l : List ℕ) (rs : List Record) : Type 0 where
    pub count : length rs ≡ n
    pub formed : All (RecordOk L.id) rs
    pub written : l ≡ each (entry_bytes L.place) (entries_of L (body_at L n) rs) ++ each (record_bytes L.id) rs

  body : (n : ℕ) (l b : List ℕ) (es : List Entry) {o : Option (List Record)} (rs : List Record) → length es ≡ n
      → l ≡ each (entry_bytes L.place) es ++ b → Cut (body_at L n) es b o → o ≡ some rs → Body n l rs
  body n l b es rs c e none_cut q = let z : ◌≡◌ {A = ℕ} 0 1 = cc (q) in absurd (omega arith)
  body n l b es rs c e (all-cut {rs = rs'} oks eb ees) q =
      let k : rs' ≡ rs = cc (q) in
      record {
        count = ap length (sym k) ∙ (sym (entries_of-length rs' (body_at L n)) ∙ (ap length (sym ees) ∙ c));
        formed = subst (All (RecordOk L.id)) k oks;
        written = e ∙ rw (ees, eb, k);
      }

  pub body-right : (s : List ℕ) (n : ℕ) (rs : List Record) → tiled_from L.place n (header_size L) (body_at L n) s ≡ true
      → records_from L.id L.place n (header_size L) (body_at L n) s ≡ some rs → Body n (drop (header_size L) s) rs
  unfolding tiled_from records_from
  body-right s n rs t q = go ((times_exact (entry_exact L.place) n).right (drop (header_size L) s)) t q
    where
      go : {r : Parsed ℕ (List Entry)} → Sound (each (entry_bytes L.place)) (λ es. (length es ≡ n) × All (EntryOk L.place) es) (drop (header_size L) s) r
          → if_got r false (λ es _. tiles (body_at L n) es (length s)) ≡ true
          → if_got r none (λ es _. records_at L.id es (drop (body_at L n) s)) ≡ some rs → Body n (drop (header_size L) s) rs
      go none_read t q = let z : ◌≡◌ {A = ℕ} 0 1 = cc (t) in absurd (omega arith)
      go (one-read {a = es} {m = b} ok e) t q =
          let k : length (each (entry_bytes L.place) es) ≡ n * (L.place + L.place) = entries-length L.place es ∙ ap (λ z. z * (L.place + L.place)) ok.0 in
          let d : drop (body_at L n) s ≡ b = sym (drop-drop _ (header_size L) s) ∙ (ap (drop (n * (L.place + L.place))) e ∙ drop_at (each (entry_bytes L.place) es) b _ k) in
          let h : body_at L n ≤ length s = tiles_le es _ _ t in
          let m : body_at L n + length b ≡ length s = omega (arith, h, sym (ap length d) ∙ length-drop (body_at L n) s) in
          body n (drop (header_size L) s) b es rs ok.0 e (cut es (body_at L n) (length s) b t m) (ap (records_at L.id es) (sym d) ∙ q)

  -- ---- from records to bytes

  pub records_at-left : (rs : List Record) (at : ℕ) → All (RecordOk L.id) rs → records_at L.id (entries_of L at rs) (each (record_bytes L.id) rs) ≡ some rs
  unfolding records_at decode_record
  records_at-left [] at o = refl
  records_at-left (r ∷ rs) at o =
      rw (
        take-append_seam (record_bytes L.id r) (each (record_bytes L.id) rs),
        drop-append_seam (record_bytes L.id r) (each (record_bytes L.id) rs),
        whole-left (record_exact L.id) r o.0,
        records_at-left rs (at + length (record_bytes L.id r)) o.1,
      )

  pub tiles-entries_of : (rs : List Record) (at end : ℕ) → at + length (each (record_bytes L.id) rs) ≡ end → tiles at (entries_of L at rs) end ≡ true
  tiles-entries_of [] at end h = eq-eqb at end (omega arith)
  tiles-entries_of (r ∷ rs) at end h =
      rw (eq-eqb at at refl)
      (tiles-entries_of rs (at + length (record_bytes L.id r)) end (omega (arith, length-append (record_bytes L.id r) (each (record_bytes L.id) rs))))

  pub entries_of-ok : (rs : List Record) (at : ℕ) → at + length (each (record_bytes L.id) rs) < 256 ^ L.place → All (EntryOk L.place) (entries_of L at rs)
  entries_of-ok [] at h = tt
  entries_of-ok (r ∷ rs) at h =
      let k = length-append (record_bytes L.id r) (each (record_bytes L.id) rs) in
      ((omega arith, omega arith), entries_of-ok rs (at + length (record_bytes L.id r)) (omega arith))

  pub header-length : (h : Header) → length (header_bytes L h) ≡ header_size L
  header-length h = simp (length-append, field-length) (omega arith)

  pub image-length : (D m : ℕ) (rs : List Record) → length (image_of L D m rs) ≡ body_at L (length rs) + length (each (record_bytes L.id) rs)
  image-length D m rs = simp (length-append, field-length, entries-length, entries_of-length) (omega arith)
