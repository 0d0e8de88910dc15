-- Images and programs are one to one: the image of a program reads as it (`reads-back`), and an image that reads as a program is
-- the image of it (`only_its_image`). Of any layout whose numbers agree; `layout1-ok`. Assumes nothing.
use Prim.Native.Nat.{ℕ, ◌+◌, ◌*◌, ◌^◌, ◌≤◌, ◌<◌}
use mathlib.Core.List.{List, [], ◌++◌}
use mathlib.Core.Bool.{Bool, true, false, ◌&&◌}
use mathlib.Core.Option.{some}
use mathlib.Core.Path.{◌≡◌, refl, ap, sym, ◌∙◌, subst}
use native.Mathlib.Omega.{arith}
use borrow.Author.Tests.{le-leb, leb-true, eq-eqb, eqb-true}
use lib.Dec.{leb, eqb}
use lib.ListN.{length, drop}
use lib.Seq.{drop_at, drop-drop}
use Rattle.model.specs.Syntax.{Def, Prog}
use Rattle.image_spec.specs.declared.Layout.{Layout}
use Rattle.image_spec.specs.declared.Refusal.{Refusal}
use Rattle.image_spec.specs.Parse.{Parsed, got, times, each, All}
use Rattle.image_spec.specs.Layout.{layout1, max_records, LayoutOk, header_size, body_at}
use Rattle.image_spec.specs.Records.{Record, record_bytes}
use Rattle.image_spec.specs.Shape.{flatten_defs, DefOk, definitions}
use Rattle.image_spec.specs.Image.{if_got, if_some, is_some, Header, header_bytes, header, Entry, entry_bytes, entry, tiles, records_at, tiled_from, records_from, entries_of, image_of, image, ImageOk}
use Rattle.image_spec.specs.Reading.{header_of, definition_count, record_count, records_of, definitions_of, question1, question2, question3, question4, question5, program_of, Reading, accept, if_yes, reading}
use Rattle.image_spec.proofs.ParseLaws.{Sound, none_read, one-read, Exact, both_exact, times_exact, number_exact}
use Rattle.image_spec.proofs.ShapeLaws.{parse_flatten, flatten_parse}
use Rattle.image_spec.proofs.ReadingLaws.{all_yes}
use Rattle.image_spec.proofs.DirectoryLaws.{and_left, and_right, there, entry_exact, entries-length, entries_of-length, Body, body-right, records_at-left, tiles-entries_of, entries_of-ok, header-length, image-length}

module _ (L : Layout) where
  abbrev HeaderOk : Header → Type 0
  HeaderOk h = (h.0 < 256 ^ 2) × ((h.1.0 < 256 ^ 2) × ((h.1.1.0 < 256 ^ L.id) × (h.1.1.1 < 256 ^ L.place)))

  pub header_exact : Exact (header_bytes L) HeaderOk (header L)
  header_exact = both_exact (number_exact 2) (both_exact (number_exact 2) (both_exact (number_exact L.id) (number_exact L.place)))

  -- ---- what reads as a program is the image of it

  yes-accepted : (t : Bool) (q : Refusal) (next : Reading) (p : Prog) → if_yes t q next ≡ accept p → (t ≡ true) × (next ≡ accept p)
  yes-accepted true q next p e = (refl, e)
  yes-accepted false q next p e = let z : ◌≡◌ {A = ℕ} 0 1 = cc (e) in absurd (omega arith)

  -- an image that is accepted: all answers are yes
  pub record Accepts (s : List ℕ) (p : Prog) : Type 0 where
    pub yes1 : question1 L s ≡ true
    pub yes2 : question2 L s ≡ true
    pub yes3 : question3 L s ≡ true
    pub yes4 : question4 L s ≡ true
    pub yes5 : question5 L s ≡ true
    pub is : program_of L s ≡ p

  pub accepts : (s : List ℕ) (p : Prog) → reading L s ≡ accept p → Accepts s p
  unfolding reading
  accepts s p e =
      let a = yes-accepted _ _ _ p e in
      let b = yes-accepted _ _ _ p a.1 in
      let c = yes-accepted _ _ _ p b.1 in
      let d = yes-accepted _ _ _ p c.1 in
      let f = yes-accepted _ _ _ p d.1 in
      record { yes1 = a.0; yes2 = b.0; yes3 = c.0; yes4 = d.0; yes5 = f.0; is = cc f.1 }

  -- the header that question 2 finds
  pub record Opens (s : List ℕ) : Type 0 where
    pub head : Header
    pub read : header L s ≡ got head (drop (header_size L) s)
    pub fits : HeaderOk head
    pub written : s ≡ header_bytes L head ++ drop (header_size L) s
    pub number : head.0 ≡ L.number

  pub opens : (s : List ℕ) → question2 L s ≡ true → Opens s
  unfolding question2
  opens s t = go (header_exact.right s) refl t
    where
      go : {r : Parsed ℕ Header} → Sound (header_bytes L) HeaderOk s r → header L s ≡ r → if_got r false (λ h _. eqb h.0 L.number) ≡ true → Opens s
      go none_read q t = let z : ◌≡◌ {A = ℕ} 0 1 = cc (t) in absurd (omega arith)
      go (one-read {a = h} {m = m} ok e) q t =
          let d : m ≡ drop (header_size L) s = sym (drop_at (header_bytes L h) m (header_size L) (header-length L h)) ∙ ap (drop (header_size L)) (sym e) in
          record { head = h; read = q ∙ ap (got h) d; fits = ok; written = e ∙ ap (λ z. header_bytes L h ++ z) d; number = eqb-true _ _ t }

  -- the program, its records, and the image
  pub record Reads (s : List ℕ) (p : Prog) : Type 0 where
    pub ok : ImageOk L p
    pub written : s ≡ image L p
    pub records : records_of L s ≡ some (flatten_defs p.defs)
    pub count : definition_count L s ≡ length p.defs

  reads : (s : List ℕ) (p : Prog) (o : Opens s) (rs : List Record) (ds : List Def) → length s ≤ L.largest → length rs ≤ max_records
      → records_of L s ≡ some rs → Body L o.head.1.1.1 (drop (header_size L) s) rs
      → ((length ds ≡ o.head.1.0) × All DefOk ds) × (rs ≡ flatten_defs ds) → definition_count L s ≡ o.head.1.0
      → p ≡ record { defs = ds; max_id = o.head.1.1.0 } → Reads s p
  unfolding image
  reads s p o rs ds short few recs b f d e =
      let w : s ≡ image_of L (length ds) o.head.1.1.0 (flatten_defs ds) =
      o.written ∙ (ap (λ z. header_bytes L o.head ++ z) b.written
      ∙ rw (o.number, f.0.0, ← b.count, f.1)) in
      rw e record {
        ok = record {
          definitions_fit = rw f.0.0 o.fits.1.0;
          max_id_fits = o.fits.1.1.0;
          few = rw f.1 at few;
          short = rw w at short;
          formed = rw f.1 at b.formed;
          shallow = f.0.1;
        };
        written = w;
        records = rw f.1 at recs;
        count = d ∙ sym f.0.0;
      }

  pub accepted : (s : List ℕ) (p : Prog) → reading L s ≡ accept p → Reads s p
  unfolding question1 question3 question4 question5 program_of definitions_of records_of
  accepted s p e =
      let a = accepts s p e in
      let o = opens s a.yes2 in
      let hd : header_of L s ≡ o.head = ap (λ r. if_got r (0, (0, (0, 0))) (λ h _. h)) o.read in
      let n : record_count L s ≡ o.head.1.1.1 = ap (λ h. h.1.1.1) hd in
      let q4 = there (records_of L s) a.yes4 in
      let rs = q4.0 in
      let few : record_count L s ≤ max_records = leb-true _ _ (and_left _ _ a.yes3) in
      let b : Body L o.head.1.1.1 (drop (header_size L) s) rs =
      subst (λ n. Body L n (drop (header_size L) s) rs) n (bodies s rs a.yes3 q4.1) in
      let q5 = there (definitions (definition_count L s) (if_some (records_of L s) [] (λ rs. rs))) a.yes5 in
      let ds = q5.0 in
      let f = flatten_parse o.head.1.0 rs ds (shape s o rs ds hd q4.1 q5.1) in
      let few' : length rs ≤ max_records = omega (arith, few, n, b.count) in
      reads s p o rs ds (leb-true _ _ (and_right (leb (header_size L) (length s)) _ a.yes1)) few' q4.1 b f (ap (λ h. h.1.0) hd)
      (sym a.is ∙ program s o ds hd q5.1)
    where
      bodies : (s : List ℕ) (rs : List Record) → question3 L s ≡ true → records_of L s ≡ some rs → Body L (record_count L s) (drop (header_size L) s) rs
      bodies s rs t q = body-right L s (record_count L s) rs (and_right (leb (record_count L s) max_records) _ t) q

      shape : (s : List ℕ) (o : Opens s) (rs : List Record) (ds : List Def) → header_of L s ≡ o.head → records_of L s ≡ some rs
          → definitions (definition_count L s) (if_some (records_of L s) [] (λ rs. rs)) ≡ some ds → definitions o.head.1.0 rs ≡ some ds
      shape s o rs ds hd q e = ap (λ h. definitions h.1.0 rs) (sym hd) ∙ (ap (λ z. definitions (definition_count L s) (if_some z [] (λ rs. rs))) (sym q) ∙ e)

      program : (s : List ℕ) (o : Opens s) (ds : List Def) → header_of L s ≡ o.head
          → definitions (definition_count L s) (if_some (records_of L s) [] (λ rs. rs)) ≡ some ds → program_of L s ≡ record { defs = ds; max_id = o.head.1.1.0 }
      program s o ds hd q = λ i. record { defs = if_some (q i) [] (λ ds. ds); max_id = (hd i).1.1.0 }

  -- no other image reads as this program
  pub only_its_image : (s : List ℕ) (p : Prog) → reading L s ≡ accept p → ImageOk L p × (s ≡ image L p)
  only_its_image s p e = let r = accepted s p e in (r.ok, r.written)

  -- ---- the image of a program reads as it

  record Written (s : List ℕ) (D m n : ℕ) (es : List Entry) (rs : List Record) (ds : List Def) : Type 0 where
    rest : List ℕ
    after : List ℕ
    least : header_size L ≤ length s
    most : length s ≤ L.largest
    head : header L s ≡ got (L.number, (D, (m, n))) rest
    few : n ≤ max_records
    entries : times n (entry L.place) (drop (header_size L) s) ≡ got es after
    tiled : tiles (body_at L n) es (length s) ≡ true
    cut : records_at L.id es (drop (body_at L n) s) ≡ some rs
    defs : definitions D rs ≡ some ds

  accept-written : (s : List ℕ) (D m n : ℕ) (es : List Entry) (rs : List Record) (ds : List Def) → Written s D m n es rs ds
      → reading L s ≡ accept (record { defs = ds; max_id = m })
  unfolding question1 question2 question3 question4 question5 program_of definitions_of records_of tiled_from records_from
  accept-written s D m n es rs ds h =
      let hd : header_of L s ≡ (L.number, (D, (m, n))) = ap (λ r. if_got r (0, (0, (0, 0))) (λ h _. h)) h.head in
      let c : record_count L s ≡ n = ap (λ h. h.1.1.1) hd in
      let y1 : question1 L s ≡ true = rw (le-leb _ _ h.least, le-leb _ _ h.most) in
      let y2 : question2 L s ≡ true = rw h.head (eq-eqb L.number L.number refl) in
      let y3 : question3 L s ≡ true =
      ap (λ n. leb n max_records && tiled_from L.place n (header_size L) (body_at L n) s) c ∙ rw (le-leb _ _ h.few, h.entries) h.tiled in
      let r : records_of L s ≡ some rs = ap (λ n. records_from L.id L.place n (header_size L) (body_at L n) s) c ∙ rw h.entries h.cut in
      let d : definitions_of L s ≡ some ds = (λ i. definitions (hd i).1.0 (if_some (r i) [] (λ rs. rs))) ∙ h.defs in
      all_yes L s y1 y2 y3 (ap is_some r) (ap is_some d) ∙ (λ i. accept (record { defs = if_some (d i) [] (λ ds. ds); max_id = (hd i).1.1.0 }))

  -- the image of a program is read as that program
  pub reads-back : LayoutOk L → (p : Prog) → ImageOk L p → reading L (image L p) ≡ accept p
  unfolding image
  reads-back k p o =
      let rs = flatten_defs p.defs in
      let D = length p.defs in
      let n = length rs in
      let h : Header = (L.number, (D, (p.max_id, n))) in
      let es = entries_of L (body_at L n) rs in
      let eb = each (record_bytes L.id) rs in
      let dir = each (entry_bytes L.place) es in
      let s = image_of L D p.max_id rs in
      let len : length s ≡ body_at L n + length eb = image-length L D p.max_id rs in
      let d : drop (header_size L) s ≡ dir ++ eb = drop_at (header_bytes L h) (dir ++ eb) (header_size L) (header-length L h) in
      let dl : length dir ≡ n * (L.place + L.place) = entries-length L.place es ∙ ap (λ z. z * (L.place + L.place)) (entries_of-length L rs (body_at L n)) in
      let b : drop (body_at L n) s ≡ eb = sym (drop-drop _ (header_size L) s) ∙ (ap (drop (n * (L.place + L.place))) d ∙ drop_at dir eb _ dl) in
      accept-written s D p.max_id n es rs p.defs (record {
        rest = dir ++ eb;
        after = eb;
        least = omega arith;
        most = o.short;
        head = header_exact.left h (k.number_fits, (o.definitions_fit, (o.max_id_fits, omega (arith, o.few, k.records_fit)))) (dir ++ eb);
        few = o.few;
        entries = ap (times n (entry L.place)) d ∙ (times_exact (entry_exact L.place) n).left es (entries_of-length L rs _, entries_of-ok L rs _ (omega (arith, k.places_fit, o.short))) eb;
        tiled = tiles-entries_of L rs (body_at L n) _ (sym len);
        cut = ap (records_at L.id es) b ∙ records_at-left L rs (body_at L n) o.formed;
        defs = parse_flatten p.defs o.shallow;
      })

pub layout1-ok : LayoutOk layout1
layout1-ok = record { number_fits = omega arith; records_fit = omega arith; places_fit = omega arith }
