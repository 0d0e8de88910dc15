-- Opening an image, stage by stage, as the code goes: the answers to the questions by what the code has computed. Assumes nothing.
use Prim.Native.Nat.{ℕ, ◌+◌, ◌≤◌, ◌<◌}
use mathlib.Core.List.{List, []}
use mathlib.Core.Bool.{true, false, ◌&&◌}
use mathlib.Core.Path.{◌≡◌, refl, ap, ◌∙◌}
use borrow.Author.Tests.{le-leb, lt-leb, eq-eqb, ne_eqb}
use lib.Dec.{leb, eqb}
use lib.ListN.{length, drop}
use Rattle.image_spec.specs.declared.Layout.{Layout}
use Rattle.image_spec.specs.declared.Refusal.TheVariants.{Size, LayoutNumber, Directory, RecordForm, Shape}
use Rattle.image_spec.specs.Parse.{Parsed, refused, got, and_then, both, number}
use Rattle.image_spec.specs.Layout.{max_records, header_size, body_at}
use Rattle.image_spec.specs.Shape.{definitions}
use Rattle.image_spec.specs.Image.{if_got, if_some, is_some, Header, header, tiled_from, records_from}
use Rattle.image_spec.specs.Reading.{header_of, records_of, definitions_of, question1, question2, question3, question4, question5, program_of}
use Rattle.image_spec.proofs.ReadingLaws.{first_no1, first_no2, first_no3, first_no4, first_no5, all_yes}
use Rattle.image_directory.specs.Slots.{formed_from, records_in}
use Rattle.image_open.specs.Opening.{Head, frame_of, opened_by, opened_of}
use Rattle.std.specs.Prelude.{Ok, Err}

module _ (L : Layout) (s : List ℕ) where
  pub short : length s < header_size L → opened_of L s ≡ Err Size
  unfolding opened_of question1
  short h = let n : question1 L s ≡ false = rw (lt-leb (header_size L) (length s) h) in rw (first_no1 L s n)

  pub long : header_size L ≤ length s → L.largest < length s → opened_of L s ≡ Err Size
  unfolding opened_of question1
  long a h = let n : question1 L s ≡ false = rw (le-leb _ _ a, lt-leb _ _ h) in rw (first_no1 L s n)

  sized : header_size L ≤ length s → length s ≤ L.largest → question1 L s ≡ true
  unfolding question1
  sized a b = rw (le-leb _ _ a, le-leb _ _ b)

module _ (L : Layout) (s : List ℕ) (v : ℕ) (e : number 2 (drop 0 s) ≡ got v (drop 2 s)) where
  not_layout : (v ≡ L.number → ⊥) → question2 L s ≡ false
  unfolding question2
  not_layout h = rw e (go (both (number 2) (both (number L.id) (number L.place)) (drop 2 s)))
    where
      go : (r : Parsed ℕ (ℕ × (ℕ × ℕ))) → if_got {A = Header} (and_then r (λ b k. got (v, b) k)) false (λ h _. eqb h.0 L.number) ≡ false
      go refused = refl
      go (got b k) = ne_eqb _ _ h

  pub other-layout : header_size L ≤ length s → length s ≤ L.largest → (v ≡ L.number → ⊥) → opened_of L s ≡ Err LayoutNumber
  unfolding opened_of
  other-layout a b h = rw (first_no2 L s (sized L s a b) (not_layout h))

module _ (L : Layout) (s : List ℕ) (D m n : ℕ) (hd : Head L s D m n) where
  head_read : header L s ≡ got (L.number, (D, (m, n))) (drop (4 + L.id + L.place) s)
  head_read = rw (hd.layout, hd.definitions_are, hd.max_id_is, hd.records_are)

  head_of : header_of L s ≡ (L.number, (D, (m, n)))
  head_of = ap (λ r. if_got r (0, (0, (0, 0))) (λ h _. h)) head_read

  y1 : question1 L s ≡ true
  y1 = sized L s hd.least hd.most

  y2 : question2 L s ≡ true
  unfolding question2
  y2 = ap (λ r. if_got r false (λ h _. eqb h.0 L.number)) head_read ∙ eq-eqb L.number L.number refl

  tiled_is : question3 L s ≡ leb n max_records && tiled_from L.place n (header_size L) (body_at L n) s
  unfolding question3
  tiled_is = ap (λ h. leb h.1.1.1 max_records && tiled_from L.place h.1.1.1 (header_size L) (body_at L h.1.1.1) s) head_of

  records-are : records_of L s ≡ records_from L.id L.place n (header_size L) (body_at L n) s
  unfolding records_of
  records-are = ap (λ h. records_from L.id L.place h.1.1.1 (header_size L) (body_at L h.1.1.1) s) head_of

  formed_is : question4 L s ≡ formed_from L.id L.place n (header_size L) (body_at L n) s
  unfolding question4 formed_from
  formed_is = ap is_some records-are

  shape_is : question5 L s ≡ is_some (definitions D (records_in (frame_of L n) s))
  unfolding question5 definitions_of records_in
  shape_is = λ i. is_some (definitions (head_of i).1.0 (if_some (records-are i) [] (λ rs. rs)))

  pub many : max_records < n → opened_of L s ≡ Err Directory
  unfolding opened_of
  many h = let e : question3 L s ≡ false = tiled_is ∙ rw (lt-leb _ _ h) in rw (first_no3 L s y1 y2 e)

  module _ (few : n ≤ max_records) where
    pub gaps : tiled_from L.place n (header_size L) (body_at L n) s ≡ false → opened_of L s ≡ Err Directory
    unfolding opened_of
    gaps h = let e : question3 L s ≡ false = tiled_is ∙ rw (le-leb _ _ few, h) in rw (first_no3 L s y1 y2 e)

    module _ (t : tiled_from L.place n (header_size L) (body_at L n) s ≡ true) where
      y3 : question3 L s ≡ true
      y3 = tiled_is ∙ rw (le-leb _ _ few, t)

      pub unformed : formed_from L.id L.place n (header_size L) (body_at L n) s ≡ false → opened_of L s ≡ Err RecordForm
      unfolding opened_of
      unformed h = rw (first_no4 L s y1 y2 y3 (formed_is ∙ h))

      module _ (f : formed_from L.id L.place n (header_size L) (body_at L n) s ≡ true) where
        pub misshapen : is_some (definitions D (records_in (frame_of L n) s)) ≡ false → opened_of L s ≡ Err Shape
        unfolding opened_of
        misshapen h = rw (first_no5 L s y1 y2 y3 (formed_is ∙ f) (shape_is ∙ h))

        pub accepted : is_some (definitions D (records_in (frame_of L n) s)) ≡ true → opened_of L s ≡ Ok (record { frame = frame_of L n; definitions = D; max_id = m })
        unfolding opened_of program_of
        accepted h = ap (opened_by L s) (all_yes L s y1 y2 y3 (formed_is ∙ f) (shape_is ∙ h)) ∙ (λ i. Ok (record { frame = frame_of L (head_of i).1.1.1; definitions = (head_of i).1.0; max_id = (head_of i).1.1.0 }))
