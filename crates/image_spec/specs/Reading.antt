-- Questions 1 to 5 as tests of any list of bytes, and what reading answers: the first no, or the program.
use Rattle.std.specs.Prelude.{ℕ, List, [], Bool, true, false, ◌&&◌, leb, eqb, length, Ok, Err}
use Rattle.std.proofs.Math.Option.{Option}
use Rattle.model.specs.Syntax.{Def, Prog}
use Rattle.image_spec.specs.declared.Layout.{Layout}
use Rattle.image_spec.specs.declared.Refusal.{Refusal}
use Rattle.image_spec.specs.declared.Refusal.TheVariants.{Size, LayoutNumber, Directory, RecordForm, Shape}
use Rattle.image_spec.specs.Layout.{layout1, max_records, header_size, body_at}
use Rattle.image_spec.specs.Records.{Record}
use Rattle.image_spec.specs.Shape.{definitions}
use Rattle.image_spec.specs.Image.{if_got, if_some, is_some, Header, header, tiled_from, records_from}
use Rattle.image_spec.specs.Answers.{Answer, Report, report}

module _ (L : Layout) (s : List ℕ) where
  -- the numbers of the header; zeros where there is none
  abbrev pub header_of : Header
  header_of = if_got (header L s) (0, (0, (0, 0))) (λ h _. h)

  abbrev pub definition_count : ℕ
  definition_count = header_of.1.0

  abbrev pub max_id_of : ℕ
  max_id_of = header_of.1.1.0

  abbrev pub record_count : ℕ
  record_count = header_of.1.1.1

  -- the records, where they are all formed
  unfoldable pub records_of : Option (List Record)
  records_of = records_from L.id L.place record_count (header_size L) (body_at L record_count) s

  -- the definitions, where they are all there
  unfoldable pub definitions_of : Option (List Def)
  definitions_of = definitions definition_count (if_some records_of [] (λ rs. rs))

  -- document 01, question 1: has it 8 to 65,535 bytes?
  unfoldable pub question1 : Bool
  question1 = leb (header_size L) (length s) && leb (length s) L.largest

  -- document 01, question 2: is the layout number 1?
  unfoldable pub question2 : Bool
  question2 = if_got (header L s) false (λ h _. eqb h.0 L.number)

  -- document 01, question 3: is N at most 4,000, and do the pairs tile the bytes from 8 + 4 × N to the end?
  unfoldable pub question3 : Bool
  question3 = leb record_count max_records && tiled_from L.place record_count (header_size L) (body_at L record_count) s

  -- document 01, question 4: is each record of kind 1 to 11 (document 02, A.1: 1 to 13), of exactly its length, ..? (Records.antt)
  unfoldable pub question4 : Bool
  question4 = is_some records_of

  -- document 01, question 5: are the records D definitions in the order above, at most 128 statements deep? (Shape.antt)
  unfoldable pub question5 : Bool
  question5 = is_some definitions_of

  -- the program that is read where the five answers are yes
  unfoldable pub program_of : Prog
  program_of = record { defs = if_some definitions_of [] (λ ds. ds); max_id = max_id_of }

-- the program that is read, or the question whose answer is no
pub data Reading : Type 0 where
  refuse : Refusal → Reading
  accept : Prog → Reading

-- a no is the answer; after a yes, the questions that follow decide
abbrev pub if_yes : Bool → Refusal → Reading → Reading
if_yes true q next = next
if_yes false q next = refuse q

-- document 01, "The questions": the first no over the whole image decides. Reading takes 1 to 5
unfoldable pub reading : Layout → List ℕ → Reading
reading L s =
    if_yes (question1 L s) Size
    (if_yes (question2 L s) LayoutNumber
    (if_yes (question3 L s) Directory
    (if_yes (question4 L s) RecordForm
    (if_yes (question5 L s) Shape
    (accept (program_of L s))))))

-- document 01, "The questions": acceptance reports the bytes written (0 for reading) and the image's max_id
abbrev pub answer_of : Reading → Answer
answer_of (refuse q) = Err q
answer_of (accept p) = Ok (record { length = 0; max_id = p.max_id })

-- a call of `axcut_read`
unfoldable pub read_call : List ℕ → Report
read_call s = report (answer_of (reading layout1 s))
