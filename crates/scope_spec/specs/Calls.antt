-- What the scope check and annotation answer: the calls of `axcut_check` and `axcut_annotate`, for every input.
use Rattle.std.specs.Prelude.{ℕ, ◌≡◌, Bool, true, false, List, [], ◌∷◌, ◌++◌, leb, length, drop, replicate, Ok, Err}
use Rattle.std.proofs.lemmas.List.Edits.{sets}
use Rattle.syntax.specs.declared.names.VarId.{VarId}
use Rattle.model.specs.Syntax.{Prog}
use Rattle.model.specs.FreeVars.{annotations}
use Rattle.model.specs.Questions.{question6, question7, question8, question9, question10}
use Rattle.image_spec.specs.declared.Layout.{Layout}
use Rattle.image_spec.specs.declared.Refusal.{Refusal}
use Rattle.image_spec.specs.declared.Refusal.TheVariants.{Size, LayoutNumber, Directory, RecordForm, Shape, Linearized, Limits, Binders, Scope, MaxId, Draws, Room, Place}
use Rattle.image_spec.specs.Parse.{each, field}
use Rattle.image_spec.specs.Layout.{layout1}
use Rattle.image_spec.specs.Records.{Record, definition, substitute, call, let', switch, create, invoke, literal, op, ifc, clause', print, exit}
use Rattle.image_spec.specs.Shape.{flatten_defs, max_depth}
use Rattle.image_spec.specs.Answers.{Answer, Report, Reports, report}
use Rattle.image_spec.specs.Reading.{Reading, refuse, accept, if_yes, reading, answer_of}
use Rattle.image_places_spec.specs.Places.{stmt_at}

-- what is asked of a program that is read
abbrev pub after_reading : Reading → (Prog → Reading) → Reading
after_reading (refuse q) k = refuse q
after_reading (accept p) k = k p

-- document 01, "The questions": the scope check 1 to 10
unfoldable pub checking : Prog → Reading
checking P =
    if_yes (question6 P) Linearized
    (if_yes (question7 P) Limits
    (if_yes (question8 P) Binders
    (if_yes (question9 P) Scope
    (if_yes (question10 P) MaxId
    (accept P)))))

unfoldable pub check_of : Layout → List ℕ → Reading
check_of L s = after_reading (reading L s) checking

-- a call of `axcut_check`. document 01, "The questions": acceptance reports the bytes written (0 for reading and the scope check)
unfoldable pub check_call : List ℕ → Report
check_call s = report (answer_of (check_of layout1 s))

-- what a call with a lent buffer answers: a refusal, or bytes and a max_id
pub data Reply : Type 0 where
  refuses : Refusal → Reply
  writes : (bytes : List ℕ) (max_id : ℕ) → Reply

abbrev pub reply_answer : Reply → Answer
reply_answer (refuses q) = Err q
reply_answer (writes bytes m) = Ok (record { length = length bytes; max_id = m })

-- document 01, "The questions": numbers 11 and 12 set the whole output buffer to zero; others leave it
abbrev pub after_refusal : Refusal → List ℕ → List ℕ
after_refusal Size out = out
after_refusal LayoutNumber out = out
after_refusal Directory out = out
after_refusal RecordForm out = out
after_refusal Shape out = out
after_refusal Linearized out = out
after_refusal Limits out = out
after_refusal Binders out = out
after_refusal Scope out = out
after_refusal MaxId out = out
after_refusal Draws out = replicate (length out) 0
after_refusal Room out = replicate (length out) 0
after_refusal Place out = out

-- .. after acceptance, bytes past the length stay
abbrev pub reply_buffer : Reply → List ℕ → List ℕ
reply_buffer (refuses q) out = after_refusal q out
reply_buffer (writes bytes m) out = sets out 0 bytes

-- document 01, question 13: below N and one with an annotation (Let, Switch, Create, Literal, Op; document 02, A.1: PrintI64 carrying an annotation)
abbrev pub has_annotation_lem : Record → Bool
has_annotation_lem (definition x Γ) = false
has_annotation_lem (substitute ps) = false
has_annotation_lem (call x Γ) = false
has_annotation_lem (let' v t g Γ) = true
has_annotation_lem (switch v t n) = true
has_annotation_lem (create v t e n) = true
has_annotation_lem (invoke v g t Γ) = false
has_annotation_lem (literal z v) = true
has_annotation_lem (op f o s v) = true
has_annotation_lem (ifc c f s) = false
has_annotation_lem (clause' x Γ) = false
has_annotation_lem (print n v) = true
has_annotation_lem (exit v) = false

abbrev pub first_has : List Record → Bool
first_has [] = false
first_has (r ∷ rs) = has_annotation_lem r

abbrev pub question13 : Prog → ℕ → Bool
question13 P i = first_has (drop i (flatten_defs P.defs))

-- document 01, "The image": an annotation is a two-byte count and the IDs ascending, two bytes each
abbrev pub set_bytes : (w : ℕ) → List VarId → List ℕ
set_bytes w xs = field 2 (length xs) ++ each (λ (x : VarId). field w x.0) xs

-- the annotation of the statement whose record is at place i
unfoldable pub annotation_bytes : (w : ℕ) → Prog → ℕ → List ℕ
annotation_bytes w P i = each (set_bytes w) (annotations (stmt_at max_depth (flatten_defs P.defs) i))

-- a no is the answer; after a yes, the questions that follow decide
abbrev pub reply_if_yes : Bool → Refusal → Reply → Reply
reply_if_yes true q next = next
reply_if_yes false q next = refuses q

abbrev pub reply_after : Reading → (Prog → Reply) → Reply
reply_after (refuse q) k = refuses q
reply_after (accept p) k = k p

-- document 01, "The questions": 13, then 12: does the answer fit the lent buffer?
unfoldable pub placing : (w : ℕ) → Prog → (place size : ℕ) → Reply
placing w P i size =
    reply_if_yes (question13 P i) Place
    (reply_if_yes (leb (length (annotation_bytes w P i)) size) Room
    (writes (annotation_bytes w P i) P.max_id))

-- document 01, "The questions": annotation 1 to 7, 13, 12
unfoldable pub annotating : (w : ℕ) → Prog → (place size : ℕ) → Reply
annotating w P i size = reply_if_yes (question6 P) Linearized (reply_if_yes (question7 P) Limits (placing w P i size))

unfoldable pub annotate_of : Layout → List ℕ → (place size : ℕ) → Reply
annotate_of L s i size = reply_after (reading L s) (λ P. annotating L.id P i size)

-- the answer, and the buffer before and after, are those of the reply
pub record Replies (R : Reply) (answer : Answer) (before after : List ℕ) : Type 0 where
  pub answers : answer ≡ reply_answer R
  pub leaves : after ≡ reply_buffer R before

-- a call of `axcut_annotate`, with this buffer lent
unfoldable pub annotate_call : List ℕ → (place : ℕ) → (out : List ℕ) → Reply
annotate_call s i out = annotate_of layout1 s i (length out)

-- number, length and max_id, and the buffer before and after, are those of the reply
pub record Told (R : Reply) (number length max_id : ℕ) (before after : List ℕ) : Type 0 where
  pub reports : Reports (report (reply_answer R)) number length max_id
  pub leaves : after ≡ reply_buffer R before
