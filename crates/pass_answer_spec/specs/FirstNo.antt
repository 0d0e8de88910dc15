-- The twelve questions of linearization in one list, and what it is that a question has the first no.
-- (proofs/Replies.antt: a refusal comes exactly at the first no, bytes exactly where all answers are yes.)
use Rattle.std.specs.Prelude.{ℕ, ◌≡◌, ◌⊎◌, Bool, true, false, List, [], ◌∷◌}
use Rattle.model.specs.Questions.{question6, question7, question8, question9, question10, question11}
use Rattle.image_spec.specs.declared.Layout.{Layout}
use Rattle.image_spec.specs.declared.Refusal.{Refusal}
use Rattle.image_spec.specs.declared.Refusal.TheVariants.{Size, LayoutNumber, Directory, RecordForm, Shape, Linearized, Limits, Binders, Scope, MaxId, Draws, Room}
use Rattle.image_spec.specs.Reading.{question1, question2, question3, question4, question5, program_of}
use Rattle.pass_answer_spec.specs.Calls.{question12}

-- document 01, "The questions": linearization 1 to 12: each one's answer, and the refusal at a no. (From 6 on they are asked of the program that
-- is read where the first five answers are yes.)
unfoldable pub questions : Layout → List ℕ → (size : ℕ) → List (Bool × Refusal)
questions L s size =
    (question1 L s, Size)
    ∷ (question2 L s, LayoutNumber)
    ∷ (question3 L s, Directory)
    ∷ (question4 L s, RecordForm)
    ∷ (question5 L s, Shape)
    ∷ (question6 (program_of L s), Linearized)
    ∷ (question7 (program_of L s), Limits)
    ∷ (question8 (program_of L s), Binders)
    ∷ (question9 (program_of L s), Scope)
    ∷ (question10 (program_of L s), MaxId)
    ∷ (question11 (program_of L s), Draws)
    ∷ (question12 L (program_of L s) size, Room)
    ∷ []

-- document 01, "The questions": the first no: those before it have a yes
abbrev pub FirstNo : List (Bool × Refusal) → Refusal → Type 0
FirstNo [] q = ⊥
FirstNo (t ∷ ts) q = ((t.0 ≡ false) × (t.1 ≡ q)) ⊎ ((t.0 ≡ true) × FirstNo ts q)

abbrev pub AllYes : List (Bool × Refusal) → Type 0
AllYes [] = Unit {0}
AllYes (t ∷ ts) = (t.0 ≡ true) × AllYes ts
