-- What linearization answers: the calls of `axcut_linearize`, for every input. (The answer's forms are those of annotation: scope_spec/specs/Calls.antt.)
use Rattle.std.specs.Prelude.{ℕ, Bool, ◌&&◌, List, leb, length}
use Rattle.model.specs.Syntax.{Prog}
use Rattle.model.specs.Pass.{linearize}
use Rattle.model.specs.Questions.{question6, question7, question8, question9, question10, question11}
use Rattle.image_spec.specs.declared.Layout.{Layout}
use Rattle.image_spec.specs.declared.Refusal.TheVariants.{Linearized, Limits, Binders, Scope, MaxId, Draws, Room}
use Rattle.image_spec.specs.Layout.{layout1}
use Rattle.image_spec.specs.Image.{image}
use Rattle.image_spec.specs.Reading.{reading}
use Rattle.scope_spec.specs.Calls.{Reply, writes, reply_if_yes, reply_after}

-- document 01, question 12: does the answer fit the lent buffer, an image also 65,535 bytes?
unfoldable pub question12 : Layout → Prog → (size : ℕ) → Bool
question12 L P size = leb (length (image L (linearize P))) size && leb (length (image L (linearize P))) L.largest

-- document 01, "The questions": linearization 1 to 12. Acceptance reports the bytes written, linearization its closing max_id
unfoldable pub linearizing : Layout → Prog → (size : ℕ) → Reply
linearizing L P size =
    reply_if_yes (question6 P) Linearized
    (reply_if_yes (question7 P) Limits
    (reply_if_yes (question8 P) Binders
    (reply_if_yes (question9 P) Scope
    (reply_if_yes (question10 P) MaxId
    (reply_if_yes (question11 P) Draws
    (reply_if_yes (question12 L P size) Room
    (writes (image L (linearize P)) (linearize P).max_id)))))))

-- document 01, "The questions": the first no over the whole image decides
unfoldable pub linearize_of : Layout → List ℕ → (size : ℕ) → Reply
linearize_of L s size = reply_after (reading L s) (λ P. linearizing L P size)

-- a call of `axcut_linearize`, with this buffer lent. document 01, "Contracts": number, length, max_id and each byte of each lent buffer are
-- what this gives for the call (`Told`, scope_spec/specs/Calls.antt)
unfoldable pub linearize_call : List ℕ → (out : List ℕ) → Reply
linearize_call s out = linearize_of layout1 s (length out)
