-- The questions that are asked of each record alone: question 6, and the counts of question 7.
-- (proofs/FlatLaws.antt: over all records they are what the tests of the tree say.)
use Rattle.std.specs.Prelude.{Bool, true, false, ◌&&◌, List, [], ◌∷◌, leb, length}
use Rattle.model.specs.Questions.{is_none}
use Rattle.model.specs.Sizes.{count_environment}
use Rattle.image_spec.specs.Records.{Record, definition, substitute, call, let', switch, create, invoke, literal, op, ifc, clause', print, exit}

-- does every record pass?
abbrev pub all_records_lem : (Record → Bool) → List Record → Bool
all_records_lem f [] = true
all_records_lem f (r ∷ rs) = f r && all_records_lem f rs

-- document 01, question 6: is it free of Substitute and of environments?
abbrev pub plain_record_lem : Record → Bool
plain_record_lem (definition x Γ) = true
plain_record_lem (substitute ps) = false
plain_record_lem (call x Γ) = true
plain_record_lem (let' v t g Γ) = true
plain_record_lem (switch v t n) = true
plain_record_lem (create v t e n) = is_none e
plain_record_lem (invoke v g t Γ) = true
plain_record_lem (literal z v) = true
plain_record_lem (op f o s v) = true
plain_record_lem (ifc c f s) = true
plain_record_lem (clause' x Γ) = true
plain_record_lem (print n v) = true
plain_record_lem (exit v) = true

-- document 01, question 7: counts 32
abbrev pub small_record_lem : Record → Bool
small_record_lem (definition x Γ) = leb (length Γ) 32
small_record_lem (substitute ps) = leb (length ps) 32
small_record_lem (call x Γ) = leb (length Γ) 32
small_record_lem (let' v t g Γ) = leb (length Γ) 32
small_record_lem (switch v t n) = leb n 32
small_record_lem (create v t e n) = leb (count_environment e) 32 && leb n 32
small_record_lem (invoke v g t Γ) = leb (length Γ) 32
small_record_lem (literal z v) = true
small_record_lem (op f o s v) = true
small_record_lem (ifc c f s) = true
small_record_lem (clause' x Γ) = leb (length Γ) 32
small_record_lem (print n v) = true
small_record_lem (exit v) = true
