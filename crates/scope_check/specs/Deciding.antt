-- What the walk's verdict says, and the program of an image's records.
use Rattle.std.specs.Prelude.{ℕ, cond, List, Ok, Err}
use Rattle.model.specs.Syntax.{Prog}
use Rattle.image_spec.specs.Records.{Record}
use Rattle.image_spec.specs.declared.Refusal.TheVariants.{Limits, Binders, Scope, MaxId}
use Rattle.image_spec.specs.Answers.{Answer}
use Rattle.scope_spec.specs.declared.Verdict.{Verdict}
use Rattle.scope_check.specs.Definitions.{defs_in}

-- the first no of questions 7 (the room) to 10
abbrev pub decided : Verdict → ℕ → Answer
decided v m = cond v.room (cond v.binders (cond v.uses (cond v.ids (Ok (record { length = 0; max_id = m })) (Err MaxId)) (Err Scope)) (Err Binders)) (Err Limits)

abbrev pub program_in : ℕ → List Record → ℕ → Prog
program_in d rs m = record { defs = defs_in d rs; max_id = m }
