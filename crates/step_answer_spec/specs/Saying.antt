-- What a stepper's call answers, as number, steps and bytes of events; and what its questions leave known.
use Rattle.std.specs.Prelude.{ℕ, List, Result, Ok, Err}
use Rattle.model.specs.Syntax.{Prog}
use Rattle.image_spec.specs.Answers.{number_of}
use Rattle.step_spec.specs.Calls as calls
use Rattle.step_spec.specs.Calls.{unchanged}
use Rattle.step_spec.proofs.Stepping.{Readable}
use Rattle.image_directory.specs.declared.Frame.{Frame}
use Rattle.step_rule.specs.Rules.{ImageOf}
use Rattle.step_answer_spec.specs.declared.Shown.{Shown}
use Rattle.step_answer_spec.specs.declared.Failure.{Failure}
use Rattle.step_answer_spec.specs.declared.Failure.TheVariants.{Refused, NoState, NoRoom}

-- document 02, A.2: 14 for a start or a store, 15 beside the steps and event bytes already made. The buffers are as the call left them
abbrev pub result_of : Result Shown Failure → (store events : List ℕ) → calls.Result
result_of (Err (Refused q)) store events = unchanged (number_of q) store events
result_of (Err NoState) store events = unchanged 14 store events
result_of (Err (NoRoom s)) store events = record { number = 15; steps = s.steps; length = s.length; store = store; events = events }
result_of (Ok s) store events = record { number = 0; steps = s.steps; length = s.length; store = store; events = events }

-- an image whose questions were answered with yes: it is that of a program, which can be stepped
pub record Accepted (g : Frame) (D : ℕ) (bytes : List ℕ) : Type 0 where
  pub program : Prog
  pub is : ImageOf program g D bytes
  pub readable : Readable program
