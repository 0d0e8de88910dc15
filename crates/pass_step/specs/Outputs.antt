-- What a step does to the output, in which it writes.
use Rattle.std.specs.Prelude.{ℕ, List}
use Rattle.image_spec.specs.Records.{Record}
use Rattle.image_write_directory.specs.declared.output.Output.{Output}
use Rattle.image_write_directory.specs.Outputs.{so_far, Keeps, Unwritten}
use Rattle.pass_context.specs.Holding.{work_of}
use Rattle.pass_context.specs.declared.Held.{Held}
use Rattle.pass_step_spec.specs.Steps.{Step}
use Rattle.pass_step.specs.declared.working.Working.{Working}
use Rattle.pass_step.specs.Stepping.{Stepped, Opened, Arranges, Steps, StepsAs, LeavesAs, OpensAs}

-- what was left, with how far the output has come
abbrev pub stepped_to : Working → Output → Stepped
stepped_to r o = record { context = r.context; in_scope = r.in_scope; progress = so_far o }

abbrev pub opened_to : Rattle.pass_step.specs.declared.working.Opened.Opened → Output → Opened
opened_to r o = record { context = r.context; right = r.right; progress = so_far o }

-- these records were written, one at most
abbrev pub ArrangesIn : Output → Output → (R : List Record) → Type 0
ArrangesIn o o' R = Arranges o.writer.id o.writer.out.now o'.writer.out.now o.lengths.now o'.lengths.now (so_far o) (so_far o') R × Keeps o o'

-- the step was made
abbrev pub StepsIn : Output → Output → Working → Step → Type 0
StepsIn o o' r x = Steps o.writer.id o.writer.out.now o'.writer.out.now o.lengths.now o'.lengths.now (so_far o) (stepped_to r o') x × Keeps o o'

-- .. for the record, with these masks of its clauses and of its bodies
abbrev pub StepsFor : Output → Output → Record → (clauses next : ℕ) → (here r : Working) → Type 0
StepsFor o o' z clauses next here r = StepsAs o.writer.id z clauses next (work_of here.context) here.in_scope o.writer.out.now o'.writer.out.now o.lengths.now o'.lengths.now (so_far o) (stepped_to r o') × Keeps o o'

abbrev pub LeavesFor : Output → Output → Record → (clauses next : ℕ) → (here : Working) → Type 0
LeavesFor o o' z clauses next here = LeavesAs o.writer.id z clauses next (work_of here.context) here.in_scope o.writer.out.now o'.writer.out.now o.lengths.now o'.lengths.now (so_far o) (so_far o') × Keeps o o'

-- what stands before the clauses has its place, and nothing is written
abbrev pub OpensFor : Output → Output → Record → (clauses next : ℕ) → Held → Rattle.pass_step.specs.declared.working.Opened.Opened → Type 0
OpensFor o o' z clauses next context r = OpensAs o.writer.id z clauses next (work_of context) (so_far o) (opened_to r o') × Unwritten o o'
