-- `linearize_program` meets its contract. Assumes nothing.
use Prim.Native.Nat.{ℕ}
use mathlib.Core.Path.{◌≡◌, sym, ap, ◌∙◌, subst}
use mathlib.Core.List.{List}
use native.Mathlib.Omega.{arith}
use borrow.Author.Rules.{rules}
use Rattle.image_directory.specs.Slots.{records_in}
use Rattle.image_spec.specs.Shape.{flatten_defs}
use Rattle.image_write_directory.specs.Outputs.{so_far}
use Rattle.image_write_parts.proofs.Putting.{puts-same}
use Rattle.scope_check.specs.Definitions.{defs_in}
use Rattle.pass_work_spec.specs.Work.{work_defs}
use Rattle.pass_finish.specs.Finishing.{Finishes}
use Rattle.pass_walk.specs.Walking.{Writes}
use Rattle.pass_program.proofs.ProgramLaws.{defs-ahead, finishable, closed}
use Rattle.pass_program.proofs.linearize_program.Goals as goal
use Rattle.pass_program.proofs.linearize_program.Goals.{After-definitions}

-- what was written, from where the records of a program with as many records begin
written : (c : After-definitions) →
    let a = c.args in
    let g = a.opened.now.image.frame in
    let done = work_defs (defs_in a.opened.now.definitions (records_in g a.opened.now.image.bytes.now)) a.opened.now.max_id in
    let o = c.definitions.new.output in
    Writes g.id a.writer.now.out.now o.writer.out.now a.lengths.now o.lengths.now (record { at = g.start; count = 0; max_id = a.opened.now.max_id }) (so_far o) (flatten_defs done.0) done.1
written c =
    let a = c.args in
    let e = c.requires.1.1.1 in
    let m = a.opened.now.max_id in
    let o = c.definitions.new.output in
    let done = work_defs (defs_in a.opened.now.definitions (records_in a.opened.now.image.frame a.opened.now.image.bytes.now)) m in
    let t : c.take.result.now ≡ a.writer.now.out.now = search rules in
    subst (λ (z : ℕ). Writes z a.writer.now.out.now o.writer.out.now a.lengths.now o.lengths.now (record { at = a.opened.now.image.frame.start; count = 0; max_id = m }) (so_far o) (flatten_defs done.0) done.1) e.id
    (subst (λ (z : ℕ). Writes a.writer.now.id a.writer.now.out.now o.writer.out.now a.lengths.now o.lengths.now (record { at = z; count = 0; max_id = m }) (so_far o) (flatten_defs done.0) done.1) e.at
    (subst (λ (z : List ℕ). Writes a.writer.now.id z o.writer.out.now a.lengths.now o.lengths.now (record { at = a.writer.now.at; count = 0; max_id = m }) (so_far o) (flatten_defs done.0) done.1) t c.definitions.ensures.0))

pub definitions-requires : goal.definitions-requires
definitions-requires c =
    let h = c.requires in
    rw (h.1.1.1.at, h.1.1.1.id) (defs-ahead c.args.opened.now.image.ready h.0 h.1.0)

pub finish-answer-requires : goal.finish-answer-requires
finish-answer-requires c =
    let h = c.requires in
    let w = written (goal.at.finish-answer-requires c).After-definitions in
    rw (h.1.1.1.at) (finishable c.args.opened.now.image.ready h.0 w (omega (arith, h.1.1.0, puts-same w.emits.noted)))

pub returns : goal.returns
returns c =
    let h = c.requires in
    let w = written (goal.at.returns c).After-definitions in
    let o = c.definitions.new.output in
    let f = subst (λ (z : ℕ). Finishes c.args.layout c.args.opened.now.definitions z (so_far o) o.lengths.now o.writer.out.now c.finish-answer.new.output.writer.out.now c.finish-answer.result) h.1.1.1.at c.finish-answer.ensures.0 in
    (closed c.args.opened.now.image.ready h.0 w f, search rules)
