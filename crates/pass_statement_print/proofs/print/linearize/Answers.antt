-- `linearize` of a PrintI64 meets its contract: the mask with its var is what the filter keeps by. Assumes nothing.
use mathlib.Core.Path.{refl, ◌∙◌}
use Rattle.pass_entries.specs.Masks.{in_mask}
use Rattle.pass_context.specs.Holding.{work_of}
use Rattle.pass_step.proofs.RightLaws.{kept-right}
use Rattle.pass_step.proofs.WriteLaws.{recorded}
use Rattle.pass_step.proofs.BindLaws.{retained-emits}
use Rattle.pass_statement_print.proofs.PrintLaws.{retains_steps, print-steps}
use Rattle.pass_statement_print.proofs.print.linearize.Goals as goal

pub returns : goal.returns
returns c =
    let kept = c.filter_by_set-new_context.ensures in
    let o = c.print-statement.result in
    let W = work_of c.args.here.now.context in
    let right = kept-right (in_mask c.with_places-free_vars.result) c.args.here.now.context kept in
    let k = c.arrange_kept.ensures in
    let z = recorded _ k.1 c.put_print.ensures c.note.ensures in (
      print-steps o.newline o.var c.requires.1.0 c.print-statement.ensures c.with_places-free_vars.ensures c.used-var.ensures
          (retains_steps _ W _ (retained-emits _ W kept right k.0 z.puts z.noted) kept refl (z.noted.max_id ∙ k.0.max_id)),
      z.keeps,
    )
