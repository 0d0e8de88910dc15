-- `linearize` of an Exit meets its contract. Assumes nothing.
use Rattle.image_write_directory.proofs.EmitLaws.{keeps_same}
use Rattle.pass_step.proofs.WriteLaws.{recorded}
use Rattle.pass_statement_exit.proofs.ExitLaws.{exit-leaves}
use Rattle.pass_statement_exit.proofs.exit.linearize.Goals as goal

pub returns : goal.returns
returns c =
    let z = recorded _ (keeps_same c.args.output.now) c.put_exit.ensures c.note.ensures in
    (exit-leaves c.exit-statement.result.var _ c.exit-statement.ensures c.used-var.ensures z.puts z.noted, z.keeps)
