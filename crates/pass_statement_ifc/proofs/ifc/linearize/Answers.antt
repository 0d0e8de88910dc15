-- `linearize` of an IfC meets its contract. Assumes nothing.
use borrow.Author.Rules.{rules}
use Rattle.image_write_directory.proofs.EmitLaws.{keeps_same}
use Rattle.pass_step.proofs.WriteLaws.{recorded}
use Rattle.pass_context.specs.Holding.{work_of}
use Rattle.syntax.specs.Options.{option_of}
use Rattle.pass_statement_ifc.proofs.IfCLaws.{ifc-leaves, used-map}
use Rattle.pass_statement_ifc.proofs.ifc.linearize.Goals as goal

pub returns : goal.returns
returns c =
    let a = c.ifc-statement.result in
    let snd = used-map (work_of c.args.here.now.context) a.snd c.map-snd.result c.map-snd.ensures.cases (λ x y p. search rules) in
    let z = recorded _ (keeps_same c.args.output.now) c.put_ifc.ensures c.note.ensures in
    (ifc-leaves a.sort a.fst (option_of a.snd) _ c.ifc-statement.ensures c.used-fst.ensures snd z.puts z.noted, z.keeps)
