-- `read_parts` meets its contract. Assumes nothing.
use native.Mathlib.Omega.{arith}
use lib.ListN.{length-map}
use Rattle.image_read_parts.specs.Recorded.{record_in}
use Rattle.image_read_parts.proofs.Indexing.{at-kind}
use Rattle.step_rows.specs.RecordRows.{pairs_of}
use Rattle.step_rows.proofs.RowLaws.{row-length}
use Rattle.step_statement_substitute.proofs.SubstituteLaws.{pairs-short}
use Rattle.step_statement_substitute.proofs.substitute.read_parts.Goals as goal

pub returns : goal.returns
returns c =
    let n = c.args.node.now in
    let ps = pairs_of (record_in n) in
    record {
      targets' = c.target_row-targets.ensures;
      sources' = c.source_row-sources.ensures;
      few = omega (arith, row-length c.target_row-targets.result c.target_row-targets.ensures, length-map ps (λ p. p.0.var.id), pairs-short n.image.frame n.image.bytes.now n.index n.image.ready (at-kind n c.requires));
    }
