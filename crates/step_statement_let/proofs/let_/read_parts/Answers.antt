-- `read_parts` meets its contract. Assumes nothing.
use mathlib.Core.Path.{refl, ap, ◌∙◌}
use Rattle.syntax.specs.declared.names.Identifier.{Identifier}
use Rattle.image_read_parts.proofs.Indexing.{at-kind}
use Rattle.step_rows.proofs.RecordRowLaws.{list-short}
use Rattle.step_statement_let.proofs.let_.read_parts.Goals as goal

pub returns : goal.returns
returns c =
    let n = c.args.node.now in
    record {
      id = ap (λ (x : Identifier). x.id.0) c.first-var.ensures;
      tag = c.from.ensures ∙ ap (λ (x : Identifier). x.name.0) c.tag_of-tag.ensures;
      args = c.list_row-args.ensures;
      few = list-short c.list_row-args.result n.image.ready (at-kind n c.requires) refl c.list_row-args.ensures;
    }
