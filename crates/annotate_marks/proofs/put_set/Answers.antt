use mathlib.Core.Path.{◌∙◌}
use Rattle.scope_spec.specs.Marking.{marked_from}
use Rattle.annotate_marks.proofs.MarkedLaws.{set-put}
use Rattle.annotate_marks.proofs.put_set.Goals as goal

pub returns : goal.returns
returns c =
    let xs = marked_from 0 c.args.row.now in
    let p = c.number.ensures in
    let q = c.put_marked.ensures in
    record {
      puts = set-put c.args.writer.now.id xs p.puts c.count_marked.ensures (rw p.id at q.puts);
      id = q.id ∙ p.id;
      same = q.same ∙ p.same;
    }
