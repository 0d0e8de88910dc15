use mathlib.Core.Path.{sym, ap₂, ◌∙◌}
use native.Mathlib.Omega.{arith}
use borrow.Author.Rules.{rules}
use Rattle.image_spec.specs.Fields.{newlines, newline_code_lem}
use Rattle.image_spec.specs.Records.{print}
use Rattle.image_spec.proofs.FieldLaws.{newline_exact}
use Rattle.image_read_parts.specs.Indexed.{record_of}
use Rattle.image_read_parts.proofs.Indexing.{at-kind}
use Rattle.image_read_parts.proofs.PartPlaces.{byte_of}
use Rattle.image_read_parts.proofs.StandingLaws.{stands-room}
use Rattle.image_read_nodes.proofs.NodeLaws.{record_ok}
use Rattle.pass_records.proofs.FieldPlaces.{code-known, PrintThere, print-there}
use Rattle.pass_records.proofs.print.Goals as goal
use Rattle.pass_records.proofs.print.Goals.{Start}

-- where the newline stands
there : (c : Start) → let n = c.args.node.now in PrintThere n.image.frame.id (record_of n.image n.index)
there c =
    let n = c.args.node.now in
    let a = at-kind n c.requires in
    print-there n.image.frame.id (record_of n.image n.index) a.kind (record_ok n.image.frame n.image.bytes.now n.index 12 n.image.ready a)

pub byte-requires : goal.byte-requires
byte-requires c = (c.args.node.now.there.inside, record { inside = stands-room {e = byte_of} (omega arith) (there (goal.at.byte-requires c).Start).newline-at })

pub returns : goal.returns
returns c =
    let t = there (goal.at.returns c).Start in
    let n = code-known newline_code_lem newlines t.newline newline_exact c.newline_of-newline.ensures (c.byte.ensures.is _ t.newline-at) in
    t.is ∙ ap₂ print (sym n) (search rules)
