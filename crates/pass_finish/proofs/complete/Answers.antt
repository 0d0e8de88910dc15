-- `complete` meets its contract: the moved records, the header and the directory, one after the other. Assumes nothing.
use Prim.Native.Nat.{◌-◌}
use mathlib.Core.Path.{refl}
use native.Mathlib.Omega.{arith}
use borrow.Author.Rules.{rules}
use lib.ListN.{take}
use lib.Seq.{length-take-le}
use Rattle.image_spec.specs.Image.{header_bytes}
use Rattle.image_write_parts.specs.Puts.{Puts}
use Rattle.pass_finish.proofs.FinishLaws.{body-small, header-ends, completes}
use Rattle.pass_finish.proofs.complete.Goals as goal
use Rattle.pass_finish.proofs.complete.Goals.{After-put_header}

-- the header is at the beginning
header : (c : After-put_header) → let a = c.args in let o = a.noted.now in
    Puts c.shift.new.writer.out.now c.put_header.new.writer.out.now 0 c.put_header.new.writer.at (header_bytes a.layout (a.layout.number, (a.defs, (o.max_id, o.count))))
header c = search rules

pub put_directory-requires : goal.put_directory-requires
put_directory-requires c =
    let a = c.args in
    let o = a.noted.now in
    let f = c.requires.0 in
    let head = header-ends a.layout _ _ _ (header (goal.at.put_directory-requires c).After-put_header) in (
      omega (arith, f.known.place.1),
      (
        omega (arith, head, length-take-le o.count o.lengths.now f.noted, f.few, f.known.place.1, f.known.id.1),
        omega (arith, c.records_at-body.ensures, body-small a.layout o.count f.known f.few, f.ends, f.near),
      ),
    )

pub returns : goal.returns
returns c =
    let a = c.args in
    let o = a.noted.now in
    let f = c.requires.0 in
    let d = c.put_directory.ensures in
    let s = c.shift.ensures in (
      completes a.layout a.defs o.max_id o.count a.start (a.writer.now.at - a.start) (take o.count o.lengths.now) a.writer.now.out.now f.up c.records_at-body.ensures refl refl
          s.0 (header (goal.at.returns c).After-put_header) d.puts,
      search rules,
    )
