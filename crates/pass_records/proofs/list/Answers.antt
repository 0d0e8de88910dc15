-- `list` meets its contract: j bindings are stored, and the others stand behind. Assumes nothing.
use mathlib.Core.Path.{refl}
use native.Mathlib.Omega.{arith}
use Rattle.std.proofs.lemmas.List.{map-set}
use Rattle.syntax.specs.Flat.{binding_of}
use Rattle.syntax.proofs.Lists.{long}
use Rattle.syntax.proofs.Counts.{bindings-size}
use Rattle.image_read_nodes.proofs.ListLaws.{list-run}
use Rattle.pass_records.proofs.FillLaws.{filling_start, filling_inside, filling_turn, filling_end}
use Rattle.pass_records.proofs.list.Goals as goal

pub bounds-fields-at : goal.bounds-fields-at
bounds-fields-at c = (list-run c.args.fields.now.id c.requires.stands).inside

pub loop-j-init : goal.loop-j-init
loop-j-init c = filling_start c.args.fields.now.id c.requires c.from-n.ensures (bindings-size c.empty-out.result)

pub binding_at-requires : goal.binding_at-requires
binding_at-requires c = record { width = c.requires.width; inside = filling_inside c.args.fields.now.id c.loop-j.invariant c.loop-j-test.true }

pub bounds-out-j : goal.bounds-out-j
bounds-out-j c =
    let l = c.loop-j in
    omega (arith, long binding_of l.out.0 l.invariant.size, l.invariant.count, l.invariant.list.small)

pub loop-j-preserved : goal.loop-j-preserved
loop-j-preserved c =
    let l = c.loop-j in
    let t = filling_turn c.args.fields.now.id l.invariant c.loop-j-test.true c.binding_at.ensures in
    rw (map-set binding_of l.out.0 l.j c.flat.result, c.flat.ensures) t

pub returns : goal.returns
returns c = filling_end c.args.fields.now.id c.loop-j.invariant c.loop-j-test.false refl refl
