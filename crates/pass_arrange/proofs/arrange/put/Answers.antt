-- `put` meets its contract: as many pairs as the loop has seen stand behind the kind and the count. Assumes nothing.
use mathlib.Core.Path.{◌∙◌}
use mathlib.Core.List.{map}
use native.Mathlib.Omega.{arith}
use lib.ListN.{take, length-map, length-take}
use Rattle.std.proofs.lemmas.List.{take_all, take-map}
use Rattle.syntax_substitution.specs.Pairs.{pair_of}
use Rattle.pass_arrange.proofs.ArrangeLaws.{written-pair, puts_record}
use Rattle.pass_arrange.proofs.arrange.put.Goals as goal

pub put_pair-requires : goal.put_pair-requires
put_pair-requires c =
    let a = c.args.all.now in
    omega (arith, length-take a.len a.pairs, c.loop-pair.invariant.0.far, c.loop-pair-test.true, c.put_substitute.ensures.puts.ends, a.fits, c.requires)

pub loop-pair-preserved : goal.loop-pair-preserved
loop-pair-preserved c =
    let a = c.args.all.now in
    let w = c.args.writer.now in
    let i = c.loop-pair.invariant in
    let p = c.put_pair.ensures in
    let pair = rw i.1.0 at p.puts in
    (written-pair w.id (take a.len a.pairs) (omega (arith, w.narrow)) c.loop-pair-test.true pair i.0, (p.id ∙ i.1.0, p.same ∙ i.1.1))

pub returns : goal.returns
returns c =
    let a = c.args.all.now in
    let s = c.put_substitute.ensures in
    let j = c.loop-pair.invariant in
    let seen = take_all c.loop-pair.pair-index (map pair_of (take a.len a.pairs)) (rw (length-map (take a.len a.pairs) pair_of) c.loop-pair-test.false) in
    let pairs = rw (seen, ← take-map pair_of a.len a.pairs) at j.0.puts in
    record { puts = puts_record c.args.writer.now.id a s.puts pairs; id = j.1.0; same = j.1.1 ∙ s.same }
