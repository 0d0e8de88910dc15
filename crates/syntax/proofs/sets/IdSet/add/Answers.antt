-- `IdSet::add` meets its contract. Assumes nothing.
use native.Mathlib.Omega.{arith}
use Rattle.std.proofs.lemmas.List.{take_more_set}
use Rattle.syntax.proofs.Lists.{stored-count}
use Rattle.syntax.proofs.sets.IdSet.add.Goals as goal

pub returns : goal.returns
returns c =
    let s = c.args.self in
    record {
      count = stored-count s.ids s.len c.args.id (omega (arith, s.size));
      list = take_more_set s.ids s.len c.args.id (omega (arith, s.size));
    }
