-- `TypingContext::push` meets its contract. Assumes nothing.
use native.Mathlib.Omega.{arith}
use Rattle.syntax.specs.Flat.{binding_of}
use Rattle.syntax.specs.Arrays.{bindings_in}
use Rattle.syntax.proofs.Lists.{stored-count}
use Rattle.syntax.proofs.Counts.{bindings-size}
use Rattle.syntax.proofs.Flats.{seen_stored}
use Rattle.syntax.proofs.context.TypingContext.push.Goals as goal

pub returns : goal.returns
returns c =
    let s = c.args.self in
    let h = bindings-size s in
    record {
      count = stored-count (bindings_in s) s.len c.args.b (omega arith);
      list = seen_stored binding_of s.bindings s.len c.flat.result c.args.b c.flat.ensures (omega arith);
    }
