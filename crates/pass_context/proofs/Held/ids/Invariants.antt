-- `Held::ids` meets its contract: i IDs are stored. Assumes nothing.
use lib.ListN.{take}
use Rattle.syntax.specs.Context.{ids}
use Rattle.pass_work_spec.specs.Work.{bindings}
use Rattle.pass_context.specs.Holding.{entries_in}
use Rattle.pass_context.proofs.Stores.{Built}
use Rattle.pass_context.proofs.Held.ids.Given as goal

abbrev pub invariant-loop-i : goal.invariant-loop-i
invariant-loop-i l = Built (ids (bindings (take l.i-end (entries_in l.self)))) l.initial.out.0 l.out.0 128 l.i
