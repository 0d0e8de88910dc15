-- `Held::context` meets its contract: i bindings are stored. Assumes nothing.
use mathlib.Core.List.{map}
use lib.ListN.{take}
use Rattle.syntax.specs.Flat.{binding_of}
use Rattle.pass_work_spec.specs.Work.{bindings}
use Rattle.pass_context.specs.Holding.{entries_in}
use Rattle.pass_context.proofs.Stores.{Built}
use Rattle.pass_context.proofs.Held.context.Given as goal

abbrev pub invariant-loop-i : goal.invariant-loop-i
invariant-loop-i l = Built (bindings (take l.i-end (entries_in l.self))) (map binding_of l.initial.out.0) (map binding_of l.out.0) 64 l.i
