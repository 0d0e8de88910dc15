-- `Held::ids` meets its contract: i IDs are stored. Assumes nothing.
use mathlib.Core.Path.{◌≡◌, sym}
use native.Mathlib.Omega.{arith}
use lib.ListN.{length, take}
use Rattle.syntax.specs.Context.{ids, id_of, empty_binding}
use Rattle.pass_work_spec.specs.Work.{bindings}
use Rattle.pass_context.specs.Holding.{entries_in}
use Rattle.pass_context.proofs.Counts.{held-fits}
use Rattle.pass_context.proofs.Stores.{built-start, built-next, built-done}
use Rattle.pass_context.proofs.Elements.{id-at, ids-count}
use Rattle.pass_context.proofs.Held.ids.Goals as goal
use Rattle.pass_context.proofs.Held.ids.Goals.{Start}

-- as many IDs as entries
counted : (c : Start) → length (ids (bindings (take c.args.self.len (entries_in c.args.self)))) ≡ c.args.self.len
counted c = ids-count (entries_in c.args.self) c.args.self.len (held-fits c.args.self)

pub loop-i-init : goal.loop-i-init
loop-i-init c = built-start _ c.empty-out.result.ids c.empty-out.result.size (omega (arith, c.args.self.fits, counted (goal.at.loop-i-init c).Start))

pub loop-i-preserved : goal.loop-i-preserved
loop-i-preserved c =
    let l = c.loop-i in
    let h = c.loop-i-test.true in
    built-next (id_of empty_binding) _ (omega (arith, counted (goal.at.loop-i-preserved c).Start)) (id-at c.args.self c.args.self.len l.i h) l.invariant

pub returns : goal.returns
returns c =
    let q = sym (counted (goal.at.returns c).Start) in
    record { count = q; list = built-done _ q c.loop-i-test.false c.loop-i.invariant }
