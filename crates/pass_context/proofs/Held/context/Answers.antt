-- `Held::context` meets its contract: i bindings are stored. Assumes nothing.
use mathlib.Core.Path.{◌≡◌, sym, ap, ◌∙◌}
use native.Mathlib.Omega.{arith}
use lib.ListN.{length, take}
use Rattle.syntax.specs.Context.{empty_binding}
use Rattle.syntax.specs.Flat.{binding_of}
use Rattle.syntax.specs.Arrays.{bindings_in}
use Rattle.pass_work_spec.specs.Work.{bindings}
use Rattle.pass_context.specs.Holding.{entries_in}
use Rattle.syntax.proofs.Counts.{bindings-size}
use Rattle.pass_context.proofs.Counts.{held-fits}
use Rattle.pass_context.proofs.Stores.{built-start, built-seen, built-done}
use Rattle.pass_context.proofs.Elements.{binding-at, bindings-count}
use Rattle.pass_context.proofs.Held.context.Goals as goal
use Rattle.pass_context.proofs.Held.context.Goals.{Start}

-- as many bindings as entries
counted : (c : Start) → length (bindings (take c.args.self.len (entries_in c.args.self))) ≡ c.args.self.len
counted c = bindings-count (entries_in c.args.self) c.args.self.len (held-fits c.args.self)

pub loop-i-init : goal.loop-i-init
loop-i-init c = built-start _ (bindings_in c.empty-out.result) (bindings-size c.empty-out.result) (omega (arith, c.args.self.fits, counted (goal.at.loop-i-init c).Start))

pub loop-i-preserved : goal.loop-i-preserved
loop-i-preserved c =
    let l = c.loop-i in
    let h = c.loop-i-test.true in
    built-seen binding_of l.out.0 empty_binding c.flat_binding.result (omega (arith, counted (goal.at.loop-i-preserved c).Start)) (ap binding_of c.flat_binding.ensures ∙ binding-at c.args.self c.args.self.len l.i h) l.invariant

pub returns : goal.returns
returns c =
    let q = sym (counted (goal.at.returns c).Start) in
    record { count = q; list = built-done _ q c.loop-i-test.false c.loop-i.invariant }
