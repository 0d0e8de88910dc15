-- `arrange` meets its contract: i pairs are stored, then all are written. Assumes nothing.
use mathlib.Core.Path.{◌≡◌}
use Rattle.syntax.specs.Arrays.{context_of}
use Rattle.syntax_substitution.proofs.Pairing.{Zipped}
use Rattle.pass_work_spec.specs.Work.{bindings}
use Rattle.pass_context.specs.Holding.{work_of}
use Rattle.pass_arrange.specs.Joined.{joined}
use Rattle.pass_arrange.proofs.arrange.arrange.Given as goal

abbrev pub invariant-loop-i : goal.invariant-loop-i
invariant-loop-i l =
    let kept = bindings (work_of l.kept) in
    (l.all.1.0 ≡ l.n) × Zipped (joined l.targets_first (context_of l.targets) kept) (joined l.targets_first (context_of l.wanted) kept) l.all.0 l.i
