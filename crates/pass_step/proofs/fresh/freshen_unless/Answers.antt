use native.Mathlib.Omega.{arith}
use Rattle.syntax.specs.Arrays.{set_of, context_of}
use Rattle.syntax.proofs.Counts.{context-count}
use Rattle.syntax.proofs.Drawing.{freshen-near}
use Rattle.pass_step.proofs.FreshLaws.{freshens_nothing, freshens_all}
use Rattle.pass_step.proofs.fresh.freshen_unless.Goals as goal

pub returns-then-right : goal.returns-then-right
returns-then-right c = let a = c.args in rw c.if-right.true (freshens_nothing a.args (set_of a.clashes) a.max_id)

pub freshen-requires : goal.freshen-requires
freshen-requires c =
    let a = c.args in
    let h = c.requires in
    (h.0, omega (arith, a.args.fits, context-count a.args, h.1, freshen-near (context_of a.args) (set_of a.clashes) a.max_id))

pub returns : goal.returns
returns c = rw c.if-right.false (freshens_all _ _ _ c.freshen.ensures)
