use Rattle.pass_work_spec.specs.Work.{respelled_unless}
use Rattle.pass_context.proofs.Counts.{work-holds}
use Rattle.pass_statement_create.proofs.create.renamed.Goals as goal

pub returns-then-right : goal.returns-then-right
unfolding respelled_unless
returns-then-right c = rw c.if-right.true (work-holds c.args.context_next)

pub returns : goal.returns
unfolding respelled_unless
returns c = rw c.if-right.false c.respelled.ensures
