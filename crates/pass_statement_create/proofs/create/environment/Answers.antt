use mathlib.Core.Path.{subst}
use Rattle.pass_work_spec.specs.Work.{Work}
use Rattle.pass_context.specs.Holding.{HoldsWork}
use Rattle.pass_entries.specs.Masks.{kept_by_mask}
use Rattle.pass_statement_create.proofs.create.environment.Goals as goal

pub returns : goal.returns
returns c = subst (λ (z : Work). HoldsWork c.filter_by_set.result (kept_by_mask c.args.free_vars_clauses z)) c.move_behind-moved.ensures.list c.filter_by_set.ensures
