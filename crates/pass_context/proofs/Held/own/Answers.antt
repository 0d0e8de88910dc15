-- `Held::own` meets its contract. Assumes nothing.
use mathlib.Core.Path.{refl, ◌∙◌}
use Rattle.pass_work_spec.specs.Work.{own}
use Rattle.pass_context.proofs.HeldLaws.{stored-behind}
use Rattle.pass_context.proofs.Held.own.Goals as goal

pub returns : goal.returns
returns c = stored-behind c.args.self c.from.result (own c.args.n c.args.b) c.requires (c.from.ensures ∙ c.owned.ensures) refl refl
