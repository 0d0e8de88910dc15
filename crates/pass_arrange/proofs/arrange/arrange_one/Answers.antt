-- `arrange_one` meets its contract. Assumes nothing.
use mathlib.Core.Path.{sym, ap, ◌∙◌}
use mathlib.Core.List.{[], ◌∷◌, ◌++◌}
use Rattle.syntax.specs.Context.{Context}
use Rattle.pass_work_spec.specs.Work.{bindings}
use Rattle.pass_context.specs.Holding.{work_of}
use Rattle.pass_step.proofs.StepLaws.{holds-one}
use Rattle.image_write_directory.proofs.EmitLaws.{keeps_same}
use Rattle.pass_arrange.proofs.ArrangeLaws.{arranges_nothing, arranges_as}
use Rattle.pass_arrange.proofs.arrange.arrange_one.Goals as goal

pub returns-then-right : goal.returns-then-right
returns-then-right c = (arranges_nothing (bindings (work_of c.args.kept) ++ (c.args.target ∷ [])) (bindings (work_of c.args.kept) ++ (c.args.wanted ∷ [])) c.if-right.true, keeps_same _)

pub arrange-requires : goal.arrange-requires
arrange-requires c =
    let t = holds-one c.empty.ensures c.push-targets.ensures in
    let v = holds-one c.empty-2.ensures c.push-sources.ensures in
    (t.count ∙ sym v.count, c.requires)

pub returns : goal.returns
returns c =
    let t = (holds-one c.empty.ensures c.push-targets.ensures).list in
    let v = (holds-one c.empty-2.ensures c.push-sources.ensures).list in
    (arranges_as c.args.right (ap (λ (z : Context). bindings (work_of c.args.kept) ++ z) t) (ap (λ (z : Context). bindings (work_of c.args.kept) ++ z) v) c.arrange.ensures.0, c.arrange.ensures.1)
