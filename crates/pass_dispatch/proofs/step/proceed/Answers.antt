use mathlib.Core.Path.{◌≡◌, ap}
use Rattle.image_kinds.specs.Codes.{code_of}
use Rattle.image_kinds.specs.declared.kinds.Kind.TheVariants.{Let, Literal, Op, Print}
use Rattle.image_kinds.proofs.KindNames.{same_code}
use Rattle.pass_step.proofs.SourceLaws.{source-at}
use Rattle.pass_dispatch.proofs.DispatchLaws.{last_of, workable_as, steps_as}
use Rattle.pass_dispatch.proofs.step.proceed.Goals as goal
use Rattle.pass_dispatch.proofs.step.proceed.Goals.{In_default}

-- the last kind
last : (c : In_default) → c.args.source.now.node.kind ≡ Print
last c =
    let n = c.in_default in
    same_code _ Print (last_of 4 8 9 12 c.requires.0 (λ e. n.not-Let (same_code _ Let e)) (λ e. n.not-Literal (same_code _ Literal e)) (λ e. n.not-Op (same_code _ Op e)))

pub linearize-requires : goal.linearize-requires
linearize-requires c =
    let h = c.requires in
    (c.in-Let.is, (workable_as 4 (ap code_of c.in-Let.is) (source-at c.args.source.now) h.1.1.0, h.1.1.1))

pub linearize-requires-in-Literal : goal.linearize-requires-in-Literal
linearize-requires-in-Literal c =
    let h = c.requires in
    (c.in-Literal.is, (workable_as 8 (ap code_of c.in-Literal.is) (source-at c.args.source.now) h.1.1.0, h.1.1.1))

pub linearize-requires-in-Op : goal.linearize-requires-in-Op
linearize-requires-in-Op c =
    let h = c.requires in
    (c.in-Op.is, (h.1.0, (workable_as 9 (ap code_of c.in-Op.is) (source-at c.args.source.now) h.1.1.0, h.1.1.1)))

pub linearize-requires-in_default : goal.linearize-requires-in_default
linearize-requires-in_default c =
    let h = c.requires in
    (last (goal.at.linearize-requires-in_default c).In_default, (h.1.0, (workable_as 12 (ap code_of (last (goal.at.linearize-requires-in_default c).In_default)) (source-at c.args.source.now) h.1.1.0, h.1.1.1)))

pub returns-in-Let : goal.returns-in-Let
returns-in-Let c =
    let h = c.linearize.ensures in
    (steps_as 4 (ap code_of c.in-Let.is) (source-at c.args.source.now) h.0, h.1)

pub returns-in-Literal : goal.returns-in-Literal
returns-in-Literal c =
    let h = c.linearize-in-Literal.ensures in
    (steps_as 8 (ap code_of c.in-Literal.is) (source-at c.args.source.now) h.0, h.1)

pub returns-in-Op : goal.returns-in-Op
returns-in-Op c =
    let h = c.linearize-in-Op.ensures in
    (steps_as 9 (ap code_of c.in-Op.is) (source-at c.args.source.now) h.0, h.1)

pub returns-in_default : goal.returns-in_default
returns-in_default c =
    let h = c.linearize-in_default.ensures in
    (steps_as 12 (ap code_of (last (goal.at.returns-in_default c).In_default)) (source-at c.args.source.now) h.0, h.1)
