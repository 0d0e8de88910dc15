use mathlib.Core.Path.{◌≡◌, sym, subst}
use Rattle.image_spec.specs.Kinds.{kind_of}
use Rattle.image_kinds.specs.Codes.{code_of}
use Rattle.image_kinds.specs.declared.kinds.Kind.TheVariants.{Call, Invoke, IfC, Exit}
use Rattle.image_kinds.proofs.KindNames.{same_code}
use Rattle.image_read_parts.specs.Recorded.{record_in}
use Rattle.pass_step.specs.declared.source.SourceRecord.{SourceRecord}
use Rattle.pass_step.proofs.SourceLaws.{source-at}
use Rattle.pass_dispatch.specs.Choices.{Settles}
use Rattle.pass_dispatch.proofs.DispatchLaws.{last_of, settled-leaves}
use Rattle.pass_dispatch.proofs.step.settle.Goals as goal
use Rattle.pass_dispatch.proofs.step.settle.Goals.{In_default}

-- the last kind
last : (c : In_default) → c.args.source.now.node.kind ≡ Exit
last c =
    let n = c.in_default in
    same_code _ Exit (last_of 3 7 10 13 c.requires.0 (λ e. n.not-Call (same_code _ Call e)) (λ e. n.not-Invoke (same_code _ Invoke e)) (λ e. n.not-IfC (same_code _ IfC e)))

-- the kind of its record is that kind
settles : (source : SourceRecord) → Settles (code_of source.node.kind) → Settles (kind_of (record_in source.node))
settles source = subst Settles (sym (source-at source).at.kind)

pub linearize-requires : goal.linearize-requires
linearize-requires c = (c.in-Call.is, c.requires.1)

pub linearize-requires-in-Invoke : goal.linearize-requires-in-Invoke
linearize-requires-in-Invoke c = (c.in-Invoke.is, c.requires.1)

pub linearize-requires-in-IfC : goal.linearize-requires-in-IfC
linearize-requires-in-IfC c = (c.in-IfC.is, c.requires.1)

pub linearize-requires-in_default : goal.linearize-requires-in_default
linearize-requires-in_default c = (last (goal.at.linearize-requires-in_default c).In_default, c.requires.1)

pub returns-in-Call : goal.returns-in-Call
returns-in-Call c = λ _ _. (settled-leaves (settles c.args.source.now c.requires.0) c.linearize.ensures.0, c.linearize.ensures.1)

pub returns-in-Invoke : goal.returns-in-Invoke
returns-in-Invoke c = λ _ _. (settled-leaves (settles c.args.source.now c.requires.0) c.linearize-in-Invoke.ensures.0, c.linearize-in-Invoke.ensures.1)

pub returns-in-IfC : goal.returns-in-IfC
returns-in-IfC c = λ _ _. (settled-leaves (settles c.args.source.now c.requires.0) c.linearize-in-IfC.ensures.0, c.linearize-in-IfC.ensures.1)

pub returns-in_default : goal.returns-in_default
returns-in_default c = λ _ _. (settled-leaves (settles c.args.source.now c.requires.0) c.linearize-in_default.ensures.0, c.linearize-in_default.ensures.1)
