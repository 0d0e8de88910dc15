use Rattle.std.proofs.Common.{arith, sym, ap, ◌∙◌, inl, inr}
use Rattle.image_kinds.specs.Codes.{code_of}
use Rattle.image_kinds.specs.declared.kinds.Kind.TheVariants.{Definition, Clause}
use Rattle.image_kinds.proofs.KindNames.{same_code}
use Rattle.image_directory.specs.Slots.{records_in}
use Rattle.image_shape.proofs.Heads.{place-few}
use Rattle.image_shape.proofs.Steps.{parts-of, parts-other, parts-end}
use Rattle.image_shape.proofs.statement_parts.Goals as goal

pub returns-in_err-node : goal.returns-in_err-node
returns-in_err-node c =
    let a = c.args in
    cc (parts-end (records_in a.image.now.frame a.image.now.bytes.now) a.at (sym c.look.ensures ∙ c.in_err-node.was), c.from_residual.ensures)

pub overflow_add-result : goal.overflow_add-result
overflow_add-result c = let a = c.args in omega (arith, place-few a.image.now.frame a.image.now.bytes.now a.at _ c.args.image.now.ready (sym c.look.ensures ∙ c.in_ok-node.was))

pub returns-in-Definition : goal.returns-in-Definition
returns-in-Definition c =
    let a = c.args in
    let e = sym c.look.ensures ∙ c.in_ok-node.was in
    sym (parts-other (records_in a.image.now.frame a.image.now.bytes.now) a.at _ e (elim c.in-Definition.is [
      | inl q ↦ inl (ap code_of q)
      | inr q ↦ inr (ap code_of q)
    ]))

pub returns-in_default : goal.returns-in_default
returns-in_default c =
    let a = c.args in
    rw (c.from.ensures, c.bodies.ensures)
    (sym (parts-of (records_in a.image.now.frame a.image.now.bytes.now) a.at _ (sym c.look.ensures ∙ c.in_ok-node.was)
    (λ q. c.in_default.not-Definition (same_code _ Definition q)) (λ q. c.in_default.not-Clause (same_code _ Clause q))))
