use borrow.Author.Rules.{rules}
use denote.Enum.Bare.{same_true, same_false}
use mathlib.Core.Bool.{Bool, true, false}
use Rattle.std.proofs.Common.{arith, refl, sym, ap, ◌∙◌, ◌≡◌, ◌+◌}
use Rattle.std.specs.Bool.{then_some}
use Rattle.image_kinds.specs.contracts.kinds.Kind.{the_type}
use Rattle.image_directory.specs.Slots.{records_in}
use Rattle.image_fields.specs.Found.{stop}
use Rattle.image_kinds.specs.Codes.{code_of}
use Rattle.image_kinds.proofs.KindNames.{same_code}
use Rattle.image_shape.specs.Nodes.{head_parser}
use Rattle.image_shape.proofs.Heads.{place-few, head-here, head-other, head-end}
use Rattle.image_shape.proofs.head.Goals as goal

pub returns-in_err-look : goal.returns-in_err-look
returns-in_err-look c =
    let a = c.args in
    cc (head-end (code_of a.wanted) c.requires (records_in a.image.now.frame a.image.now.bytes.now) a.at (sym c.look.ensures ∙ c.in_err-look.was), c.from_residual.ensures)

pub overflow_add-at : goal.overflow_add-at
overflow_add-at c = let a = c.args in omega (arith, place-few a.image.now.frame a.image.now.bytes.now a.at _ c.args.image.now.ready (sym c.look.ensures ∙ c.in_ok-look.was))

pub returns : goal.returns
returns c = c.then_some.ensures ∙ go c.eq.result refl
  where
    go : (t : Bool) → c.eq.result ≡ t → then_some t (c.args.at + 1) ≡ stop (head_parser (code_of c.args.wanted)) (records_in c.args.image.now.frame c.args.image.now.bytes.now) c.args.at
    go true h =
        let a = c.args in
        let e = same_true the_type (search rules) _ _ (sym c.eq.ensures ∙ h) in
        sym (head-here (code_of a.wanted) c.requires (records_in a.image.now.frame a.image.now.bytes.now) a.at _ (sym c.look.ensures ∙ c.in_ok-look.was) (ap code_of e))
    go false h =
        let a = c.args in
        let n : c.in_ok-look.field-0.kind ≡ a.wanted → ⊥ = same_false the_type _ _ (sym c.eq.ensures ∙ h) in
        sym (head-other (code_of a.wanted) c.requires (records_in a.image.now.frame a.image.now.bytes.now) a.at _ (sym c.look.ensures ∙ c.in_ok-look.was) (λ q. n (same_code _ _ q)))
