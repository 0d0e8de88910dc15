-- `find_definition` meets its contract. Assumes nothing.
use borrow.Author.Rules.{rules}
use denote.Enum.Bare.{same_true, same_false}
use mathlib.Core.Path.{◌≡◌, refl, sym, ap, ◌∙◌}
use mathlib.Core.Bool.{Bool, true, false}
use native.Mathlib.Omega.{arith}
use Rattle.std.specs.Prelude.{None}
use Rattle.std.specs.Bool.{then_some}
use Rattle.image_kinds.specs.contracts.kinds.Kind.{the_type}
use Rattle.image_kinds.specs.Codes.{code_of}
use Rattle.image_kinds.specs.declared.kinds.Kind.TheVariants.{Definition}
use Rattle.image_kinds.proofs.KindNames.{same_code}
use Rattle.image_read_parts.specs.Indexed.{At}
use Rattle.step_places.specs.Searches.{FindsDefinition}
use Rattle.step_places.proofs.SearchLaws.{definition-past, definition-found, definition-missing}
use Rattle.step_places.proofs.search.find_definition.Goals as goal
use Rattle.step_places.proofs.search.find_definition.Goals.{After-hop-here}

-- there is no definition where the hops end
missing : (c : After-hop-here) → (At c.args.stepper.now.image.frame c.args.stepper.now.image.bytes.now c.hop-here.result 1 → ⊥)
    → FindsDefinition c.args.stepper.now.image.frame c.args.stepper.now.image.bytes.now c.args.stepper.now.definitions c.args.n None
missing c f = definition-missing c.args.stepper.now.image.ready c.args.stepper.now.right c.if-stepper-n.false c.hop-here.ensures f

pub returns-then-stepper-n : goal.returns-then-stepper-n
returns-then-stepper-n c = definition-past c.if-stepper-n.true

pub returns-then-stepper-here : goal.returns-then-stepper-here
returns-then-stepper-here c = missing (goal.at.returns-then-stepper-here c).After-hop-here (λ a. omega (arith, a.inside, c.if-stepper-here.true))

pub returns : goal.returns
returns c = rw c.then_some.ensures (go c.eq.result refl)
  where
    go : (t : Bool) → c.eq.result ≡ t → FindsDefinition c.args.stepper.now.image.frame c.args.stepper.now.image.bytes.now c.args.stepper.now.definitions c.args.n (then_some t c.hop-here.result)
    go true h =
        let a = c.parts_of.ensures.at in
        let e = same_true the_type (search rules) c.parts_of.result.kind Definition (sym c.eq.ensures ∙ h) in
        definition-found c.args.stepper.now.image.ready c.args.stepper.now.right c.if-stepper-n.false c.hop-here.ensures (record { inside = a.inside; kind = a.kind ∙ ap code_of e })
    go false h =
        missing (goal.at.returns c).After-hop-here (λ a. same_false the_type c.parts_of.result.kind Definition (sym c.eq.ensures ∙ h) (same_code c.parts_of.result.kind Definition (sym c.parts_of.ensures.at.kind ∙ a.kind)))
