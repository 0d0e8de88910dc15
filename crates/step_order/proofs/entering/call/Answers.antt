-- `call` meets its contract. Assumes nothing.
use Prim.Native.Nat.{ℕ}
use mathlib.Core.Path.{sym, ap, ◌∙◌}
use mathlib.Core.Bool.{not}
use mathlib.Core.List.{List}
use Rattle.model.specs.Syntax.{Prog}
use Rattle.model.specs.Machine.{values}
use Rattle.step_spec.specs.Located.{Machine, Located, is_stop}
use Rattle.step_rows.specs.Rows.{ids_of}
use Rattle.step_rule.specs.Rules.{ProgramOf, Stored}
use Rattle.step_order.specs.Stopping.{work_at}
use borrow.Author.Tests.{ne_eqb}
use Rattle.step_order.proofs.EnterLaws.{Enters, missing, fewer, as_many}
use Rattle.step_order.proofs.StopLaws.{reads-stored, values-count, call_enters}
use Rattle.image_read_nodes.specs.Nodes.{first_of}
use Rattle.step_order.proofs.HandLaws.{record-at_place, at_place}
use Rattle.step_order.proofs.entering.call.Goals as goal
use Rattle.step_order.proofs.entering.call.Goals.{After-find_label}

-- the machine enters what the search answers
enters : (c : After-find_label) {M : Machine} {P : Prog} {store : List ℕ} {l : Located} →
    let a = c.args in
    let stepper = a.stepper.now in
    ProgramOf P stepper stepper.image.bytes.now → Stored M P store a.header l
    → Enters stepper.image.frame stepper.image.bytes.now c.find_label.result (values l.environment) (λ new. new) (is_stop (work_at P l))
enters c p o =
    let node = c.args.node.now in
    let r = c.requires in
    call_enters p o (at_place node r.0 r.1.0 r.1.1) c.first.result (c.first.ensures ∙ ap first_of (record-at_place node r.0 r.1.0)) c.from.ensures c.find_label.ensures

pub invariant_of-found : goal.invariant_of-found
invariant_of-found c = record { there = c.find_label.ensures.at _ c.in-Some.is }

pub returns-then-parameters-header : goal.returns-then-parameters-header
returns-then-parameters-header c = λ store. record {
  is = λ P l p o e g.
      let w = reads-stored o e g in
      let before = (goal.at.returns-then-parameters-header c).After-find_label in
      as_many (enters before p w) c.in-Some.is c.list_row-parameters.result c.list_row-parameters.ensures
      (c.if-parameters-header.true ∙ sym (values-count w)) (ids_of c.list_row-parameters.result) (λ new k. k) (ap not c.distinct.ensures);
}

pub returns-else-parameters-header : goal.returns-else-parameters-header
returns-else-parameters-header c = λ store. record {
  is = λ P l p o e g.
      let w = reads-stored o e g in
      let before = (goal.at.returns-else-parameters-header c).After-find_label in
      let other-count = c.if-parameters-header.false in
      ne_eqb _ _ other-count
      ∙ fewer (enters before p w) c.in-Some.is c.list_row-parameters.result c.list_row-parameters.ensures (λ n. other-count (n ∙ values-count w));
}

pub returns-in_default : goal.returns-in_default
returns-in_default c = λ store. record { is = λ P l p o e g. missing (enters (goal.at.returns-in_default c).After-find_label p (reads-stored o e g)) c.in_default.is }
