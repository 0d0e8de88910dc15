-- `op` meets its contract. Assumes nothing.
use mathlib.Core.Path.{◌≡◌, sym, ◌∙◌}
use mathlib.Core.Bool.{◌&&◌}
use Rattle.syntax.specs.Sets.{elem}
use Rattle.image_read_parts.specs.Recorded.{record_in}
use Rattle.step_rows.specs.Rows.{ids_of}
use Rattle.step_order.specs.Orderly.{added, orderly}
use Rattle.step_order.proofs.ListLaws.{and_both, and_not}
use Rattle.step_order.proofs.OrderlyLaws.{op_is}
use Rattle.step_order.proofs.statements.op.Goals as goal
use Rattle.step_order.proofs.statements.op.Goals.{After-op-statement, Joined-has, then-has, else-has}

-- what is asked of the statement
is : (c : After-op-statement) →
    let a = c.args in
    let o = c.op-statement.result in
    let l = ids_of a.list.now.row in
    orderly (record_in a.node.now) l ≡ ((elem o.fst.id l && elem o.snd.id l) && added l o.var.id)
is c = let a = c.args in op_is (record_in a.node.now) (ids_of a.list.now.row) c.op-statement.ensures

-- the operands are there
present : (c : Joined-has) →
    let a = c.args in
    let o = c.op-statement.result in
    c.if-has.value ≡ (elem o.fst.id (ids_of a.list.now.row) && elem o.snd.id (ids_of a.list.now.row))
present c = elim c.if-has.branch [
  | then-has w ↦ w.value-is ∙ and_both c.has.ensures w.if-has.true w.has-then-has.ensures
  | else-has w ↦
      let a = c.args in
      w.value-is ∙ (w.if-has.false ∙ and_not c.has.ensures (elem c.op-statement.result.snd.id (ids_of a.list.now.row)) w.if-has.false)
]

pub returns-then-has-2 : goal.returns-then-has-2
returns-then-has-2 c =
    and_both (present (goal.at.returns-then-has-2 c).Joined-has) c.if-has-2.true c.adds.ensures ∙ sym (is (goal.at.returns-then-has-2 c).After-op-statement)

pub returns-else-has-2 : goal.returns-else-has-2
returns-else-has-2 c =
    let b = added (ids_of c.args.list.now.row) c.op-statement.result.var.id in
    c.if-has-2.false ∙ (and_not (present (goal.at.returns-else-has-2 c).Joined-has) b c.if-has-2.false ∙ sym (is (goal.at.returns-else-has-2 c).After-op-statement))
