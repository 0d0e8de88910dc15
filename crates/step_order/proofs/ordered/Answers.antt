-- `ordered` meets its contract. Assumes nothing.
use mathlib.Core.Path.{sym, ap, ◌∙◌}
use mathlib.Core.List.{List}
use Rattle.syntax.specs.declared.names.VarId.{VarId}
use Rattle.image_spec.specs.Records.{Record}
use Rattle.image_kinds.specs.Codes.{code_of}
use Rattle.image_read_parts.specs.Recorded.{record_in}
use Rattle.step_rows.specs.Rows.{ids_of}
use Rattle.step_order.proofs.OrderlyLaws.{call_is, last_is, present_is, other_is, two-codes}
use Rattle.step_order.proofs.ordered.Goals as goal
use Rattle.step_order.proofs.ordered.Goals.{Start}

-- the record of the statement, and the IDs of the list
abbrev there : (c : Start) → Record
there c = let a = c.args in record_in a.node.now

abbrev listed : (c : Start) → List VarId
listed c = ids_of c.args.list.now.row

pub returns-in-Call : goal.returns-in-Call
returns-in-Call c = let s = (goal.at.returns-in-Call c).Start in sym (call_is (there s) (listed s) (c.args.node.now.there.kind ∙ ap code_of c.in-Call.is))

pub returns-in-Switch : goal.returns-in-Switch
returns-in-Switch c = let s = (goal.at.returns-in-Switch c).Start in c.is_last.ensures ∙ sym (last_is (there s) (listed s) (two-codes c.args.node.now.there.kind c.in-Switch.is))

pub returns-in-Print : goal.returns-in-Print
returns-in-Print c = let s = (goal.at.returns-in-Print c).Start in c.is_present.ensures ∙ sym (present_is (there s) (listed s) (two-codes c.args.node.now.there.kind c.in-Print.is))

pub returns-in-Definition : goal.returns-in-Definition
returns-in-Definition c = let s = (goal.at.returns-in-Definition c).Start in sym (other_is (there s) (listed s) (two-codes c.args.node.now.there.kind c.in-Definition.is))
