-- `list` meets its contract: j bindings are stored, and the others stand behind. Assumes nothing.
use mathlib.Core.List.{map}
use Rattle.syntax.specs.Flat.{binding_of}
use Rattle.pass_records.proofs.FillLaws.{Filling}
use Rattle.pass_records.proofs.list.Given as goal

abbrev pub invariant-loop-j : goal.invariant-loop-j
invariant-loop-j l = Filling l.w l.fields.bytes.now l.at l.n l.j (map binding_of l.out.0)
