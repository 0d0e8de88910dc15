use Rattle.image_kinds.specs.Codes.{code_of}
use Rattle.step_places.proofs.SearchLaws.{Searching}
use Rattle.step_places.proofs.search.find.Given as goal

abbrev pub invariant-loop : goal.invariant-loop
invariant-loop l = Searching l.stepper.image.frame l.stepper.image.bytes.now (code_of l.kind) l.name l.n l.from l.counter l.here
