-- `definition` meets its contract. Assumes nothing.
use mathlib.Core.Path.{refl}
use mathlib.Core.Logic.{inl}
use native.Mathlib.Omega.{arith}
use Rattle.image_directory.proofs.Places.{records-length}
use Rattle.pass_definitions.proofs.DefSteps.{def-inside, def-source, def-workable, def-room, def_body, def-done}
use Rattle.image_write_directory.proofs.EmitLaws.{keeps_then}
use Rattle.pass_walk.proofs.OutputLaws.{linearized-width}
use Rattle.pass_definitions.proofs.def.definition.Goals as goal

pub invariant_of-node : goal.invariant_of-node
invariant_of-node c = record { there = (def-source c.requires c.args.source.now.image.ready).at }

pub invariant_of-enter : goal.invariant_of-enter
invariant_of-enter c =
    let a = def-source c.requires c.args.source.now.image.ready in
    record { source = record { small = a.small; plain = a.plain } }

pub enter-body-requires : goal.enter-body-requires
enter-body-requires c =
    let h = c.requires in
    (inl refl, (def-workable h c.empty.ensures, def-room h))

pub overflow_add-i : goal.overflow_add-i
overflow_add-i c =
    let m = c.args.source.now.image in
    omega (arith, def-inside c.requires, records-length m.frame m.bytes.now m.ready, m.ready.few)

pub statement-requires : goal.statement-requires
statement-requires c = rw (c.enter-body.ensures.1.id) (def_body c.requires c.empty.ensures c.enter-body.ensures.0)

pub returns : goal.returns
returns c =
    let e = c.enter-body.ensures in
    let w = c.statement.ensures in
    (def-done c.requires c.empty.ensures e.0 (linearized-width e.1.id w.0), keeps_then e.1 w.1)
