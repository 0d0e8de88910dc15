-- `enter` meets its contract: the record read and written as it is, and its parameters in the context, before it or behind it. Assumes nothing.
use Prim.Native.Nat.{ℕ, ◌+◌, ◌≤◌}
use mathlib.Core.Path.{refl}
use mathlib.Core.Bool.{true, false}
use mathlib.Core.List.{◌∷◌, ◌++◌}
use native.Mathlib.Omega.{arith}
use Rattle.syntax.specs.Arrays.{context_of}
use Rattle.image_spec.specs.Fields.{identifier_bytes, list_bytes}
use Rattle.image_kinds.specs.Codes.{code_of}
use Rattle.pass_context.specs.Holding.{work_of}
use Rattle.pass_step.proofs.SourceLaws.{source-at}
use Rattle.image_write_directory.proofs.EmitLaws.{keeps_same}
use Rattle.pass_step.proofs.WriteLaws.{Recorded, recorded_bytes}
use Rattle.pass_clause.proofs.EnterLaws.{enters-named, enters}
use Rattle.pass_clause.proofs.clause.enter.Goals as goal
use Rattle.pass_clause.proofs.clause.enter.Goals.{After-named-record, After-note}

module _ (c : After-named-record) where
  abbrev held : ℕ
  held = c.args.here.now.context.len

  abbrev params : ℕ
  params = c.named-record.result.list.len

  room : held + params ≤ 64
  room = omega (arith, c.named-record.ensures.list.count, c.requires.1.0.room)

  places : c.args.here.now.in_scope + params ≤ 64
  places = omega (arith, c.named-record.ensures.list.count, c.requires.1.0.places)

-- its kind, its identifier and its list were written, and their length noted
written : (c : After-note) → let r = c.named-record.result in let o = c.args.output.now in
    Recorded o o c.note.new.output c.put_headed.new.writer.at (λ (w : ℕ). code_of c.args.source.now.node.kind ∷ (identifier_bytes w r.name ++ list_bytes w (context_of r.list)))
written c = recorded_bytes _ (keeps_same c.args.output.now) c.put_headed.ensures c.note.ensures

pub named-record-requires : goal.named-record-requires
named-record-requires c = enters-named c.requires.0 (source-at c.args.source.now)

pub put_headed-requires : goal.put_headed-requires
put_headed-requires c = omega (arith, c.requires.1.1.at)

pub overflow_cast-in_scope : goal.overflow_cast-in_scope
overflow_cast-in_scope c = record { fits = omega (arith, room (goal.at.overflow_cast-in_scope c).After-named-record) }

pub overflow_add-in_scope : goal.overflow_add-in_scope
overflow_add-in_scope c = record { fits = omega (arith, places (goal.at.overflow_add-in_scope c).After-named-record) }

pub under-context-requires : goal.under-context-requires
under-context-requires c = (omega (arith, room (goal.at.under-context-requires c).After-named-record), omega (arith, places (goal.at.under-context-requires c).After-named-record))

pub returns-then-before : goal.returns-then-before
returns-then-before c =
    let z = written (goal.at.returns-then-before c).After-note in
    (enters true (work_of c.args.here.now.context) c.args.here.now.in_scope c.requires.0 c.args.source.now.node.there.kind c.named-record.ensures c.if-before.true z.puts z.noted c.under-context.ensures refl, z.keeps)

pub owns-context-requires : goal.owns-context-requires
owns-context-requires c = (omega (arith, room (goal.at.owns-context-requires c).After-named-record), omega (arith, places (goal.at.owns-context-requires c).After-named-record))

pub returns-else-before : goal.returns-else-before
returns-else-before c =
    let z = written (goal.at.returns-else-before c).After-note in
    (enters false (work_of c.args.here.now.context) c.args.here.now.in_scope c.requires.0 c.args.source.now.node.there.kind c.named-record.ensures c.if-before.false z.puts z.noted c.owns-context.ensures refl, z.keeps)
