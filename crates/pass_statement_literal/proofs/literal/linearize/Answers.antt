-- `linearize` of a Literal meets its contract. Assumes nothing.
use Prim.Native.Nat.{◌+◌, ◌≤◌}
use mathlib.Core.Path.{◌≡◌, ap}
use lib.IntN.{ℤ}
use mir.Syntax.{w64}
use mir.Val.{of_z, to_z}
use native.Mathlib.Omega.{arith}
use borrow.Author.Rules.{rules}
use Rattle.image_spec.specs.Records.{literal, record_bytes}
use Rattle.image_write_parts.proofs.WriterLaws.{wrote_as}
use Rattle.pass_entries.specs.Masks.{in_mask}
use Rattle.pass_step.proofs.StepLaws.{kept-room}
use Rattle.pass_step.proofs.RightLaws.{kept-right}
use Rattle.pass_step.proofs.WriteLaws.{recorded}
use Rattle.pass_statement_literal.proofs.LiteralLaws.{literal-steps}
use Rattle.pass_statement_literal.proofs.literal.linearize.Goals as goal
use Rattle.pass_statement_literal.proofs.literal.linearize.Goals.{After-filter_by_set-new_context, After-literal-statement}

-- what is retained has room for the var
room : (c : After-filter_by_set-new_context) → c.filter_by_set-new_context.result.len + 1 ≤ 64
room c = kept-room c.requires.1.0 c.args.free_vars_next c.filter_by_set-new_context.ensures

-- the literal is in the range of its type
exact : (c : After-literal-statement) → to_z w64 (of_z w64 c.literal-statement.result.lit) ≡ c.literal-statement.result.lit
exact c = search rules

pub with-requires : goal.with-requires
with-requires c = (omega (arith, room (goal.at.with-requires c).After-filter_by_set-new_context), omega (arith, c.requires.1.0.places))

pub returns : goal.returns
returns c =
    let l = c.literal-statement.result in
    let new = c.filter_by_set-new_context.ensures in
    let right = kept-right (in_mask c.args.free_vars_next) c.args.here.now.context new in
    let k = c.arrange_kept in
    let bytes = wrote_as (ap (λ (x : ℤ). record_bytes k.new.output.writer.id (literal x l.var)) (exact (goal.at.returns c).After-literal-statement)) c.put_literal.ensures in
    let z = recorded (literal l.lit l.var) k.ensures.1 bytes c.note.ensures in
    (literal-steps l.lit l.var c.literal-statement.ensures new right k.ensures.0 z.puts z.noted c.with.ensures.0 c.with.ensures.1, z.keeps)
