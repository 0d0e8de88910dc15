-- `linear` meets its contract. Assumes nothing.
use borrow.Author.Rules.{rules}
use mathlib.Core.Path.{ap}
use Prim.Native.Nat.{◌+◌, ◌*◌}
use native.Mathlib.Omega.{arith}
use lib.Seq.{length-take-le}
use Rattle.step_header.specs.declared.Header.{Header}
use Rattle.step_rule.proofs.Statements.{next_small}
use Rattle.step_statement_let.proofs.LinearLaws.{has-args, packed_as, linear-makes}
use Rattle.step_statement_let.proofs.let_.linear.Goals as goal

pub returns-then-work-k : goal.returns-then-work-k
returns-then-work-k c = (
  record {
    makes = λ P l p o.
        absurd (omega (arith, c.if-work-k.true, has-args p o c.requires.record' c.read_parts-parts.ensures));
  },
  search rules,
)

pub pack_last-requires : goal.pack_last-requires
pack_last-requires c =
    (omega (arith, c.if-work-k.false, ap (λ (h : Header). h.entries) c.state_of-state.ensures.headed), c.read_parts-parts.ensures.few)

pub add_behind-requires : goal.add_behind-requires
add_behind-requires c =
    let n = 16 * (c.read_parts-parts.result.args.places.len + 1) in
    let e = length-take-le n c.pack_last.new.scratch (omega (arith, c.read_parts-parts.ensures.few, c.pack_last.array_long)) in
    (c.requires.fit, (e, (next_small c.args.stepper.now.image.ready c.requires.record', c.if-work-k.false)))

pub returns : goal.returns
returns c = (
  record {
    makes = λ P l p o.
        linear-makes p o c.requires.record' c.read_parts-parts.ensures _ (packed_as _ _ c.state_of-state.ensures.stored c.state_of-state.ensures.headed c.pack_last.ensures) c.add_behind.ensures.0;
  },
  search rules,
)
