-- `source` meets its contract. Assumes nothing.
use borrow.Author.Rules.{rules}
use Prim.Native.Nat.{ℕ, ◌+◌, ◌*◌}
use mathlib.Core.Path.{subst₂}
use mathlib.Core.List.{List}
use Rattle.step_header.specs.Headers.{entries_in}
use Rattle.step_header.specs.declared.Header.{Header}
use Rattle.step_rows.specs.Rows.{ids_of}
use Rattle.step_statement_let.specs.Letting.{Packs}
use native.Mathlib.Omega.{arith}
use lib.Seq.{length-take-le}
use Rattle.step_rule.proofs.Statements.{next_small}
use Rattle.step_statement_let.proofs.SourceLaws.{source-halts, source-makes}
use Rattle.step_statement_let.proofs.let_.source.Goals as goal
use Rattle.step_statement_let.proofs.let_.source.Goals.{After-pack_found}

-- what was packed is of the store and the header that the step is made in
packs : (c : After-pack_found) →
    let w = c.args.work.now in
    Packs (entries_in w.store.now w.header) (ids_of c.read_parts-parts.result.args) w.header c.read_parts-parts.result c.pack_found.new.scratch c.pack_found.result
packs c =
    let parts = c.read_parts-parts.result in
    let e = c.state_of-state.ensures in
    subst₂ (λ (s : List ℕ) (h : Header). Packs (entries_in s h) (ids_of parts.args) h parts c.pack_found.new.scratch c.pack_found.result) e.stored e.headed c.pack_found.ensures

pub returns-then-not-pack_found : goal.returns-then-not-pack_found
returns-then-not-pack_found c = (
  record {
    makes = λ P l p o.
        source-halts p o c.requires.record' c.read_parts-parts.ensures (packs (goal.at.returns-then-not-pack_found c).After-pack_found) c.if-not-pack_found.true;
  },
  search rules,
)

pub add_before-requires : goal.add_before-requires
add_before-requires c =
    let n = 16 * (c.read_parts-parts.result.args.places.len + 2) in
    let e = length-take-le n c.pack_found.new.scratch (omega (arith, c.read_parts-parts.ensures.few, c.pack_found.array_long)) in
    (c.requires.fit, (e, next_small c.args.stepper.now.image.ready c.requires.record'))

pub returns : goal.returns
returns c = (
  record {
    makes = λ P l p o.
        source-makes p o c.requires.record' c.read_parts-parts.ensures (packs (goal.at.returns c).After-pack_found) c.if-not-pack_found.false c.add_before.ensures.0;
  },
  search rules,
)
