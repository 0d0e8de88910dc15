-- `linear` meets its contract. Assumes nothing.
use borrow.Author.Rules.{rules}
use Prim.Native.Nat.{ℕ, ◌*◌, ◌/◌}
use mathlib.Core.Path.{◌≡◌, subst, subst₂}
use mathlib.Core.List.{List}
use Rattle.step_header.specs.Headers.{entries_in}
use Rattle.step_header.specs.declared.Header.{Header}
use Rattle.step_rows.specs.Rows.{ids_of}
use Rattle.step_statement_substitute.specs.Substituting.{Packs, Replaces}
use native.Mathlib.Omega.{arith}
use lib.ListN.{length, take}
use lib.Seq.{length-take-le}
use Rattle.step_statement_substitute.proofs.SubstituteLaws.{same_count, linear-halts, linear-makes}
use Rattle.step_statement_substitute.proofs.substitute.linear.Goals as goal
use Rattle.step_statement_substitute.proofs.substitute.linear.Goals.{After-pack}

-- what was packed is of the store and the header that the step is made in
packs : (c : After-pack) →
    let w = c.args.work.now in
    Packs (entries_in w.store.now w.header) (ids_of c.read_parts-parts.result.targets) (ids_of c.read_parts-parts.result.sources) c.pack.new.scratch c.pack.result
packs c =
    let parts = c.read_parts-parts.result in
    let e = c.state_of-state.ensures in
    subst₂ (λ (s : List ℕ) (h : Header). Packs (entries_in s h) (ids_of parts.targets) (ids_of parts.sources) c.pack.new.scratch c.pack.result) e.stored e.headed c.pack.ensures

pub pack-requires : goal.pack-requires
pack-requires c =
    let q = c.read_parts-parts.ensures in
    (same_count q, q.few)

pub returns-then-not-pack : goal.returns-then-not-pack
returns-then-not-pack c = (
  record {
    makes = λ P l p o.
        linear-halts p o c.requires.record' c.read_parts-parts.ensures (packs (goal.at.returns-then-not-pack c).After-pack) c.if-not-pack.true;
  },
  search rules,
)

pub returns : goal.returns
returns c = (
  let w = c.args.work.now in
      let k = c.read_parts-parts.result.targets.places.len in
      let slots = take (16 * k) c.pack.new.scratch in
      let long : length slots ≡ 16 * k = length-take-le (16 * k) c.pack.new.scratch (omega (arith, c.read_parts-parts.ensures.few, c.pack.array_long)) in
      let many : length slots / 16 ≡ k = omega (arith, long) in
      let ReplacesBy : ℕ → Type 0 =
      λ (n : ℕ). Replaces w.store.now w.events.now w.header w.at n slots c.replace.new.work.store.now c.replace.new.work.events.now c.replace.result in
      record {
        makes = λ P l p o.
            linear-makes p o c.requires.record' c.read_parts-parts.ensures (packs (goal.at.returns c).After-pack) c.if-not-pack.false (subst ReplacesBy many c.replace.ensures.0);
      },
  search rules,
)
