-- `pack` meets its contract. Assumes nothing.
use borrow.Author.Rules.{rules}
use Prim.Native.Nat.{◌+◌, ◌*◌, ◌≤◌}
use mathlib.Core.Path.{◌≡◌, sym, ◌∙◌}
use native.Mathlib.Omega.{arith}
use lib.ListN.{length}
use Rattle.image_spec.specs.Parse.{All}
use Rattle.step_slots.specs.Slots.{SlotOk}
use Rattle.step_header.specs.States.{entries_of}
use Rattle.step_rows.specs.Rows.{ids_of}
use Rattle.step_rows.proofs.RowLaws.{ids-length}
use Rattle.step_gather.proofs.GatheredSlots.{slots-ok}
use Rattle.step_statement_substitute.proofs.PackLaws.{values-stand, packed}
use Rattle.step_statement_substitute.proofs.substitute.pack.Goals as goal
use Rattle.step_statement_substitute.proofs.substitute.pack.Goals.{Start}

-- as many sources as targets
many : (s : Start) → length (ids_of s.args.parts.now.sources) ≡ s.args.parts.now.targets.places.len
many s = ids-length s.args.parts.now.sources.bytes.now s.args.parts.now.sources.places ∙ sym s.requires.0

-- the entries fit their bytes
fit : (s : Start) → All SlotOk (entries_of s.args.state.now)
fit s = let t = s.args.state.now in slots-ok t.store.now (64 + 16 * t.header.heap) t.header.entries t.holds.entries

-- there is room for their values
roomy : (s : Start) → 16 * s.args.parts.now.targets.places.len ≤ length s.args.scratch.now
roomy s =
    let full : length s.args.scratch.now ≡ 2080 = search rules in
    omega (arith, s.requires.1, full)

pub rename-requires : goal.rename-requires
rename-requires c =
    let s = (goal.at.rename-requires c).Start in
    let room = roomy s in
    (omega (arith, room, c.gather.auto.out), values-stand c.args.parts.now.targets.places.len (many s) (fit s) room c.gather.ensures c.if-not-gather.false)

pub returns : goal.returns
returns c =
    let a = c.args in
    let s = (goal.at.returns c).Start in
    let e = c.if-not-gather.false in
    record {
      found = sym e ∙ c.gather.ensures.found;
      put = λ _. packed a.parts.now.targets.places.len (many s) (fit s) (roomy s) c.gather.ensures e (ids_of a.parts.now.targets) (ids-length a.parts.now.targets.bytes.now a.parts.now.targets.places) c.rename.ensures;
    }
