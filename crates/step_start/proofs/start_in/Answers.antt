-- `start_in` meets its contract. Assumes nothing.
use Prim.Native.Nat.{◌+◌, ◌*◌, ◌^◌, ◌<◌}
use mathlib.Core.Path.{◌≡◌, sym, ◌∙◌}
use mathlib.Core.Bool.{true}
use native.Mathlib.Omega.{arith}
use lib.ListN.{length}
use Rattle.step_rule.specs.Rules.{machine_in}
use Rattle.step_values.specs.Values.{are_given_lem}
use Rattle.step_values.proofs.ValueLaws.{are-given}
use Rattle.step_settle.proofs.Reading.{reads-holds, reads-inside}
use Rattle.step_start.specs.Starting.{first_header_lem}
use Rattle.step_start.proofs.StartedLaws.{not_given, no_room, begun-reads, room-starts}
use Rattle.step_start.proofs.start_in.Goals as goal
use Rattle.step_start.proofs.start_in.Goals.{After-first_header-header, Start, Else-not-are_given}

short : (s : Start) → length s.args.store.now < 2 ^ 64
short s = omega (arith, s.well_formed)

-- the values are given
given : (c : Else-not-are_given) → are_given_lem c.list_row-row.result.places.len c.args.values.now ≡ true
given c = sym c.are_given.ensures ∙ c.if-not-are_given.false

values_length : (c : Else-not-are_given) → length c.args.values.now ≡ 16 * c.list_row-row.result.places.len
values_length c = (are-given c.list_row-row.result.places.len c.args.values.now (given c)).2

header_is : (c : After-first_header-header) → c.first_header-header.result ≡ first_header_lem (c.args.i + 1) c.list_row-row.result.places.len
header_is c = c.first_header-header.ensures

pub overflow_mul-len : goal.overflow_mul-len
overflow_mul-len c = omega (arith, values_length (goal.at.overflow_mul-len c).Else-not-are_given, c.well_formed)

pub overflow_add-len : goal.overflow_add-len
overflow_add-len c = omega (arith, values_length (goal.at.overflow_add-len c).Else-not-are_given, c.well_formed)

pub returns-then-store-len : goal.returns-then-store-len
returns-then-store-len c = record {
  starts = λ P n p o d.
      no_room d c.list_row-row.result c.list_row-row.ensures o c.args.values.now (given (goal.at.returns-then-store-len c).Else-not-are_given) c.if-store-len.true;
}

pub begin-requires : goal.begin-requires
begin-requires c =
    let g = are-given c.list_row-row.result.places.len c.args.values.now (given (goal.at.begin-requires c).Else-not-are_given) in
    (g.2, (c.if-store-len.false, g.3))

pub flag-requires : goal.flag-requires
flag-requires c =
    let h = c.requires in
    let at = goal.at.flag-requires c in
    let o = begun-reads h.defined c.list_row-row.result c.list_row-row.ensures h.accepted.readable c.args.values.now (given at.Else-not-are_given)
    c.args.store.now c.if-store-len.false (short at.Start) (header_is at.After-first_header-header) c.begin.ensures in
    (reads-inside o c.args.stepper.now.image.ready h.accepted.is, reads-holds o)

pub returns : goal.returns
returns c = record {
  starts = λ P n p o d.
      let at = goal.at.returns c in
      room-starts d c.list_row-row.result c.list_row-row.ensures o c.args.values.now (given at.Else-not-are_given)
      c.args.store.now c.if-store-len.false (short at.Start) (header_is at.After-first_header-header) c.begin.ensures p c.flag.ensures;
}

pub returns-then-not-are_given : goal.returns-then-not-are_given
returns-then-not-are_given c = record {
  starts = λ P n p o d.
      let a = c.args in
      not_given d c.list_row-row.result c.list_row-row.ensures (machine_in a.stepper.now) a.values.now (sym c.are_given.ensures ∙ c.if-not-are_given.true);
}
