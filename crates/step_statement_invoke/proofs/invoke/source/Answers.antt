-- `source` meets its contract. Assumes nothing.
use Rattle.std.specs.Prelude.{Some, None, Err}
use Prim.Native.Nat.{ℕ, ◌+◌, ◌*◌, ◌/◌, ◌≤◌}
use mathlib.Core.Path.{◌≡◌, refl, sym, ap, ◌∙◌, subst₂}
use mathlib.Core.List.{List}
use native.Mathlib.Omega.{arith}
use borrow.Author.Rules.{rules}
use lib.ListN.{length, take}
use lib.Seq.{length-take-le}
use Rattle.image_read_nodes.specs.Nodes.{first_of}
use Rattle.image_read_parts.specs.Indexed.{record_at}
use Rattle.step_slots.specs.Slots.{as_slot}
use Rattle.step_slots.specs.Views.{found_slot, slots_at, all_slots}
use Rattle.step_header.specs.declared.Header.{Header}
use Rattle.step_header.specs.Headers.{entries_in}
use Rattle.step_entries.specs.Named.{named}
use Rattle.step_rows.specs.Rows.{ids_of}
use Rattle.step_rows.proofs.RowLaws.{ids-length}
use Rattle.step_gather.specs.Gathering.{Gathers}
use Rattle.step_gather.proofs.GatheredSlots.{slots-ok, gathered-stand, gathered-slots}
use Rattle.step_write.specs.declared.Stop.TheVariants.{NoStep}
use Rattle.step_rows.proofs.RecordRowLaws.{list-short}
use Rattle.step_statement_invoke.proofs.SourceLaws.{Looked, named_in, unseen-makes, source-makes, source_none}
use Rattle.step_statement_invoke.proofs.invoke.source.Goals as goal
use Rattle.step_statement_invoke.proofs.invoke.source.Goals.{After-slot_of, After-list_row-row, After-gather}

-- the bytes of so many slots
abbrev sliced_of : List ℕ → ℕ → List ℕ
sliced_of scratch n = take (16 * n) scratch

-- what is found is the value of var
asked : (c : After-slot_of) →
    let a = c.args in
    found_slot c.slot_of.result ≡ named (first_of (record_at a.stepper.now.image.frame a.stepper.now.image.bytes.now a.work.now.header.position)).id.0 (entries_in a.work.now.store.now a.work.now.header)
asked c = let e = c.state_of-state.ensures in named_in e.stored e.headed c.first-var.ensures c.slot_of.ensures

-- what is gathered is from the entries
gathers : (c : After-gather) → let w = c.args.work.now in Gathers (entries_in w.store.now w.header) (ids_of c.list_row-row.result) (sliced_of c.args.scratch.now c.list_row-row.result.places.len) 0 c.gather.new.out c.gather.result
gathers c =
    let e = c.state_of-state.ensures in
    subst₂ (λ (s : List ℕ) (h : Header). Gathers (entries_in s h) (ids_of c.list_row-row.result) (sliced_of c.args.scratch.now c.list_row-row.result.places.len) 0 c.gather.new.out c.gather.result) e.stored e.headed c.gather.ensures

-- what was read and looked up
looked : (c : After-list_row-row) →
    let a = c.args in
    Looked a.stepper.now.image.frame a.stepper.now.image.bytes.now a.work.now.header.position (entries_in a.work.now.store.now a.work.now.header) (as_slot c.in_ok-value.value) c.read_tag-tag.result
    c.list_row-row.result
looked c =
    let s : c.slot_of.result ≡ Some c.in_ok-value.value = search rules in
    let e = c.state_of-state.ensures in
    record {
      found = ap found_slot (sym s) ∙ named_in e.stored e.headed c.first-var.ensures c.slot_of.ensures;
      tagged = c.read_tag-tag.ensures;
      args = c.list_row-row.ensures;
    }

-- the args are few
few : (c : After-list_row-row) → c.list_row-row.result.places.len ≤ 128
few c = list-short c.list_row-row.result c.args.stepper.now.image.ready c.requires.record' refl c.list_row-row.ensures

-- as many slots of scratch
long : (c : After-list_row-row) → length (sliced_of c.args.scratch.now c.list_row-row.result.places.len) ≡ 16 * c.list_row-row.result.places.len
long c =
    let n = c.list_row-row.result.places.len in
    let full : length c.args.scratch.now ≡ 2080 = search rules in
    length-take-le (16 * n) c.args.scratch.now (omega (arith, few c, full))

-- there is room for their values
room : (c : After-list_row-row) → 0 + 16 * length (ids_of c.list_row-row.result) ≤ length (sliced_of c.args.scratch.now c.list_row-row.result.places.len)
room c = omega (arith, long c, ids-length c.list_row-row.result.bytes.now c.list_row-row.result.places)

-- they are as many as the args
many : (c : After-gather) → length c.gather.new.out / 16 ≡ length (ids_of c.list_row-row.result)
many c =
    let row = c.list_row-row.result in
    let short : row.places.len ≤ 128 = list-short row c.args.stepper.now.image.ready c.requires.record' refl c.list_row-row.ensures in
    let full : length c.args.scratch.now ≡ 2080 = search rules in
    let taken = length-take-le (16 * row.places.len) c.args.scratch.now (omega (arith, short, full)) in
    omega (arith, c.gather.auto.out, taken, ids-length row.bytes.now row.places)

pub returns-in_err-value : goal.returns-in_err-value
returns-in_err-value c = (
  let n : c.slot_of.result ≡ None = search rules in
      let e : c.from_residual.result ≡ Err NoStep = search rules in
      rw e record { makes = λ P l p o. unseen-makes p o c.requires.record' (ap found_slot (sym n) ∙ asked (goal.at.returns-in_err-value c).After-slot_of) },
  search rules,
)

pub overflow_mul-slots : goal.overflow_mul-slots
overflow_mul-slots c = omega (arith, few (goal.at.overflow_mul-slots c).After-list_row-row)

pub slice_bounds-slots-end : goal.slice_bounds-slots-end
slice_bounds-slots-end c =
    let full : length c.args.scratch.now ≡ 2080 = search rules in
    omega (arith, few (goal.at.slice_bounds-slots-end c).After-list_row-row, full)

pub gather-requires : goal.gather-requires
gather-requires c = omega (arith, long (goal.at.gather-requires c).After-list_row-row)

pub returns-then-not-gather : goal.returns-then-not-gather
returns-then-not-gather c = (
  record {
    makes = λ P l p o.
        source_none p o c.args.stepper.now.image.ready c.requires.record' (looked (goal.at.returns-then-not-gather c).After-list_row-row) (sym (gathers (goal.at.returns-then-not-gather c).After-gather).found ∙ c.if-not-gather.true);
  },
  search rules,
)

pub source_enter-requires : goal.source_enter-requires
source_enter-requires c =
    let w = (goal.at.source_enter-requires c).After-list_row-row in
    let g = (goal.at.source_enter-requires c).After-gather in
    let n = ids-length c.list_row-row.result.bytes.now c.list_row-row.result.places in
    let slots = gathered-slots (gathers g) (slots-ok _ _ _ c.requires.fit.holds.entries) c.if-not-gather.false (room w) in (
      c.requires,
      record {
        whole = omega (arith, many g, n, c.gather.auto.out, long w);
        few = omega (arith, many g, n, few w);
        are = ap (λ (i : ℕ). all_slots (slots_at c.gather.new.out 0 i)) (many g) ∙ slots;
      },
    )

pub returns : goal.returns
returns c = (
  record {
    makes = λ P l p o.
        let w = (goal.at.returns c).After-list_row-row in
        let g = gathers (goal.at.returns c).After-gather in
        let n = many (goal.at.returns c).After-gather in
        let are = ap (slots_at c.gather.new.out 0) n ∙ gathered-stand g (slots-ok _ _ _ c.requires.fit.holds.entries) c.if-not-gather.false (room w) in
        source-makes p o c.args.stepper.now.image.ready c.requires.record' (looked w) (sym g.found ∙ c.if-not-gather.false) are c.source_enter.ensures.0;
  },
  search rules,
)
