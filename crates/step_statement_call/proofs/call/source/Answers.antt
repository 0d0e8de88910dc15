-- `source` meets its contract. Assumes nothing.
use Rattle.std.specs.Prelude.{Some, None, Err}
use Prim.Native.Nat.{ℕ, ◌≤◌}
use mathlib.Core.Path.{◌≡◌, refl, sym, ap, ◌∙◌, subst}
use mathlib.Core.Bool.{true}
use native.Mathlib.Omega.{arith}
use borrow.Author.Rules.{rules}
use lib.ListN.{length}
use Rattle.syntax.specs.Context.{ids}
use Rattle.model.specs.Syntax.{Prog}
use Rattle.image_spec.specs.Records.{Record}
use Rattle.image_read_parts.specs.Parts.{list_of}
use Rattle.step_slots.specs.Views.{slots_at, all_slots}
use Rattle.step_spec.specs.Located.{source_machine, Located}
use Rattle.step_rows.proofs.RowLaws.{ids-length}
use Rattle.step_gather.proofs.GatheredSlots.{slots-ok, gathered-slots}
use Rattle.step_write.specs.declared.Stop.TheVariants.{NoStep}
use Rattle.step_rule.specs.Rules.{ProgramOf, Stored}
use Rattle.step_rows.proofs.RecordRowLaws.{list-short}
use Rattle.step_enter.proofs.ParameterLaws.{fitting}
use Rattle.step_statement_call.proofs.TheCall.{label-read, the_call}
use Rattle.step_statement_call.proofs.CallLaws.{Laid, absent-makes, uneven_makes, call-makes}
use Rattle.step_statement_call.proofs.SourceLaws.{gathers_in, AllFound, missing-makes, all_found}
use Rattle.step_statement_call.proofs.call.source.Goals as goal
use Rattle.step_statement_call.proofs.call.source.Goals.{Start, After-list_row-args, Else-not-gather, In_ok-called}

-- how long scratch is
full : (c : Start) → length c.args.scratch.now ≡ 2080
full c = search rules

few : (c : After-list_row-args) → c.list_row-args.result.places.len ≤ 128
few c = list-short c.list_row-args.result c.args.stepper.now.image.ready c.requires.record' refl c.list_row-args.ensures

-- the machine's step, where all args are there
all : (c : Else-not-gather)
    → (P : Prog) (l : Located) (p : ProgramOf P c.args.stepper.now c.args.stepper.now.image.bytes.now) (o : Stored source_machine P c.args.work.now.store.now c.args.work.now.header l)
    → AllFound P l (the_call p o c.requires.record').label.name (slots_at c.gather.new.out 0 c.list_row-args.result.places.len) c.list_row-args.result.places.len
all c P l p o =
    let t = the_call p o c.requires.record' in
    let row = c.list_row-args.result in
    let n : row.places.len ≤ 128 = list-short row c.args.stepper.now.image.ready c.requires.record' refl c.list_row-args.ensures in
    let f : length c.args.scratch.now ≡ 2080 = search rules in
    let are = c.list_row-args.ensures ∙ ap (λ (r : Record). ids (list_of r)) t.holds in
    let g = gathers_in c.state_of-state.ensures.stored c.state_of-state.ensures.headed c.gather.ensures in
    all_found o t.label t.args t.is are g (ids-length row.bytes.now row.places) c.if-not-gather.false (omega (arith, n, f))

-- the definition is found
found : (c : In_ok-called) → c.definition_of.result ≡ Some c.in_ok-called.called
found c = search rules

pub gather-requires : goal.gather-requires
gather-requires c = omega (arith, few (goal.at.gather-requires c).After-list_row-args, full (goal.at.gather-requires c).Start)

pub returns-then-not-gather : goal.returns-then-not-gather
returns-then-not-gather c = (
  record {
    makes = λ P l p o.
        let t = the_call p o c.requires.record' in
        let are = c.list_row-args.ensures ∙ ap (λ (r : Record). ids (list_of r)) t.holds in
        missing-makes o t.label t.args t.is are (gathers_in c.state_of-state.ensures.stored c.state_of-state.ensures.headed c.gather.ensures) c.if-not-gather.true;
  },
  search rules,
)

pub returns-in_err-called : goal.returns-in_err-called
returns-in_err-called c = (
  let n : c.definition_of.result ≡ None = search rules in
      let e : c.from_residual.result ≡ Err NoStep = search rules in
      rw e record {
        makes = λ P l p o.
            absent-makes o p (all (goal.at.returns-in_err-called c).Else-not-gather P l p o).calls (label-read (the_call p o c.requires.record') c.label_of-label.ensures) c.definition_of.ensures n;
      },
  search rules,
)

pub returns-then-called-args : goal.returns-then-called-args
returns-then-called-args c = (
  record {
    makes = λ P l p o.
        uneven_makes o p (all (goal.at.returns-then-called-args c).Else-not-gather P l p o).calls (label-read (the_call p o c.requires.record') c.label_of-label.ensures) c.definition_of.ensures
        (found (goal.at.returns-then-called-args c).In_ok-called) c.if-called-args.true;
  },
  search rules,
)

pub jump-requires : goal.jump-requires
jump-requires c =
    let g = c.requires in
    let f = fitting (found (goal.at.jump-requires c).In_ok-called) c.definition_of.ensures.reads in
    let k = ids-length c.list_row-args.result.bytes.now c.list_row-args.result.places in
    let full' = full (goal.at.jump-requires c).Start in
    let there = gathers_in c.state_of-state.ensures.stored c.state_of-state.ensures.headed c.gather.ensures in
    let stand : all_slots (slots_at c.gather.new.out 0 c.in_ok-called.called.row.places.len) ≡ true =
    ap (λ (i : ℕ). all_slots (slots_at c.gather.new.out 0 i)) (c.if-called-args.false ∙ sym k)
    ∙ gathered-slots there (slots-ok _ _ _ g.fit.holds.entries) c.if-not-gather.false (omega (arith, k, few (goal.at.jump-requires c).After-list_row-args, full')) in
    (g.fit, (omega (arith, f.short, c.gather.auto.out, full'), stand))

pub returns : goal.returns
returns c = (
  record {
    makes = λ P l p o.
        let f = all (goal.at.returns c).Else-not-gather P l p o in
        let n = c.if-called-args.false in
        let v = subst (λ (i : ℕ). Laid l f.found (slots_at c.gather.new.out 0 i)) (sym n) f.laid in
        call-makes o p f.calls (label-read (the_call p o c.requires.record') c.label_of-label.ensures) c.definition_of.ensures (found (goal.at.returns c).In_ok-called) n v c.jump.ensures.0;
  },
  search rules,
)
