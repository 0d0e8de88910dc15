-- `linear` meets its contract. Assumes nothing.
use Rattle.std.specs.Prelude.{Some, None, Err}
use Prim.Native.Nat.{ℕ, ◌+◌, ◌*◌}
use mathlib.Core.Path.{◌≡◌, refl, ap, ◌∙◌}
use mathlib.Core.Bool.{true}
use mathlib.Core.List.{List}
use native.Mathlib.Omega.{arith}
use borrow.Author.Rules.{rules}
use lib.ListN.{length}
use Rattle.model.specs.Syntax.{Prog}
use Rattle.model.specs.Machine.{values}
use Rattle.step_slots.specs.Views.{slots_at, all_slots}
use Rattle.step_spec.specs.Located.{linear_machine, Located}
use Rattle.step_header.specs.Headers.{entries_in}
use Rattle.step_write.specs.declared.Stop.TheVariants.{NoStep}
use Rattle.step_rule.specs.Rules.{ProgramOf, Stored}
use Rattle.step_enter.proofs.ParameterLaws.{fitting}
use Rattle.step_statement_call.proofs.TheCall.{label-read, the_call}
use Rattle.step_statement_call.proofs.CallLaws.{Calls, absent-makes, uneven_makes, call-makes}
use Rattle.step_statement_call.proofs.LinearLaws.{all-entries, entries-laid}
use Rattle.step_statement_call.proofs.call.linear.Goals as goal
use Rattle.step_statement_call.proofs.call.linear.Goals.{After-fetch, In_ok-called, Start}

-- how long scratch is
full : (c : Start) → length c.args.scratch.now ≡ 2080
full c = search rules

-- the machine's step
calls : (c : Start)
    → (P : Prog) (l : Located) (p : ProgramOf P c.args.stepper.now c.args.stepper.now.image.bytes.now) (o : Stored linear_machine P c.args.work.now.store.now c.args.work.now.header l)
    → Calls linear_machine P l (the_call p o c.requires.record').label.name (values l.environment) c.args.work.now.header.entries
calls c P l p o = let t = the_call p o c.requires.record' in all-entries o t.label t.args t.is refl

-- the definition is found
found : (c : In_ok-called) → c.definition_of.result ≡ Some c.in_ok-called.called
found c = search rules

-- all entries are copied
copied : (c : After-fetch) → slots_at c.fetch.new.scratch 0 c.args.work.now.header.entries ≡ entries_in c.args.work.now.store.now c.args.work.now.header
copied c =
    let h = c.args.work.now.header in
    c.fetch.ensures ∙ ap (λ (s : List ℕ). slots_at s (64 + 16 * h.heap) h.entries) c.store_of.ensures

pub returns-in_err-called : goal.returns-in_err-called
returns-in_err-called c = (
  let n : c.definition_of.result ≡ None = search rules in
      let e : c.from_residual.result ≡ Err NoStep = search rules in
      rw e record {
        makes = λ P l p o.
            absent-makes o p (calls (goal.at.returns-in_err-called c).Start P l p o) (label-read (the_call p o c.requires.record') c.label_of-label.ensures) c.definition_of.ensures n;
      },
  search rules,
)

pub returns-then-called-entries : goal.returns-then-called-entries
returns-then-called-entries c = (
  record {
    makes = λ P l p o.
        uneven_makes o p (calls (goal.at.returns-then-called-entries c).Start P l p o) (label-read (the_call p o c.requires.record') c.label_of-label.ensures) c.definition_of.ensures
        (found (goal.at.returns-then-called-entries c).In_ok-called) c.if-called-entries.true;
  },
  search rules,
)

pub fetch-requires : goal.fetch-requires
fetch-requires c =
    let g = c.requires in
    let f = fitting (found (goal.at.fetch-requires c).In_ok-called) c.definition_of.ensures.reads in
    rw c.store_of.ensures (omega (arith, g.fit.holds.inside), (g.fit.holds.entries, omega (arith, f.short, full (goal.at.fetch-requires c).Start, c.if-called-entries.false)))

pub jump-requires : goal.jump-requires
jump-requires c =
    let g = c.requires in
    let f = fitting (found (goal.at.jump-requires c).In_ok-called) c.definition_of.ensures.reads in
    let stand : all_slots (slots_at c.fetch.new.scratch 0 c.in_ok-called.called.row.places.len) ≡ true =
    ap (λ (n : ℕ). all_slots (slots_at c.fetch.new.scratch 0 n)) c.if-called-entries.false ∙ (ap all_slots (copied (goal.at.jump-requires c).After-fetch) ∙ g.fit.holds.entries) in
    (g.fit, (omega (arith, f.short, full (goal.at.jump-requires c).Start, c.fetch.auto.scratch), stand))

pub returns : goal.returns
returns c = (
  record {
    makes = λ P l p o.
        let n = c.if-called-entries.false in
        let v = entries-laid o (ap (slots_at c.fetch.new.scratch 0) n ∙ copied (goal.at.returns c).After-fetch) in
        call-makes o p (calls (goal.at.returns c).Start P l p o) (label-read (the_call p o c.requires.record') c.label_of-label.ensures) c.definition_of.ensures
        (found (goal.at.returns c).In_ok-called) n v c.jump.ensures.0;
  },
  search rules,
)
