-- `linear` meets its contract. Assumes nothing.
use Rattle.std.specs.Prelude.{Some, None, Err}
use mathlib.Core.Path.{◌≡◌, refl}
use native.Mathlib.Omega.{arith}
use borrow.Author.Rules.{rules}
use Rattle.step_write.specs.declared.Stop.TheVariants.{NoStep}
use Rattle.step_statement_create.proofs.LinearLaws.{Encloses, none_there, some_there, has-environment, has-entries, linear-makes}
use Rattle.step_statement_create.proofs.create.linear.Goals as goal
use Rattle.step_statement_create.proofs.create.linear.Goals.{In_ok-row}

-- the environment that was found
enclosed : (c : In_ok-row) → let a = c.args in Encloses a.stepper.now.image.frame a.stepper.now.image.bytes.now a.work.now.header.position c.in_ok-row.row.places.len
enclosed c =
    let s : c.environment_row.result ≡ Some c.in_ok-row.row = search rules in
    some_there c.args.stepper.now.image.frame c.args.stepper.now.image.bytes.now refl c.environment_row.ensures c.args.stepper.now.image.ready c.requires.record' s

pub returns-in_err-row : goal.returns-in_err-row
returns-in_err-row c = (
  let n : c.environment_row.result ≡ None = search rules in
      let e : c.from_residual.result ≡ Err NoStep = search rules in
      rw e record { makes = λ P l p o. absurd (has-environment p o c.requires.record' (none_there c.args.stepper.now.image.frame c.args.stepper.now.image.bytes.now refl c.environment_row.ensures n)) },
  search rules,
)

pub returns-then-work-row : goal.returns-then-work-row
returns-then-work-row c = (
  record {
    makes = λ P l p o.
        absurd (omega (arith, c.if-work-row.true, has-entries p o c.requires.record' (enclosed (goal.at.returns-then-work-row c).In_ok-row)));
  },
  search rules,
)

pub close_over-requires : goal.close_over-requires
close_over-requires c =
    (c.requires.fit, ((enclosed (goal.at.close_over-requires c).In_ok-row).few, c.if-work-row.false))

pub returns : goal.returns
returns c = (
  record {
    makes = λ P l p o.
        linear-makes p o c.requires.record' (enclosed (goal.at.returns c).In_ok-row) c.args.stepper.now.right c.read_parts-create.ensures c.close_over.ensures.0;
  },
  search rules,
)
