-- `start_on` meets its contract. Assumes nothing.
use mathlib.Core.Path.{◌≡◌}
use Rattle.std.specs.Prelude.{Err}
use Rattle.step_answer_spec.specs.declared.Failure.TheVariants.{NoState}
use Rattle.step_start.proofs.FoundLaws.{has-definition, starts_nowhere, starts-there}
use Rattle.step_rule.specs.Rules.{machine_for}
use borrow.Author.Rules.{rules}
use Rattle.step_start.proofs.start_on.Goals as goal

pub start_in-requires : goal.start_in-requires
start_in-requires c =
    has-definition c.find_definition.ensures (search rules) c.requires

pub returns-in_err-i : goal.returns-in_err-i
returns-in_err-i c =
    let e : c.from_residual.result ≡ Err NoState = search rules in
    let a = c.args in
    rw e (record { starts = λ P p o. starts_nowhere c.find_definition.ensures p (search rules) (machine_for a.machine) a.values.now a.store.now })

pub returns : goal.returns
returns c = record { starts = starts-there c.find_definition.ensures (search rules) c.start_in.ensures }
