use Rattle.std.specs.Prelude.{Option}
use mathlib.Core.Path.{sym, ap, ◌∙◌}
use Rattle.syntax.specs.Options.{option_of}
use Rattle.syntax.specs.declared.names.Identifier.{Identifier}
use Rattle.step_header.specs.Headers.{entries_in}
use Rattle.step_statement_ifc.specs.Choices.{second_in}
use Rattle.step_statement_ifc.proofs.ifc.second.Goals as goal

pub returns-in-None : goal.returns-in-None
unfolding second_in
returns-in-None c =
    let s = c.args.state.now in
    sym (ap (λ (x : Option Identifier). second_in (entries_in s.store.now s.header) (option_of x)) c.in-None.is)

pub returns-in-Some : goal.returns-in-Some
unfolding second_in
returns-in-Some c =
    let s = c.args.state.now in
    c.integer_of.ensures ∙ sym (ap (λ (x : Option Identifier). second_in (entries_in s.store.now s.header) (option_of x)) c.in-Some.is)
