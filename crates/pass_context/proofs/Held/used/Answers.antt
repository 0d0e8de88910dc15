-- `Held::used` meets its contract. Assumes nothing.
use mathlib.Core.Path.{◌≡◌, sym, ap, ◌∙◌}
use Rattle.syntax.specs.Options.{option_of}
use Rattle.pass_work_spec.specs.Work.{entry_of}
use Rattle.std.proofs.lemmas.List.{take-map}
use Rattle.pass_entries.specs.Entries.{entry_in}
use Rattle.pass_context.specs.Holding.{work_of}
use Rattle.pass_context.proofs.Uses.{used_by}
use Rattle.pass_context.proofs.Held.used.Goals as goal
use Rattle.pass_context.proofs.Held.used.Goals.{After-entry_of}

found : (c : After-entry_of) → option_of c.entry_of.result ≡ entry_of c.args.x.id (work_of c.args.self)
found c = c.entry_of.ensures ∙ ap (entry_of c.args.x.id) (sym (take-map entry_in c.args.self.len c.args.self.entries))

pub returns-in-Some : goal.returns-in-Some
returns-in-Some c =
    let o = ap option_of (sym c.in-Some.is) ∙ found (goal.at.returns-in-Some c).After-entry_of in
    c.spelled.ensures ∙ sym (used_by (work_of c.args.self) c.args.x _ o)

pub returns-in-None : goal.returns-in-None
returns-in-None c =
    let o = ap option_of (sym c.in-None.is) ∙ found (goal.at.returns-in-None c).After-entry_of in
    sym (used_by (work_of c.args.self) c.args.x _ o)
