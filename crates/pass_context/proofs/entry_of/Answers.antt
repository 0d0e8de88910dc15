-- `entry_of` meets its contract: what `find` says of the items it has seen. Assumes nothing.
use Rattle.std.proofs.Common.{rules, ◌≡◌, length, ℕ, ◌<◌, false, true}
use mathlib.Core.Path.{sym, ap, ◌∙◌}
use mathlib.Core.Option.{some}
use lib.ListN.{get_or}
use Rattle.syntax.specs.Names.{same_var_id}
use Rattle.pass_entries.specs.declared.entries.FlatEntry.{FlatEntry}
use Rattle.pass_context.proofs.Uses.{entry_absent, entry_first}
use Rattle.pass_context.proofs.entry_of.Goals as goal

pub returns-in_err-e : goal.returns-in_err-e
returns-in_err-e c =
    let other : (k : ℕ) (d : FlatEntry) → k < length c.args.entries.now → same_var_id c.args.id (get_or c.args.entries.now k d).source ≡ false = λ k d h. search rules in
    rw c.from_residual.ensures (sym (entry_absent c.args.id c.args.entries.now other))

pub returns : goal.returns
returns c =
    let es = c.args.entries.now in
    let e = c.in_ok-e.e.now in
    let i = c.in_ok-e.ensures.runs.2.0 in
    let below : i < length es = search rules in
    let at : get_or es i e ≡ e = search rules in
    let same : same_var_id c.args.id e.source ≡ true = search rules in
    let other : (k : ℕ) (d : FlatEntry) → k < i → same_var_id c.args.id (get_or es k d).source ≡ false = λ k d h. search rules in
    ap some c.entry.ensures ∙ sym (entry_first c.args.id es i e below at same other)
