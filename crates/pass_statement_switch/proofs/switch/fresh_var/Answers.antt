use mathlib.Core.Path.{refl, sym, ap, ◌∙◌}
use native.Mathlib.Omega.{arith}
use Rattle.syntax.specs.Context.{rebound}
use Rattle.syntax.specs.declared.names.Identifier.{Identifier}
use Rattle.syntax.proofs.Drawing.{fresh-near}
use Rattle.model.specs.Rules.{fresh_var_unless}
use Rattle.pass_statement_switch.proofs.switch.fresh_var.Goals as goal
use Rattle.pass_statement_switch.proofs.switch.fresh_var.Goals.{then-right-via-then-right, then-right-via-else-right+then-not-contains}

pub returns-then-right : goal.returns-then-right
unfolding fresh_var_unless
returns-then-right c =
    elim c.then-right.branch [
      | then-right-via-then-right w ↦ rw w.if-right.true record { binding = refl; max_id = refl }
      | then-right-via-else-right+then-not-contains w ↦ rw (w.if-right.false, sym w.contains.ensures ∙ w.if-not-contains.true) record { binding = refl; max_id = refl }
    ]

pub fresh-var-requires : goal.fresh-var-requires
fresh-var-requires c = omega (arith, fresh-near c.args.max_id, c.requires)

pub returns : goal.returns
unfolding fresh_var_unless
returns c =
    let a = c.args in
    rw (c.if-right.false, sym c.contains.ensures ∙ c.if-not-contains.false) record {
      binding = ap (rebound a.binding) c.fresh-var.ensures;
      max_id = ap (λ (x : Identifier). x.id.0) c.fresh-var.ensures;
    }
