-- The variable that a Switch matches on, under the name that it has from there on.
use Rattle.std.specs.Prelude.{ℕ, ◌≡◌}
use Rattle.syntax.specs.declared.context.ContextBinding.{ContextBinding}
use Rattle.pass_statement_switch.specs.declared.switch.FreshVar.{FreshVar}

-- the binding and the max_id that switch.rs draws
pub record FreshVarIs (r : FreshVar) (w : ContextBinding × ℕ) : Type 0 where
  pub binding : r.binding ≡ w.0
  pub max_id : r.max_id ≡ w.1
