-- Call: the linear machine's. Assumes nothing.
use Prim.Native.Nat.{ℕ}
use mathlib.Core.Path.{◌≡◌, sym, ap, ◌∙◌}
use mathlib.Core.List.{List}
use lib.ListN.{length-map}
use Rattle.syntax.specs.Context.{Context}
use Rattle.syntax.specs.declared.names.VarId.{VarId}
use Rattle.syntax.specs.declared.names.Identifier.{Identifier}
use Rattle.model.specs.Syntax.{Call, Def, Prog}
use Rattle.model.specs.Machine.{Value, Entries, values, Outcome, Call'}
use Rattle.model.specs.Linear.{shows_unless_twice, linear_work}
use Rattle.step_slots.specs.Slots.{Slot}
use Rattle.step_spec.specs.Located.{linear_machine, Located, stmt_in, is_stop}
use Rattle.step_spec.specs.Store.{place_of, entry_slot, environment_of}
use Rattle.step_header.specs.declared.Header.{Header}
use Rattle.step_header.specs.Headers.{entries_in}
use Rattle.step_gather.specs.Gathering.{renamed}
use Rattle.step_gather.proofs.GatheringLaws.{renamed-values}
use Rattle.step_rule.specs.Rules.{Stored}
use Rattle.step_rule.proofs.Views.{viewed}
use Rattle.step_rule.proofs.Machines.{linear-works}
use Rattle.step_enter.proofs.Twice.{not_twice}
use Rattle.step_statement_call.proofs.CallLaws.{cells, Calls, Laid}

module _ {P : Prog} {store : List ℕ} {h : Header} {l : Located} (o : Stored linear_machine P store h l) where
  -- what the machine does with all entries
  pub all-entries : (label : Identifier) (args : Context) {n : ℕ} → stmt_in P l.position ≡ Call label args → n ≡ h.entries → Calls linear_machine P l label.name (values l.environment) n
  unfolding linear_work environment_of
  all-entries label args is c =
      let enter : Def → Entries → Outcome = λ (d : Def) (new : Entries). shows_unless_twice (Call' label.name) d.body new (cells P l) in
      record {
        count = c ∙ ((viewed o).entries_size ∙ (length-map l.environment (entry_slot (place_of l.cells)) ∙ sym (length-map l.environment (λ (e : VarId × Value). e.1))));
        enter = enter;
        works = linear-works o (Call label args) is;
        shown = λ d new e. e ∙ not_twice (Call' label.name) d.body new (cells P l) (ap is_stop (sym e) ∙ o.goes);
      }

  -- .. which were copied
  pub entries-laid : {ts : List Slot} → ts ≡ entries_in store h → Laid l (values l.environment) ts
  unfolding environment_of
  entries-laid q = record { slots = λ xs. ap (renamed xs) (q ∙ (viewed o).entries) ∙ renamed-values (place_of l.cells) xs l.environment }
