-- Call: the source machine's. Assumes nothing.
use Prim.Native.Nat.{ℕ, ◌+◌, ◌*◌, ◌≤◌}
use mathlib.Core.Path.{◌≡◌, sym, ap, ◌∙◌, subst₂}
use mathlib.Core.Bool.{Bool, true, false}
use mathlib.Core.List.{List, map}
use mathlib.Core.Option.{Option}
use native.Mathlib.Omega.{arith}
use lib.ListN.{length, length-map}
use Rattle.std.specs.Prelude.{Err}
use Rattle.syntax.specs.Context.{Context, ids}
use Rattle.syntax.specs.declared.names.Identifier.{Identifier}
use Rattle.syntax.specs.declared.names.Name.{Name}
use Rattle.syntax.specs.declared.names.VarId.{VarId}
use Rattle.model.specs.Syntax.{Call, Def, Prog}
use Rattle.model.specs.Lists.{lookups}
use Rattle.model.specs.Machine.{Value, Entries, at, Outcome, shows, or_halt, Call', find_def}
use Rattle.model.specs.Source.{source_work, source_step_lem}
use Rattle.step_slots.specs.Slots.{Slot, value_slot}
use Rattle.step_slots.specs.Views.{slots_at}
use Rattle.step_slots.proofs.SlotBytes.{slots-count}
use Rattle.step_spec.specs.Located.{source_machine, Located, stmt_in, project, located_step}
use Rattle.step_spec.specs.Store.{place_of}
use Rattle.step_header.specs.declared.Header.{Header}
use Rattle.step_header.specs.Headers.{entries_in}
use Rattle.step_gather.specs.Gathering.{Gathers, renamed}
use Rattle.step_gather.proofs.GatheredSlots.{slots-ok, gathered-stand}
use Rattle.step_gather.proofs.GatheringLaws.{gathered, not_gathered}
use Rattle.step_write.specs.declared.Stop.TheVariants.{NoStep}
use Rattle.step_rule.specs.Rules.{Stored, resting, Makes}
use Rattle.step_rule.proofs.Views.{viewed}
use Rattle.step_rule.proofs.Machines.{source-works}
use Rattle.step_enter.proofs.ParameterLaws.{with_values}
use Rattle.step_enter.proofs.Around.{nothing_makes}
use Rattle.step_statement_call.proofs.CallLaws.{cells, Calls, Laid}

-- what was gathered of the entries of a state is of the store and the header that it has
pub gathers_in : {s t : List ℕ} {h k : Header} {xs : List VarId} {scratch scratch' : List ℕ} {r : Bool} → s ≡ t → h ≡ k → Gathers (entries_in s h) xs scratch 0 scratch' r
    → Gathers (entries_in t k) xs scratch 0 scratch' r
gathers_in {xs = xs} {scratch} {scratch'} {r} e f g = subst₂ (λ (s : List ℕ) (h : Header). Gathers (entries_in s h) xs scratch 0 scratch' r) e f g

-- the values of all args, and their slots
pub record AllFound (P : Prog) (l : Located) (label : Name) (ts : List Slot) (n : ℕ) : Type 0 where
  pub found : List Value
  pub calls : Calls source_machine P l label found n
  pub laid : Laid l found ts

module _ {P : Prog} {store : List ℕ} {h : Header} {l : Located} (o : Stored source_machine P store h l) (label : Identifier) (args : Context) (is : stmt_in P l.position ≡ Call label args) where
  -- what the machine does with the values of the args
  abbrev enter : Def → Entries → Outcome
  enter d new = shows (Call' label.name) (at d.body new (cells P l))

  abbrev calls : List Value → Outcome
  calls vs = with_values (λ d. d.context) vs enter (find_def label.name P.defs)

  works : source_step_lem P (project P l) ≡ or_halt (lookups (ids args) l.environment) calls
  unfolding source_work
  works = source-works o (Call label args) is

  module _ {xs : List VarId} (e : xs ≡ ids args) {scratch scratch' : List ℕ} {r : Bool} (g : Gathers (entries_in store h) xs scratch 0 scratch' r) where
    looked : {v : Option (List Value)} → lookups xs l.environment ≡ v → source_step_lem P (project P l) ≡ or_halt v calls
    looked q = works ∙ ap (λ (x : Option (List Value)). or_halt x calls) (ap (λ (ys : List VarId). lookups ys l.environment) (sym e) ∙ q)

    -- one of them is absent
    pub missing-makes : {events : List ℕ} {at' : ℕ} → r ≡ false → Makes store events at' (resting (located_step source_machine P l)) store events (Err NoStep)
    missing-makes f = nothing_makes o (looked (not_gathered o xs (sym g.found ∙ f)))

    -- all are there, and so are their slots
    pub all_found : {n : ℕ} → length xs ≡ n → r ≡ true → 16 * n ≤ length scratch → AllFound P l label.name (slots_at scratch' 0 n) n
    all_found {n} c f room =
        let v = gathered o xs (sym g.found ∙ f) in
        let of = place_of l.cells in
        let stand : slots_at scratch' 0 n ≡ map (value_slot of 0) v.found =
        ap (slots_at scratch' 0) (sym c) ∙ (gathered-stand g (slots-ok store (64 + 16 * h.heap) h.entries (viewed o).entries_slots) f (omega (arith, c, room)) ∙ v.slots) in
        let n-is : n ≡ length v.found = sym (slots-count scratch' 0 n) ∙ (ap length stand ∙ length-map v.found (value_slot of 0)) in
        record {
          found = v.found;
          calls = record { count = n-is; enter = enter; works = looked v.looked; shown = λ d new s. s };
          laid = record { slots = λ ys. ap (renamed ys) stand };
        }
