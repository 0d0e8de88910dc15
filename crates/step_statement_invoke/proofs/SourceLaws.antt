-- Invoke: the source machine's step. Assumes nothing.
use Prim.Native.Nat.{ℕ}
use mathlib.Core.Path.{◌≡◌, refl, sym, ap, ap₂, ◌∙◌, subst}
use mathlib.Core.Bool.{true, false}
use mathlib.Core.List.{List, map}
use mathlib.Core.Option.{Option, none, some}
use native.Mathlib.Omega.{arith}
use lib.ListN.{length, length-map}
use Rattle.std.specs.Prelude.{Result, Err}
use Rattle.syntax.specs.Context.{ids}
use Rattle.syntax.specs.declared.names.VarId.{VarId}
use Rattle.syntax.specs.declared.names.Identifier.{Identifier}
use Rattle.model.specs.Lists.{lookup, lookups}
use Rattle.model.specs.Machine.{Value, Entries, at, ended, Invoke', Outcome, shows, halts, or_halt, Target, invoked}
use Rattle.model.specs.Source.{source_enter_lem, source_work}
use Rattle.model.specs.Syntax.{Stmt, Invoke, Prog}
use Rattle.image_spec.specs.Records.{Record}
use Rattle.image_directory.specs.declared.Frame.{Frame}
use Rattle.image_directory.specs.Slots.{Ready}
use Rattle.image_read_parts.specs.Parts.{list_of}
use Rattle.image_read_nodes.specs.Nodes.{first_of}
use Rattle.image_read_parts.specs.Indexed.{record_at, At}
use Rattle.step_slots.specs.Slots.{Slot, value_slot}
use Rattle.step_slots.specs.Views.{no_slot}
use Rattle.step_spec.specs.Located.{source_machine, Located, stmt_in, project, located_step}
use Rattle.step_spec.specs.Store.{place_of}
use Rattle.step_header.specs.declared.Header.{Header}
use Rattle.step_header.specs.Headers.{heap_in, entries_in}
use Rattle.step_entries.specs.Named.{named}
use Rattle.step_rows.specs.declared.row.Row.{Row}
use Rattle.step_rows.specs.Rows.{ids_of}
use Rattle.step_gather.specs.Gathering.{all_found_lem, found_slots, shown_as, renamed}
use Rattle.step_gather.proofs.GatheringLaws.{gathered, not_gathered, shown-values}
use Rattle.step_cells.proofs.CellLaws.{cells_of, looked-up}
use Rattle.step_tags.specs.Tags.{tag_in}
use Rattle.step_write.specs.declared.Step.{Step}
use Rattle.step_write.specs.declared.Stop.{Stop}
use Rattle.step_write.specs.declared.Stop.TheVariants.{NoStep}
use Rattle.step_enter.proofs.Around.{nothing_makes}
use Rattle.step_rule.specs.Rules.{ImageOf, Stored, resting, Makes}
use Rattle.step_rule.proofs.Finds.{Sees, sees_none, sees-int, sees-cell, sees-outside, sees}
use Rattle.step_rule.proofs.Machines.{source-works}
use Rattle.step_statement_invoke.specs.Invoking.{Invokes}
use Rattle.step_statement_invoke.proofs.InvokeLaws.{Invocation, invocation-at, Rule, Valued, invokes-makes}

-- what is read and looked up for the Invoke at index i: the value of var among these entries, the name of the tag, and the row of the args
pub record Looked (frame : Frame) (bytes : List ℕ) (i : ℕ) (E : List Slot) (value : Slot) (tag : ℕ) (row : Row) : Type 0 where
  pub found : value ≡ named (first_of (record_at frame bytes i)).id.0 E
  pub tagged : tag ≡ (tag_in (record_at frame bytes i)).name.0
  pub args : ids_of row ≡ ids (list_of (record_at frame bytes i))

or_halts : {A : Type 0} (o : Option A) → or_halt o (λ _. halts) ≡ halts
or_halts none = refl
or_halts (some a) = refl

-- what is found in a state is the value in the store
pub named_in : {o : Slot} {s s' : List ℕ} {h h' : Header} {x y : Identifier} → s ≡ s' → h ≡ h' → x ≡ y → o ≡ named x.id.0 (entries_in s h) → o ≡ named y.id.0 (entries_in s' h')
named_in {s' = s'} {h' = h'} {x = x} p q r e = e ∙ (ap (named x.id.0) (ap₂ {C = List Slot} entries_in p q) ∙ ap (λ (z : Identifier). named z.id.0 (entries_in s' h')) r)

-- where no slot was found, there is no value
unseen : {of : ℕ → ℕ} {x : VarId} {ε : Entries} {t : Slot} → Sees of x ε t → t.sort ≡ 5 → lookup x ε ≡ none
unseen (sees_none e) s = e
unseen (sees-int z e f) s = absurd (omega (arith, s))
unseen (sees-cell k e) s = absurd (omega (arith, s))
unseen (sees-outside n e) s = absurd (omega (arith, s))

module _ {P : Prog} {store : List ℕ} {h : Header} {l : Located} (o : Stored source_machine P store h l) {r : Record} (i : Invocation (stmt_in P l.position) r) where
  abbrev t : Stmt
  t = Invoke i.var i.tag i.ty i.args

  abbrev enter : List Value → Target → Outcome
  enter vs x = source_enter_lem (ended t l.environment (cells_of P l)) i.tag.name vs (cells_of P l) x

  -- with the values of the args, or none
  abbrev worked : Option (List Value) → Outcome
  worked q = or_halt (lookup i.var.id l.environment) λ v. or_halt q λ vs. or_halt (invoked (cells_of P l) v) (enter vs)

  works : {q : Option (List Value)} → lookups (ids i.args) l.environment ≡ q → source_machine.step P (project P l) ≡ worked q
  unfolding source_work
  works e = source-works o t i.is ∙ ap worked e

  source-rule : (vs : List Value) → lookups (ids i.args) l.environment ≡ some vs → Rule source_machine P l t i.tag.name (lookup i.var.id l.environment) vs
  unfolding source_enter_lem
  source-rule vs e = record {
    enter = enter vs;
    run = λ k s ε. shows (Invoke' k i.tag.name) (at s ε (cells_of P l));
    goes = works e;
    ends = λ n. refl;
    enters = λ k ε cs. refl;
    runs = λ k s ε n. refl;
  }

  -- one of the args is absent
  source-halts : lookups (ids i.args) l.environment ≡ none → source_machine.step P (project P l) ≡ halts
  source-halts e = works e ∙ or_halts (lookup i.var.id l.environment)

  -- var is absent
  unseen-halts : lookup i.var.id l.environment ≡ none → source_machine.step P (project P l) ≡ halts
  unseen-halts e =
      works refl ∙ ap (λ (w : Option Value). or_halt w λ v. or_halt (lookups (ids i.args) l.environment) λ vs. or_halt (invoked (cells_of P l) v) (enter vs)) e

module _ {P : Prog} {frame : Frame} {definitions : ℕ} {bytes store : List ℕ} {h : Header} {l : Located} (p : ImageOf P frame definitions bytes) (o : Stored source_machine P store h l)
    (a : At frame bytes h.position 7) where
  pub unseen-makes : {events : List ℕ} {at' : ℕ} → no_slot ≡ named (first_of (record_at frame bytes h.position)).id.0 (entries_in store h)
      → Makes store events at' (resting (located_step source_machine P l)) store events (Err NoStep)
  unseen-makes e =
      let i = invocation-at p o a in
      let s : Sees (place_of l.cells) i.var.id l.environment no_slot = sees o i.var.id (e ∙ ap (λ (r : Record). named (first_of r).id.0 (entries_in store h)) i.holds) in
      nothing_makes o (unseen-halts o i (unseen s refl))

module _ {P : Prog} {frame : Frame} {definitions : ℕ} {bytes store : List ℕ} {h : Header} {l : Located} {value : Slot} {tag : ℕ} {row : Row} (p : ImageOf P frame definitions bytes) (o : Stored source_machine P store h l)
    (ready : Ready frame bytes) (a : At frame bytes h.position 7) (x : Looked frame bytes h.position (entries_in store h) value tag row) where
  abbrev i : Invocation (stmt_in P l.position) (record_at frame bytes h.position)
  i = invocation-at p o a

  args_are : ids_of row ≡ ids i.args
  args_are = x.args ∙ ap (λ (r : Record). ids (list_of r)) i.holds

  pub source-makes : {events store' events' : List ℕ} {at' : ℕ} {values : List Slot} {m : Result Step Stop} → all_found_lem (entries_in store h) (ids_of row) ≡ true
      → values ≡ found_slots (entries_in store h) (ids_of row) → Invokes frame bytes store events h at' value values tag store' events' m
      → Makes store events at' (resting (located_step source_machine P l)) store' events' m
  source-makes {events} {store'} {events'} {at'} {values} {m} f e w =
      let E = entries_in store h in
      let of = place_of l.cells in
      let g = gathered o (ids i.args) (ap (all_found_lem E) (sym args_are) ∙ f) in
      let s : values ≡ map (value_slot of 0) g.found = e ∙ (ap (found_slots E) args_are ∙ g.slots) in
      let valued : Valued store h l values g.found = record {
        count = ap length s ∙ length-map g.found (value_slot of 0);
        shown = ap (map (shown_as (heap_in store h))) s ∙ shown-values o g.found g.fit;
        named = λ xs. ap (renamed xs) s;
      } in
      let v : value ≡ named i.var.id.0 E = x.found ∙ ap (λ (r : Record). named (first_of r).id.0 E) i.holds in
      let n : tag ≡ i.tag.name.0 = x.tagged ∙ ap (λ (r : Record). (tag_in r).name.0) i.holds in
      invokes-makes p o ready (source-rule o i g.found g.looked) valued (looked-up o i.var.id (sees o i.var.id v) refl)
      (subst (λ (k : ℕ). Invokes frame bytes store events h at' value values k store' events' m) n w)

  pub source_none : {events : List ℕ} {at' : ℕ} → all_found_lem (entries_in store h) (ids_of row) ≡ false → Makes store events at' (resting (located_step source_machine P l)) store events (Err NoStep)
  source_none f = nothing_makes o (source-halts o i (not_gathered o (ids i.args) (ap (all_found_lem (entries_in store h)) (sym args_are) ∙ f)))
