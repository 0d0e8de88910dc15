-- What the search for a definition's place says of a start: the definition is there, at its record, or there is none. Assumes nothing.
use Prim.Native.Nat.{ℕ}
use mathlib.Core.Path.{◌≡◌, sym, ap, ◌∙◌}
use mathlib.Core.List.{List, []}
use mathlib.Core.Option.{Option as Optional}
use Rattle.model.specs.Syntax.{Def, Prog}
use Rattle.model.specs.Machine.{nth}
use Rattle.image_spec.specs.Shape.{max_depth}
use Rattle.image_directory.specs.Slots as image
use Rattle.image_directory.specs.declared.Frame.{Frame}
use Rattle.scope_check.proofs.CheckLaws.{stands-flat}
use Rattle.step_spec.specs.Located.{Machine, definition_place}
use Rattle.step_spec.specs.Calls.{start_at}
use Rattle.step_spec.proofs.Stepping.{Readable}
use Rattle.step_places.specs.Searches.{FindsDef, FindsDefinition}
use Rattle.step_places.proofs.NextPlaces.{found_at, none_found}
use Rattle.step_places.specs.declared.stepper.Stepper.{Stepper}
use Rattle.step_rule.specs.Rules.{ImageOf, ProgramOf, machine_in}
use Rattle.std.specs.Prelude.{Option, Some, None, Result, Err}
use Rattle.step_answer_spec.specs.declared.Shown.{Shown}
use Rattle.step_answer_spec.specs.declared.Failure.{Failure}
use Rattle.step_answer_spec.specs.declared.Failure.TheVariants.{NoState}
use Rattle.step_answer_spec.specs.Saying.{result_of, Accepted}
use Rattle.step_start.specs.Starting.{DefinedAt, HasDefinition, StartsIn}

module _ {g : Frame} {D : ℕ} {bytes : List ℕ} {n : ℕ} {found : Option ℕ} (f : FindsDefinition g bytes D n found) {P : Prog} (p : ImageOf P g D bytes) where
  finds_in : FindsDef 1 max_depth (image.records_in g bytes) (definition_place n P.defs 0) (nth n P.defs) found
  finds_in = f.finds max_depth P.defs (stands-flat p.records p.shallow p.count)

  -- 14: there is no such definition
  pub starts_nowhere : found ≡ None → (M : Machine) (values store : List ℕ) → result_of (Err NoState) store [] ≡ start_at M P n (nth n P.defs) values store
  starts_nowhere e M values store = sym (ap (λ (d : Optional Def). start_at M P n d values store) (none_found e finds_in))

module _ {stepper : Stepper} {bytes : List ℕ} {n : ℕ} {found : Option ℕ} (f : FindsDefinition stepper.image.frame bytes stepper.definitions n found) {i : ℕ} (e : found ≡ Some i) where
  defined : {P : Prog} → ProgramOf P stepper bytes → DefinedAt P stepper bytes n i
  defined p =
      let a = found_at i e (finds_in f p) in
      record { def = a.what; found = a.is; place = a.next; name = a.name; head = a.head }

  pub has-definition : Accepted stepper.image.frame stepper.definitions bytes → HasDefinition stepper bytes i
  has-definition a = record { accepted = a; place = n; defined = defined a.is; record' = f.at i e }

  pub starts-there : {values store store' : List ℕ} {r : Result Shown Failure} → StartsIn stepper bytes i values store store' r → (P : Prog) → ProgramOf P stepper bytes → Readable P
      → result_of r store' [] ≡ start_at (machine_in stepper) P n (nth n P.defs) values store
  starts-there {values} {store} s P p o =
      let d = defined p in
      s.starts P n p o d ∙ sym (ap (λ (x : Optional Def). start_at (machine_in stepper) P n x values store) d.found)
