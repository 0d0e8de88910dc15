-- A start: its header, its stopped flag, and what it has done.
use Rattle.std.specs.Prelude.{ℕ, ◌+◌, ◌≡◌, Bool, true, false, cond, List, [], length, Result}
use Rattle.std.proofs.Math.Option.{some}
use Rattle.std.proofs.lemmas.List.Edits.{sets}
use Rattle.syntax.specs.Sets.{distinct}
use Rattle.syntax.specs.declared.names.VarId.{VarId}
use Rattle.syntax.specs.declared.names.Identifier.{Identifier}
use Rattle.model.specs.Syntax.{Def, Prog}
use Rattle.model.specs.Machine.{nth}
use Rattle.image_spec.specs.Records.{definition}
use Rattle.image_read_parts.specs.Indexed.{record_at, At}
use Rattle.image_open.specs.declared.opened.Opened.{Opened}
use Rattle.step_spec.specs.declared.MachineKind.{MachineKind}
use Rattle.step_spec.specs.declared.MachineKind.TheVariants.{Source, Linear}
use Rattle.step_spec.specs.Located.{Located, project, is_stop, definition_place}
use Rattle.step_spec.specs.Store.{store_bytes}
use Rattle.step_spec.specs.Events.{givens}
use Rattle.step_spec.specs.Calls.{start_with, start_at}
use Rattle.step_spec.proofs.Stepping.{Readable}
use Rattle.step_header.specs.declared.Header.{Header}
use Rattle.step_rows.specs.declared.row.Row.{Row}
use Rattle.step_rows.specs.Rows.{ids_of}
use Rattle.step_places.specs.declared.stepper.Stepper.{Stepper}
use Rattle.step_rule.specs.Rules.{ImageOf, ProgramOf, machine_for, machine_in, Reads}
use Rattle.step_settle.specs.Settling.{flagged}
use Rattle.step_answer_spec.specs.declared.Shown.{Shown}
use Rattle.step_answer_spec.specs.declared.Failure.{Failure}
use Rattle.step_answer_spec.specs.Saying.{result_of, Accepted}

-- the header of a state before the first step
abbrev pub first_header_lem : (position entries : ℕ) → Header
first_header_lem p k = record { position = p; ended = false; stopped = false; cells = 0; heap = 0; entries = k }

-- document 01: a start whose parameters repeat an ID has stopped with no step made. Otherwise the flag says whether the machine stops there
abbrev pub start_stops : MachineKind → List VarId → (stops : Bool) → Bool
start_stops Source xs b = b
start_stops Linear xs b = cond (distinct xs) b true

-- the flag of a start whose parameters are the row's, whatever program and state they are
pub record Flags (stepper : Stepper) (bytes : List ℕ) (row : Row) (store : List ℕ) (h : Header) (store' : List ℕ) : Type 0 where
  pub flags : (P : Prog) (l : Located) → ProgramOf P stepper bytes → Reads P store h l → l.has_stopped ≡ false
      → store' ≡ sets store 0 (store_bytes (flagged (start_stops stepper.machine (ids_of row) (is_stop ((machine_in stepper).step P (project P l)))) l))

-- the definition at place n of the program has its record at index i
pub record DefinedAt (P : Prog) (stepper : Stepper) (bytes : List ℕ) (n i : ℕ) : Type 0 where
  pub def : Def
  pub found : nth n P.defs ≡ some def
  pub place : i + 1 ≡ definition_place n P.defs 0
  pub name : Identifier
  pub head : record_at stepper.image.frame bytes i ≡ definition name def.context

-- an image whose questions were answered with yes, and a definition of its program, whose record is at index i
pub record HasDefinition (stepper : Stepper) (bytes : List ℕ) (i : ℕ) : Type 0 where
  pub accepted : Accepted stepper.image.frame stepper.definitions bytes
  pub place : ℕ
  pub defined : DefinedAt accepted.program stepper bytes place i
  pub record' : At stepper.image.frame bytes i 1

-- a start at this definition, whatever program the image is that of
pub record StartsIn (stepper : Stepper) (bytes : List ℕ) (i : ℕ) (values store store' : List ℕ) (r : Result Shown Failure) : Type 0 where
  pub starts : (P : Prog) (n : ℕ) → ProgramOf P stepper bytes → Readable P → (d : DefinedAt P stepper bytes n i)
      → result_of r store' [] ≡ start_with (machine_in stepper) P n (givens (length d.def.context) values) store

-- a start at place n among the definitions, whatever program the image is that of
pub record StartsOn (machine : MachineKind) (o : Opened) (n : ℕ) (values store store' : List ℕ) (r : Result Shown Failure) : Type 0 where
  pub starts : (P : Prog) → ImageOf P o.image.frame o.definitions o.image.bytes.now → Readable P → result_of r store' [] ≡ start_at (machine_for machine) P n (nth n P.defs) values store
