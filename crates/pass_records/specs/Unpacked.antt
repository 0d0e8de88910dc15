-- What the structs of records stand for, and what reading a record whole must answer.
use Rattle.std.specs.Prelude.{ℕ, ◌+◌, ◌≤◌, ◌<◌, ◌≡◌, true, List, length}
use Rattle.std.proofs.Math.Option.{none}
use Rattle.syntax.specs.Options.{option_of}
use Rattle.syntax.specs.Arrays.{context_of, Holds}
use Rattle.syntax.specs.Context.{Context}
use Rattle.syntax.specs.declared.context.TypingContext.{TypingContext}
use Rattle.image_spec.specs.Fields.{list_bytes, ListOk}
use Rattle.image_spec.specs.Records.{Record, call, let', switch, create, invoke, literal, op, ifc, print, exit}
use Rattle.image_spec.specs.Kinds.{kind_of, fixed}
use Rattle.image_directory.specs.declared.Frame.{Frame}
use Rattle.image_read_parts.specs.Standing.{Stands}
use Rattle.image_read_parts.specs.Parts.{list_of}
use Rattle.image_read_nodes.specs.Nodes.{has_list, first_of, first_at}
use Rattle.image_read_parts.specs.Indexed.{record_at}
use Rattle.pass_records.specs.declared.CallRecord.{CallRecord}
use Rattle.pass_records.specs.declared.LetRecord.{LetRecord}
use Rattle.pass_records.specs.declared.InvokeRecord.{InvokeRecord}
use Rattle.pass_records.specs.declared.SwitchRecord.{SwitchRecord}
use Rattle.pass_records.specs.declared.CreateRecord.{CreateRecord}
use Rattle.pass_records.specs.declared.LiteralRecord.{LiteralRecord}
use Rattle.pass_records.specs.declared.OpRecord.{OpRecord}
use Rattle.pass_records.specs.declared.IfCRecord.{IfCRecord}
use Rattle.pass_records.specs.declared.PrintRecord.{PrintRecord}
use Rattle.pass_records.specs.declared.ExitRecord.{ExitRecord}
use Rattle.pass_records.specs.declared.NameAndList.{NameAndList}

-- ── the record that a struct stands for (document 01, "The image": each kind and its parts) ──

-- 3 Call: label, list
abbrev pub call_of : CallRecord → Record
call_of c = call c.label (context_of c.args)

-- 4 Let: var, type, tag, list
abbrev pub let_of : LetRecord → Record
let_of l = let' l.var l.ty l.tag (context_of l.args)

-- 5 Switch: var, type, clause count byte
abbrev pub switch_of : SwitchRecord → Record
switch_of w = switch w.var w.ty w.clauses

-- 6 Create: var, type, environment, clause count byte. Question 6: a source has no environment
abbrev pub create_of : CreateRecord → Record
create_of c = create c.var c.ty none c.clauses

-- 7 Invoke: var, tag, type, list
abbrev pub invoke_of : InvokeRecord → Record
invoke_of v = invoke v.var v.tag v.ty (context_of v.args)

-- 8 Literal: eight bytes, signed; var
abbrev pub literal_of : LiteralRecord → Record
literal_of l = literal l.lit l.var

-- 9 Op: fst, operator, snd, var
abbrev pub op_of : OpRecord → Record
op_of o = op o.fst o.op o.snd o.var

-- 10 IfC: comparison, fst, snd if there is one
abbrev pub ifc_of : IfCRecord → Record
ifc_of c = ifc c.sort c.fst (option_of c.snd)

-- document 02, A.1: PrintI64 (newline byte, var)
abbrev pub print_of : PrintRecord → Record
print_of p = print p.newline p.var

-- document 02, A.1: Exit (var)
abbrev pub exit_of : ExitRecord → Record
exit_of e = exit e.var

-- the record is the one that a struct stands for, and the list in the struct has as many bindings as it says
pub record Unpacked (r meant : Record) (list : TypingContext) : Type 0 where
  pub is : r ≡ meant
  pub count : list.len ≡ length (context_of list)

-- ── lists ──

-- a list that an array has room for stands at `at`, and the code reads IDs of w bytes
-- (Asked of `list` alone. Another than `image_read_nodes`', which is of a record: this one is of bytes, with at most 64.)
pub record ListAt (w : ℕ) (s : List ℕ) (at : ℕ) : Type 0 where
  pub width : w ≤ 4
  pub list : Context
  pub stands : Stands (list_bytes w) (ListOk w) s at list
  pub small : length list ≤ 64

-- the struct holds the list that stands at `at`
pub record HoldsAt (w : ℕ) (s : List ℕ) (at : ℕ) (c : TypingContext) : Type 0 where
  pub is : (Γ : Context) → Stands (list_bytes w) (ListOk w) s at Γ → Holds c Γ

-- ── records of an identifier and a list ──

-- the record at index i is an identifier and a list that an array has room for
pub record NamedAt (g : Frame) (s : List ℕ) (i : ℕ) : Type 0 where
  pub inside : i < g.count
  pub first : first_at (kind_of (record_at g s i)) ≡ 1
  pub list : has_list (kind_of (record_at g s i)) ≡ true
  pub front : fixed g.id (kind_of (record_at g s i)) ≡ 3 + g.id
  pub small : length (list_of (record_at g s i)) ≤ 64

-- the struct has the record's identifier and its list
pub record NamedIs (n : NameAndList) (r : Record) : Type 0 where
  pub name : n.name ≡ first_of r
  pub list : Holds n.list (list_of r)
