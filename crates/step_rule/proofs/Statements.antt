-- A statement by its record. Assumes nothing.
use Prim.Native.Nat.{ℕ, ◌+◌, ◌^◌, ◌<◌}
use mathlib.Core.Path.{◌≡◌, refl, sym, ap, ap₂, ◌∙◌, subst}
use mathlib.Core.Bool.{Bool}
use mathlib.Core.List.{List}
use mathlib.Core.Option.{Option}
use native.Mathlib.Omega.{arith}
use lib.IntN.{ℤ}
use lib.ListN.{drop}
use Rattle.syntax.specs.Context.{Context}
use Rattle.syntax.specs.declared.names.Identifier.{Identifier}
use Rattle.syntax.specs.declared.types.Ty.{Ty}
use Rattle.syntax.specs.declared.context.ContextBinding.{ContextBinding}
use Rattle.syntax.specs.declared.op.BinOp.{BinOp}
use Rattle.syntax.specs.declared.ifc.IfSort.{IfSort}
use Rattle.model.specs.Syntax.{Stmt, Substitute, Call, Let, Switch, Create, Invoke, Literal, Op, IfC, PrintI64, Exit, Clauses, Prog}
use Rattle.model.specs.Sizes.{count_clauses}
use Rattle.image_spec.specs.Records.{Record, substitute, call, let', switch, create, invoke, literal, op, ifc, print, exit}
use Rattle.image_spec.specs.Shape.{max_depth}
use Rattle.image_places_spec.specs.Views.{record_of}
use Rattle.image_places_spec.specs.Places.{StmtStands}
use Rattle.image_places_spec.proofs.PlaceLaws.{stmt-parts}
use Rattle.image_directory.specs.Slots.{Ready}
use Rattle.image_directory.specs.declared.Frame.{Frame}
use Rattle.image_read_parts.specs.Indexed.{record_at, At}
use Rattle.image_read_parts.specs.Standing.{head_of}
use Rattle.step_spec.specs.Located.{Machine, Located, records_in, stmt_in}
use Rattle.step_spec.proofs.Standing.{Stands, Placed}
use Rattle.step_spec.proofs.Anywhere.{fits-placed}
use Rattle.step_header.specs.declared.Header.{Header}
use Rattle.step_rule.specs.Rules.{ImageOf, Reads, Stored}
use Rattle.step_rule.proofs.Views.{views, reads_of}

-- the statement has this record
pub data Is : Stmt → Record → Type 0 where
  is_substitute : {ps : List (ContextBinding × Identifier)} (next : Stmt) → Is (Substitute ps next) (substitute ps)
  is_call : {label : Identifier} {args : Context} → Is (Call label args) (call label args)
  is_let : {var : Identifier} {ty : Ty} {tag : Identifier} {args : Context} (next : Stmt) → Is (Let var ty tag args next) (let' var ty tag args)
  is_switch : {var : Identifier} {ty : Ty} (cs : Clauses) → Is (Switch var ty cs) (switch var ty (count_clauses cs))
  is_create_lem : {var : Identifier} {ty : Ty} {env : Option Context} (cs : Clauses) (next : Stmt) → Is (Create var ty env cs next) (create var ty env (count_clauses cs))
  is_invoke : {var tag : Identifier} {ty : Ty} {args : Context} → Is (Invoke var tag ty args) (invoke var tag ty args)
  is_literal : {lit : ℤ} {var : Identifier} (next : Stmt) → Is (Literal lit var next) (literal lit var)
  is_op : {fst : Identifier} {o : BinOp} {snd var : Identifier} (next : Stmt) → Is (Op fst o snd var next) (op fst o snd var)
  is_ifc : {sort : IfSort} {fst : Identifier} {snd : Option Identifier} (thenc elsec : Stmt) → Is (IfC sort fst snd thenc elsec) (ifc sort fst snd)
  is_print : {newline : Bool} {var : Identifier} (next : Stmt) → Is (PrintI64 newline var next) (print newline var)
  is_exit : {var : Identifier} → Is (Exit var) (exit var)

own : (t : Stmt) → Is t (record_of t)
own (Substitute ps next) = is_substitute next
own (Call label args) = is_call
own (Let var ty tag args next) = is_let next
own (Switch var ty cs) = is_switch cs
own (Create var ty env cs next) = is_create_lem cs next
own (Invoke var tag ty args) = is_invoke
own (Literal lit var next) = is_literal next
own (Op fst o snd var next) = is_op next
own (IfC sort fst snd thenc elsec) = is_ifc thenc elsec
own (PrintI64 newline var next) = is_print next
own (Exit var) = is_exit

-- the record at a header's position says which statement stands there
module _ {P : Prog} {frame : Frame} {definitions : ℕ} {bytes store : List ℕ} {h : Header} {l : Located} (p : ImageOf P frame definitions bytes) where
  pub placed_at : Reads P store h l → Placed P l
  placed_at o = fits-placed P p.shallow l (views o).fits

  pub stands_at : (o : Reads P store h l) (r : Record) → record_at frame bytes h.position ≡ r → Is (stmt_in P l.position) r
  stands_at o r e =
      let f : record_at frame bytes h.position ≡ head_of (drop l.position (records_in P)) =
      ap₂ {C = Record} (λ (i : ℕ) (rs : List Record). head_of (drop i rs)) (views o).position p.records in
      let g : record_of (stmt_in P l.position) ≡ r = sym (ap head_of (stmt-parts (placed_at o).here).head) ∙ (sym f ∙ e) in
      subst (Is (stmt_in P l.position)) g (own (stmt_in P l.position))

  pub placed : {M : Machine} → Stored M P store h l → Placed P l
  placed o = placed_at (reads_of o)

  pub here : {M : Machine} (o : Stored M P store h l) (r : Record) → record_at frame bytes h.position ≡ r → Is (stmt_in P l.position) r
  here o r e = stands_at (reads_of o) r e

-- a place behind a record has four bytes
pub next_small : {frame : Frame} {bytes : List ℕ} {i k : ℕ} → Ready frame bytes → At frame bytes i k → i + 1 < 2 ^ 32
next_small ready a = omega (arith, a.inside, ready.few)
