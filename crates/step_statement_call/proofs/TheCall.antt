-- The statement at a header's position is a Call, by its record; and what the search for its definition finds. Assumes nothing.
use Prim.Native.Nat.{ℕ}
use mathlib.Core.Path.{◌≡◌, refl, ap, ◌∙◌, subst}
use mathlib.Core.List.{List}
use native.Mathlib.Omega.{arith}
use Rattle.std.specs.Prelude.{Option as Maybe}
use Rattle.syntax.specs.Context.{Context}
use Rattle.syntax.specs.declared.names.Name.{Name}
use Rattle.syntax.specs.declared.names.Identifier.{Identifier}
use Rattle.model.specs.Syntax.{Stmt, Call, Prog}
use Rattle.model.specs.Machine.{find_def}
use Rattle.image_spec.specs.Records.{Record, call}
use Rattle.image_spec.specs.Kinds.{kind_of}
use Rattle.image_spec.specs.Shape.{max_depth}
use Rattle.image_directory.specs.declared.Frame.{Frame}
use Rattle.image_directory.specs.Slots as image
use Rattle.image_read_nodes.specs.Nodes.{first_of}
use Rattle.image_read_parts.specs.Indexed.{record_at, At}
use Rattle.scope_check.proofs.CheckLaws.{stands-flat}
use Rattle.step_spec.specs.Located.{Machine, Located, stmt_in, label_place}
use Rattle.step_header.specs.declared.Header.{Header}
use Rattle.step_places.specs.Searches.{FindsDef, FindsLabel}
use Rattle.step_rule.specs.Rules.{ImageOf, Stored}
use Rattle.step_rule.proofs.Statements.{Is, is_substitute, is_call, is_let, is_switch, is_create_lem, is_invoke, is_literal, is_op, is_ifc, is_print, is_exit, here}

-- it is a Call, and this is its record
pub record Calling (t : Stmt) (r : Record) : Type 0 where
  pub label : Identifier
  pub args : Context
  pub is : t ≡ Call label args
  pub holds : r ≡ call label args

calling : {t : Stmt} {r : Record} → Is t r → kind_of r ≡ 3 → Calling t r
calling (is_substitute next) k = absurd (omega arith)
calling (is_call {label} {args}) k = record { label = label; args = args; is = refl; holds = refl }
calling (is_let next) k = absurd (omega arith)
calling (is_switch cs) k = absurd (omega arith)
calling (is_create_lem cs next) k = absurd (omega arith)
calling is_invoke k = absurd (omega arith)
calling (is_literal next) k = absurd (omega arith)
calling (is_op next) k = absurd (omega arith)
calling (is_ifc thenc elsec) k = absurd (omega arith)
calling (is_print next) k = absurd (omega arith)
calling is_exit k = absurd (omega arith)

-- the label that was read of the record
pub label-read : {t : Stmt} {r : Record} {k : ℕ} (c : Calling t r) → k ≡ (first_of r).name.0 → k ≡ c.label.name.0
label-read c e = e ∙ ap (λ (r : Record). (first_of r).name.0) c.holds

module _ {P : Prog} {frame : Frame} {definitions : ℕ} {bytes : List ℕ} (p : ImageOf P frame definitions bytes) where
  pub the_call : {M : Machine} {store : List ℕ} {h : Header} {l : Located} → Stored M P store h l → At frame bytes h.position 3
      → Calling (stmt_in P l.position) (record_at frame bytes h.position)
  the_call {h = h} o a = calling (here p o (record_at frame bytes h.position) refl) a.kind

  -- the first definition with its label
  pub label-found : {k : ℕ} {label : Name} {found : Maybe ℕ} → k ≡ label.0 → FindsLabel frame bytes definitions k found
      → FindsDef 1 max_depth (image.records_in frame bytes) (label_place label P.defs 0) (find_def label P.defs) found
  label-found {found = found} e f =
      let g = subst (λ (i : ℕ). FindsLabel frame bytes definitions i found) e f in
      g.finds max_depth P.defs (stands-flat p.records p.shallow p.count)
