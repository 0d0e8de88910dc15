-- Let: the statement by its record, how long its list is, and its step in slots, of either machine. Assumes nothing.
use Prim.Native.Nat.{ℕ, ◌+◌}
use mathlib.Core.Path.{◌≡◌, refl, sym, ap, ap₂, ◌∙◌, subst}
use mathlib.Core.List.{List, [], ◌∷◌, ◌++◌, map, append-nil}
use mathlib.Core.Option.{some}
use native.Mathlib.Omega.{arith}
use lib.ListN.{length}
use Rattle.syntax.specs.Context.{Context}
use Rattle.syntax.specs.declared.names.Identifier.{Identifier}
use Rattle.syntax.specs.declared.types.Ty.{Ty}
use Rattle.model.specs.Syntax.{Stmt, Let, Prog}
use Rattle.model.specs.Machine.{Value, Entries, xtor, Cells, at, shows, Let'}
use Rattle.image_spec.specs.Parse.{All}
use Rattle.image_spec.specs.Records.{Record, let'}
use Rattle.image_spec.specs.Kinds.{kind_of}
use Rattle.image_spec.specs.Shape.{flatten_clauses}
use Rattle.image_directory.specs.declared.Frame.{Frame}
use Rattle.image_read_parts.specs.Indexed.{record_at, At}
use Rattle.step_slots.specs.Slots.{Slot, slot, value_slot}
use Rattle.step_spec.specs.Located.{Machine, held, Located, stmt_in, cell_in, project, next_place_lem}
use Rattle.step_spec.specs.Store.{place_of, environment_of, ValueFits}
use Rattle.step_spec.specs.Events.{event_bytes, event_head}
use Rattle.step_header.specs.declared.Header.{Header}
use Rattle.step_rule.specs.Rules.{ImageOf, Stored}
use Rattle.step_rule.proofs.Views.{viewed}
use Rattle.step_rule.proofs.Leads.{Leads}
use Rattle.step_rule.proofs.Ways.{fields_stay, lead_made}
use Rattle.step_rule.proofs.Statements.{Is, is_substitute, is_call, is_let, is_switch, is_create_lem, is_invoke, is_literal, is_op, is_ifc, is_print, is_exit, here}
use Rattle.step_last.proofs.NewCells.{cells_count}
use Rattle.step_statement_let.specs.Letting.{kept, cell_slot_lem}

-- ── the statement ──

-- it is a Let, and this is its record
pub record Letting (t : Stmt) (r : Record) : Type 0 where
  pub var : Identifier
  pub ty : Ty
  pub tag : Identifier
  pub args : Context
  pub next : Stmt
  pub is : t ≡ Let var ty tag args next
  pub holds : r ≡ let' var ty tag args

letting : {t : Stmt} {r : Record} → Is t r → kind_of r ≡ 4 → Letting t r
letting (is_substitute next) k = absurd (omega arith)
letting is_call k = absurd (omega arith)
letting (is_let {var} {ty} {tag} {args} next) k = record { var = var; ty = ty; tag = tag; args = args; next = next; is = refl; holds = refl }
letting (is_switch cs) k = absurd (omega arith)
letting (is_create_lem cs next) k = absurd (omega arith)
letting is_invoke k = absurd (omega arith)
letting (is_literal next) k = absurd (omega arith)
letting (is_op next) k = absurd (omega arith)
letting (is_ifc thenc elsec) k = absurd (omega arith)
letting (is_print next) k = absurd (omega arith)
letting is_exit k = absurd (omega arith)

pub let_here : {M : Machine} {P : Prog} {frame : Frame} {definitions : ℕ} {bytes store : List ℕ} {h : Header} {l : Located} → ImageOf P frame definitions bytes → Stored M P store h l
    → At frame bytes h.position 4 → Letting (stmt_in P l.position) (record_at frame bytes h.position)
let_here {frame = frame} {bytes = bytes} {h = h} p o a = letting (here p o (record_at frame bytes h.position) refl) a.kind

-- ── the step in slots ──

module _ {M : Machine} {P : Prog} {store : List ℕ} {h : Header} {l : Located} (o : Stored M P store h l) where
  abbrev K : Cells
  K = map (cell_in P) l.cells

  -- a Let whose cell holds these values
  pub lead_let : (vs : List Value) (ε : Entries) (v : Identifier) (ty : Ty) (tag : Identifier) (Γ : Context) (t : Stmt) (n : ℕ) {j : ℕ} {slots environment : List Slot}
      → stmt_in P l.position ≡ Let v ty tag Γ t → M.step P (project P l) ≡ shows (Let' (length K) tag.name) (at t ε (K ++ (xtor tag.name vs ∷ [])))
      → All (ValueFits (length l.cells)) vs → map (value_slot (place_of l.cells) 0) vs ≡ slots → j ≡ length slots
      → environment_of (l.cells ++ (held tag.name vs ∷ [])) ε ≡ environment → n + 1 ≡ length environment
      → Leads M P l store h (event_head 4 1 tag.name.0 0 h.cells) (kept h j n) (cell_slot_lem h tag.name.0 ∷ slots) environment
  unfolding event_bytes next_place_lem flatten_clauses
  lead_let vs ε v ty tag Γ t n {j} {slots} {environment} e s f q k w m =
      let new = held tag.name vs ∷ [] in
      let p : h.position + 1 ≡ next_place_lem P l (some (Let' (length K) tag.name)) = rw e (omega (arith, (viewed o).position)) in
      let b : (slot 3 tag.name.0 (length l.cells) ∷ map (value_slot (place_of (l.cells ++ new)) 0) vs) ++ [] ≡ cell_slot_lem h tag.name.0 ∷ slots =
      append-nil _ ∙ ap₂ {C = List Slot} (λ (a : Slot) (z : List Slot). a ∷ z) (ap (slot 3 tag.name.0) (sym (viewed o).cells)) (fields_stay l.cells new vs f ∙ q) in
      subst (λ (y : List ℕ). Leads M P l store h y (kept h j n) (cell_slot_lem h tag.name.0 ∷ slots) environment) (ap (event_head 4 1 tag.name.0 0) (cells_count o))
      (lead_made o t ε (Let' (length K) tag.name) (xtor tag.name vs) s p m w b (omega (arith, k)))
