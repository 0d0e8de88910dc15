-- What is asked of a statement's IDs by its record and by the slots of a store's entries is what the linear machine asks at the state that the store
-- is read as: `orders`. Assumes nothing.
use Prim.Native.Nat.{ℕ}
use mathlib.Core.Path.{◌≡◌, refl, ap, ap₂, ◌∙◌}
use mathlib.Core.Bool.{Bool, ◌&&◌}
use mathlib.Core.List.{List, [], ◌∷◌, ◌++◌, map}
use mathlib.Core.Option.{none, some}
use lib.ListN.{length, length-map}
use Rattle.syntax.specs.Sets.{distinct}
use Rattle.syntax.specs.Context.{Context, id_of, ids}
use Rattle.syntax.specs.declared.names.VarId.{VarId}
use Rattle.model.specs.Syntax.{Stmt, Prog}
use Rattle.model.specs.Machine.{Value, int, cell, outside, Entries, keys}
use Rattle.model.specs.Linear.{before_last, ends_in_lem, in_order_lem}
use Rattle.image_spec.specs.Records.{Record}
use Rattle.image_directory.specs.declared.Frame.{Frame}
use Rattle.image_read_parts.specs.Indexed.{record_at}
use Rattle.step_slots.specs.Slots.{value_slot}
use Rattle.step_spec.specs.Located.{Machine, Located, stmt_in}
use Rattle.step_spec.specs.Store.{place_of, entry_slot, environment_of}
use Rattle.step_header.specs.declared.Header.{Header}
use Rattle.step_header.specs.Headers.{entries_in}
use Rattle.step_rows.specs.Rows.{slot_id}
use Rattle.step_rule.specs.Rules.{ImageOf, Stored}
use Rattle.step_rule.proofs.Views.{Viewed, viewed}
use Rattle.step_rule.proofs.Statements.{Is, is_substitute, is_call, is_let, is_switch, is_create_lem, is_invoke, is_literal, is_op, is_ifc, is_print, is_exit, here}
use Rattle.step_order.specs.Orderly.{replaced, orderly}

-- as many IDs as bindings
replaced_is : (Γ : Context) (l : List VarId) (x : VarId) → replaced (ids Γ) l x ≡ (ends_in_lem (ids Γ) l && distinct (before_last (length Γ) l ++ (x ∷ [])))
replaced_is Γ l x = ap (λ (n : ℕ). ends_in_lem (ids Γ) l && distinct (before_last n l ++ (x ∷ []))) (length-map Γ id_of)

-- a statement by its record
pub order_is : {t : Stmt} {r : Record} → Is t r → (l : List VarId) → orderly r l ≡ in_order_lem t l
unfolding orderly in_order_lem
order_is (is_substitute next) l = refl
order_is is_call l = refl
order_is (is_let {var = var} {args = args} next) l = replaced_is args l var.id
order_is (is_switch cs) l = refl
order_is (is_create_lem {env = none} cs next) l = refl
order_is (is_create_lem {var = var} {env = some Γ} cs next) l = replaced_is Γ l var.id
order_is is_invoke l = refl
order_is (is_literal next) l = refl
order_is (is_op next) l = refl
order_is (is_ifc thenc elsec) l = refl
order_is (is_print next) l = refl
order_is is_exit l = refl

-- the IDs of entries, in slots
slot-id : (of : ℕ → ℕ) (x : VarId) (v : Value) → slot_id (value_slot of x.0 v) ≡ x
slot-id of x (int z) = refl
slot-id of x (cell k) = refl
slot-id of x (outside n) = refl

pub entry-ids : (of : ℕ → ℕ) (ε : Entries) → map slot_id (map (entry_slot of) ε) ≡ keys ε
entry-ids of [] = refl
entry-ids of (e ∷ ε) = ap₂ {C = List VarId} (λ (x : VarId) (l : List VarId). x ∷ l) (slot-id of e.0 e.1) (entry-ids of ε)

pub view-keys : {P : Prog} {store : List ℕ} {h : Header} {l : Located} → Viewed P store h l → map slot_id (entries_in store h) ≡ keys l.environment
unfolding environment_of
view-keys {l = l} v = ap (map slot_id) v.entries ∙ entry-ids (place_of l.cells) l.environment

module _ {M : Machine} {P : Prog} {store : List ℕ} {h : Header} {l : Located} (o : Stored M P store h l) where
  pub entries-keys : map slot_id (entries_in store h) ≡ keys l.environment
  entries-keys = view-keys (viewed o)

  pub orders : {frame : Frame} {definitions : ℕ} {bytes : List ℕ} {b : Bool} → ImageOf P frame definitions bytes
      → b ≡ orderly (record_at frame bytes h.position) (map slot_id (entries_in store h)) → b ≡ in_order_lem (stmt_in P l.position) (keys l.environment)
  orders {frame} {bytes = bytes} p q =
      let r = record_at frame bytes h.position in
      q ∙ (ap (orderly r) entries-keys ∙ order_is (here p o r refl) (keys l.environment))
