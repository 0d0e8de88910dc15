-- Create: the statement by its record, the place of its body, and what its step writes, of either machine. Assumes nothing.
use Prim.Native.Nat.{ℕ, ◌+◌}
use mathlib.Core.Path.{◌≡◌, refl, sym, ap, ap₂, ◌∙◌, subst}
use mathlib.Core.List.{List, [], ◌∷◌, ◌++◌, map, append-nil}
use mathlib.Core.Option.{Option}
use native.Mathlib.Omega.{arith}
use lib.ListN.{length}
use Rattle.std.specs.Prelude.{Result}
use Rattle.syntax.specs.Context.{Context}
use Rattle.syntax.specs.declared.names.Identifier.{Identifier}
use Rattle.syntax.specs.declared.types.Ty.{Ty}
use Rattle.model.specs.Syntax.{Stmt, Create, Clauses, Prog}
use Rattle.model.specs.Sizes.{count_clauses}
use Rattle.model.specs.Machine.{Entries, closure, Cells, at, shows, Create'}
use Rattle.image_spec.specs.Parse.{All}
use Rattle.image_spec.specs.Records.{Record, create}
use Rattle.image_spec.specs.Kinds.{kind_of, clauses_of}
use Rattle.image_places_spec.specs.Views.{record_of}
use Rattle.image_directory.specs.Slots as image
use Rattle.image_directory.specs.declared.Frame.{Frame}
use Rattle.image_read_nodes.specs.declared.Follows.{Follows}
use Rattle.image_read_nodes.specs.Nodes.{first_of, Followed}
use Rattle.image_read_parts.specs.Indexed.{record_at, At}
use Rattle.step_slots.specs.Slots.{Slot, slot}
use Rattle.step_spec.specs.Located.{Machine, made, Located, stmt_in, cell_in, project, bodies_place, next_place_lem}
use Rattle.step_spec.specs.Store.{environment_of, EntryFits}
use Rattle.step_spec.specs.Events.{event_bytes, event_head}
use Rattle.step_header.specs.declared.Header.{Header}
use Rattle.step_places.specs.Ends.{Ends, Hopped}
use Rattle.step_places.proofs.NextPlaces.{bodies-place}
use Rattle.step_write.specs.declared.Step.{Step}
use Rattle.step_write.specs.declared.Stop.{Stop}
use Rattle.step_write.specs.Writing.{Finishes}
use Rattle.step_rule.specs.Rules.{ImageOf, Stored}
use Rattle.step_rule.proofs.Views.{viewed}
use Rattle.step_rule.proofs.Leads.{Leads}
use Rattle.step_rule.proofs.Ways.{entries_stay, lead_made}
use Rattle.step_rule.proofs.Statements.{Is, is_substitute, is_call, is_let, is_switch, is_create_lem, is_invoke, is_literal, is_op, is_ifc, is_print, is_exit, here, placed}
use Rattle.step_last.proofs.NewCells.{cells_count}
use Rattle.step_last.specs.NewCell.{with_cell}
use Rattle.step_statement_create.specs.declared.create.Parts.{Parts}
use Rattle.step_statement_create.specs.Creating.{PartsOf, cell_slot_lem}

-- ── what is read ──

-- what the code has found
pub parts-of : {frame : Frame} {bytes ends : List ℕ} {i position id body next : ℕ} {f : Follows} → i ≡ position → id ≡ (first_of (record_at frame bytes i)).id.0 → Followed frame bytes i f
    → Hopped ends f.clauses (i + 1) body → next ≡ body → PartsOf frame bytes ends position (record { id = id; next = next })
parts-of {frame} {bytes} {ends} {i} {id = id} {next = next} {f} p e g q n =
    let r : Parts = record { id = id; next = next } in
    let h = subst (λ (k : ℕ). Hopped ends k (i + 1) next) g.clauses (subst (Hopped ends f.clauses (i + 1)) (sym n) q) in
    subst (λ (j : ℕ). PartsOf frame bytes ends j r) p (record { id = e; next = h })

-- ── the statement ──

-- it is a Create, and this is its record
pub record Creation (t : Stmt) (r : Record) : Type 0 where
  pub var : Identifier
  pub ty : Ty
  pub environment : Option Context
  pub clauses : Clauses
  pub next : Stmt
  pub is : t ≡ Create var ty environment clauses next
  pub holds : r ≡ create var ty environment (count_clauses clauses)

creation : {t : Stmt} {r : Record} → Is t r → kind_of r ≡ 6 → Creation t r
creation (is_substitute next) k = absurd (omega arith)
creation is_call k = absurd (omega arith)
creation (is_let next) k = absurd (omega arith)
creation (is_switch cs) k = absurd (omega arith)
creation (is_create_lem {var} {ty} {env} cs next) k = record { var = var; ty = ty; environment = env; clauses = cs; next = next; is = refl; holds = refl }
creation is_invoke k = absurd (omega arith)
creation (is_literal next) k = absurd (omega arith)
creation (is_op next) k = absurd (omega arith)
creation (is_ifc thenc elsec) k = absurd (omega arith)
creation (is_print next) k = absurd (omega arith)
creation is_exit k = absurd (omega arith)

module _ {M : Machine} {P : Prog} {frame : Frame} {definitions : ℕ} {bytes store : List ℕ} {h : Header} {l : Located} (p : ImageOf P frame definitions bytes) (o : Stored M P store h l)
    (a : At frame bytes h.position 6) where
  pub created : Creation (stmt_in P l.position) (record_at frame bytes h.position)
  created = creation (here p o (record_at frame bytes h.position) refl) a.kind

  -- its body is where the code hops
  pub body-place : {ends : List ℕ} {r : Parts} → Ends (image.records_in frame bytes) ends → PartsOf frame bytes ends h.position r
      → r.next ≡ bodies_place l.position (stmt_in P l.position)
  body-place {ends} {r} e q =
      let c = created in
      let k = clauses_of (record_at frame bytes h.position) in
      let n : k ≡ clauses_of (record_of (stmt_in P l.position)) = ap clauses_of c.holds ∙ sym (ap (λ (t : Stmt). clauses_of (record_of t)) c.is) in
      let hop : Hopped ends k (l.position + 1) r.next = subst (λ (i : ℕ). Hopped ends k (i + 1) r.next) (viewed o).position q.next in
      bodies-place (subst (λ (rs : List Record). Ends rs ends) p.records e) (placed p o).here n hop

-- ── the step in slots ──

-- what was finished, with what the code computed
pub finishes_as : {store events store' events' shown shown' bytes bytes' : List ℕ} {next next' : Header} {at' from from' : ℕ} {m : Result Step Stop}
    → next ≡ next' → shown ≡ shown' → from ≡ from' → bytes ≡ bytes' → Finishes store events at' next shown from bytes store' events' m → Finishes store events at' next' shown' from' bytes' store' events' m
finishes_as {store} {events} {store'} {events'} {at' = at'} {m = m} a b c d w =
    let Known : Type 0 = Header × (List ℕ × (ℕ × List ℕ)) in
    subst (λ (t : Known). Finishes store events at' t.0 t.1.0 t.1.1.0 t.1.1.1 store' events' m) (λ i. (a i, (b i, (c i, d i)))) w

module _ {M : Machine} {P : Prog} {store : List ℕ} {h : Header} {l : Located} (o : Stored M P store h l) where
  abbrev K : Cells
  K = map (cell_in P) l.cells

  -- a Create whose cell holds these entries
  pub lead_created : (held ε : Entries) (cs : Clauses) (t : Stmt) (n : ℕ) {p j : ℕ} {slots environment : List Slot}
      → M.step P (project P l) ≡ shows (Create' (length K)) (at t ε (K ++ (closure held cs ∷ []))) → p ≡ bodies_place l.position (stmt_in P l.position)
      → All (EntryFits (length l.cells)) held → environment_of l.cells held ≡ slots → j ≡ length slots
      → environment_of (l.cells ++ (made l.position held ∷ [])) ε ≡ environment → n + 1 ≡ length environment
      → Leads M P l store h (event_head 6 1 0 0 h.cells) (with_cell h p j n) (cell_slot_lem h ∷ slots) environment
  unfolding event_bytes next_place_lem environment_of
  lead_created held ε cs t n {p} {j} {slots} {environment} s q f v k w m =
      let new = made l.position held ∷ [] in
      let b : (slot 4 l.position (length l.cells) ∷ environment_of (l.cells ++ new) held) ++ [] ≡ cell_slot_lem h ∷ slots =
      append-nil _
      ∙ ap₂ {C = List Slot} (λ (a : Slot) (z : List Slot). a ∷ z) (ap₂ {C = Slot} (slot 4) (sym (viewed o).position) (sym (viewed o).cells)) (entries_stay l.cells new held f ∙ v) in
      subst (λ (y : List ℕ). Leads M P l store h y (with_cell h p j n) (cell_slot_lem h ∷ slots) environment) (ap (event_head 6 1 0 0) (cells_count o))
      (lead_made o t ε (Create' (length K)) (closure held cs) s q m w b (omega (arith, k)))
