-- An integer under a new variable: the step of either machine that adds it. Assumes nothing.
use Rattle.std.specs.Prelude.{Result}
use Prim.Native.Nat.{ℕ, ◌+◌, ◌-◌, ◌*◌, ◌≤◌}
use mathlib.Core.Path.{◌≡◌, refl, sym, ap, ap₂, ◌∙◌, subst}
use mathlib.Core.List.{List, [], ◌∷◌, ◌++◌, map, map-append}
use mathlib.Core.Option.{some}
use native.Mathlib.Omega.{arith}
use lib.IntN.{ℤ}
use lib.ListN.{length, take, drop, length-append}
use lib.Seq.{take-length}
use mir.Syntax.{w64}
use mir.Val.{of_z}
use Rattle.syntax.specs.declared.names.VarId.{VarId}
use Rattle.model.specs.Syntax.{Stmt, Prog}
use Rattle.model.specs.Machine.{int, Entries, at, Event, shows}
use Rattle.image_spec.specs.Parse.{each}
use Rattle.step_slots.specs.Slots.{Slot, slot, slot_bytes}
use Rattle.step_slots.proofs.SlotBytes.{slots-taken, slots-count}
use Rattle.step_spec.specs.declared.MachineKind.{MachineKind}
use Rattle.step_spec.specs.declared.MachineKind.TheVariants.{Source, Linear}
use Rattle.step_spec.specs.Located.{Machine, Kept, Located, cell_in, project, next_place_lem, located_step}
use Rattle.step_spec.specs.Store.{place_of, entry_slot, environment_of}
use Rattle.step_spec.specs.Events.{event_bytes, event_head}
use Rattle.step_spec.proofs.Lists.{each-++}
use Rattle.step_header.specs.declared.Header.{Header}
use Rattle.step_header.specs.Headers.{entries_in}
use Rattle.step_write.specs.declared.Step.{Step}
use Rattle.step_write.specs.declared.Stop.{Stop}
use Rattle.step_write.specs.Writing.{Finishes}
use Rattle.step_rule.specs.Rules.{machine_for, Stored, resting, Makes}
use Rattle.step_rule.proofs.Views.{viewed}
use Rattle.step_rule.proofs.Leads.{leads-makes}
use Rattle.step_rule.proofs.Ways.{lead_same}
use Rattle.step_bind.specs.Binding.{moving_lem, bound, behind, place_for, Binds}

pub fewer : (b : MachineKind) (n : ℕ) → moving_lem b n ≤ n
fewer Linear n = omega arith
fewer Source n = omega arith

-- in front or behind
abbrev pub added : {A : Type 0} → MachineKind → A → List A → List A
added Linear a l = l ++ (a ∷ [])
added Source a l = a ∷ l

added-slots : (b : MachineKind) (K : List Kept) (x : VarId) (z : ℤ) (ε : Entries) → environment_of K (added b (x, int z) ε) ≡ added b (slot 0 x.0 (of_z w64 z)) (environment_of K ε)
unfolding environment_of
added-slots Linear K x z ε = map-append (entry_slot (place_of K)) ε ((x, int z) ∷ [])
added-slots Source K x z ε = refl

added-length : (b : MachineKind) (t : Slot) (E : List Slot) → length (added b t E) ≡ length E + 1
added-length Linear t E = length-append E (t ∷ [])
added-length Source t E = omega arith

-- what was finished, with what the code computed
pub binds_as : {b : MachineKind} {store events store' events' : List ℕ} {h : Header} {at' kind id payload from k : ℕ} {front : List ℕ} {m : Result Step Stop}
    → from ≡ place_for b h → front ≡ slot_bytes (slot 0 id payload) → k ≡ behind b h
    → Finishes store events at' (bound h) (event_head kind 0 0 0 payload) from (front ++ take (16 * k) (drop from store)) store' events' m
    → Binds b store events h at' kind id payload store' events' m
binds_as {b} {store} {events} {store'} {events'} {h} {at'} {kind} {id} {payload} {from} {k} {front} {m} p q r f =
    let F : ℕ → List ℕ → Type 0 = λ (i : ℕ) (x : List ℕ). Finishes store events at' (bound h) (event_head kind 0 0 0 payload) i x store' events' m in
    let g : front ++ take (16 * k) (drop from store) ≡ slot_bytes (slot 0 id payload) ++ take (16 * behind b h) (drop from store) =
    ap₂ {C = List ℕ} (λ (x : List ℕ) (j : ℕ). x ++ take (16 * j) (drop from store)) q r in
    record { finishes = subst (λ (i : ℕ). F i (slot_bytes (slot 0 id payload) ++ take (16 * behind b h) (drop i store))) p (subst (F from) g f) }

module _ (b : MachineKind) {P : Prog} {store : List ℕ} {h : Header} {l : Located} (o : Stored (machine_for b) P store h l) where
  abbrev M : Machine
  M = machine_for b

  -- the environment, part by part
  parts : (c : MachineKind) (t : Slot) → each slot_bytes (added c t (entries_in store h))
      ≡ each slot_bytes (take (h.entries - behind c h) (entries_in store h)) ++ (slot_bytes t ++ take (16 * behind c h) (drop (place_for c h) store))
  parts Linear t =
      let E = entries_in store h in
      let n : h.entries - 0 ≡ length E = omega (arith, slots-count store (64 + 16 * h.heap) h.entries) in
      let q : take (h.entries - 0) E ≡ E = ap (λ (n : ℕ). take n E) n ∙ take-length E in
      each-++ slot_bytes E (t ∷ []) ∙ ap₂ {C = List ℕ} (λ (x : List Slot) (y : List ℕ). each slot_bytes x ++ (slot_bytes t ++ y)) (sym q) refl
  parts Source t =
      let E = entries_in store h in
      let d : 0 ≡ h.entries - h.entries = omega arith in
      let k : 64 + 16 * h.heap ≡ 64 + 16 * (h.heap + 0) = omega arith in
      ap (λ (x : List ℕ). slot_bytes t ++ x) (sym (slots-taken store (64 + 16 * h.heap) h.entries (slots-count store (64 + 16 * h.heap) h.entries) (viewed o).entries_slots))
      ∙ (ap (λ (i : ℕ). slot_bytes t ++ take (16 * h.entries) (drop i store)) k
      ∙ ap (λ (z : ℕ). each slot_bytes (take z E) ++ (slot_bytes t ++ take (16 * h.entries) (drop (64 + 16 * (h.heap + z)) store))) d)

  pub binds-makes : (e : Event) (next : Stmt) (x : VarId) (z : ℤ) {events store' events' : List ℕ} {at' kind payload : ℕ} {m : Result Step Stop}
      → M.step P (project P l) ≡ shows e (at next (added b (x, int z) l.environment) (map (cell_in P) l.cells)) → h.position + 1 ≡ next_place_lem P l (some e) → payload ≡ of_z w64 z
      → event_bytes e ≡ event_head kind 0 0 0 (of_z w64 z) → Binds b store events h at' kind x.0 payload store' events' m
      → Makes store events at' (resting (located_step M P l)) store' events' m
  binds-makes e next x z {events} {store'} {events'} {at'} {kind} {payload} {m} s p q v w =
      let t = slot 0 x.0 payload in
      let E = entries_in store h in
      let g : environment_of l.cells (added b (x, int z) l.environment) ≡ added b t E =
      added-slots b l.cells x z l.environment ∙ ap₂ {C = List Slot} (λ (n : ℕ) (y : List Slot). added b (slot 0 x.0 n) y) (sym q) (sym (viewed o).entries) in
      let k : h.entries + 1 ≡ length (added b t E) = omega (arith, added-length b t E, slots-count store (64 + 16 * h.heap) h.entries) in
      let shown : event_head kind 0 0 0 payload ≡ event_bytes e = ap (event_head kind 0 0 0) q ∙ sym v in
      leads-makes o (lead_same o next (added b (x, int z) l.environment) e s p k g) events at' (h.entries - behind b h) (omega (arith, fewer b h.entries))
      {from = place_for b h} {written = slot_bytes t ++ take (16 * behind b h) (drop (place_for b h) store)} refl (parts b t)
      (subst (λ (y : List ℕ). Finishes store events at' (bound h) y (place_for b h) (slot_bytes t ++ take (16 * behind b h) (drop (place_for b h) store)) store' events' m) shown w.finishes)
