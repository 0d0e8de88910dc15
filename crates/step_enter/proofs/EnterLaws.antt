-- What the functions of this crate read and write. Assumes nothing.
use Prim.Native.Nat.{ℕ, ◌+◌, ◌*◌, ◌≤◌}
use mathlib.Core.Path.{◌≡◌, sym, ap, ap₂, ◌∙◌, subst}
use mathlib.Core.Bool.{true}
use mathlib.Core.List.{List, ◌++◌}
use native.Mathlib.Omega.{arith}
use lib.ListN.{length, take, drop}
use lib.Seq.{sets}
use Rattle.std.specs.Prelude.{Result}
use Rattle.syntax.specs.declared.names.VarId.{VarId}
use Rattle.image_spec.specs.Parse.{each}
use Rattle.image_write_parts.specs.Puts.{Puts}
use Rattle.step_slots.specs.Slots.{Slot, slot_bytes}
use Rattle.step_slots.specs.Views.{slots_at, all_slots}
use Rattle.step_slots.proofs.SlotBytes.{slots-taken, slots-count, slots_length}
use Rattle.step_header.specs.declared.Header.{Header}
use Rattle.step_gather.specs.Gathering.{renamed}
use Rattle.step_gather.proofs.GatheredSlots.{slots-put, slots-ok}
use Rattle.step_gather.proofs.Renaming.{renamed-length}
use Rattle.step_write.specs.declared.Step.{Step}
use Rattle.step_write.specs.declared.Stop.{Stop}
use Rattle.step_write.specs.Writing.{Finishes}
use Rattle.step_write.proofs.Regions.{taken-put}
use Rattle.step_enter.specs.Entering.{entered, Enters}

-- slots that were copied
pub fetched : (store : List ℕ) (from n : ℕ) {scratch scratch' : List ℕ} {r : ℕ} → all_slots (slots_at store from n) ≡ true → 16 * n ≤ length scratch
    → Puts scratch scratch' 0 r (take (16 * n) (drop from store)) → slots_at scratch' 0 n ≡ slots_at store from n
fetched store from n {scratch} {scratch'} o room p =
    let ts = slots_at store from n in
    let c = slots-count store from n in
    ap₂ {C = List Slot} (λ (b : List ℕ) (i : ℕ). slots_at b 0 i) (p.holds ∙ ap (sets scratch 0) (slots-taken store from n c o)) (sym c)
    ∙ slots-put scratch 0 ts (slots-ok store from n o) (omega (arith, room, c))

-- what was finished, with what the code computed
pub enters_as : (xs : List VarId) (scratch : List ℕ) {store events store' events' scratch' shown : List ℕ} {h : Header} {at body heap front back k n : ℕ} {m : Result Step Stop}
    → heap ≡ h.heap → length xs ≡ n → 16 * n ≤ length scratch → scratch' ≡ sets scratch 0 (each slot_bytes (renamed xs (slots_at scratch 0 n))) → k ≡ front + n + back
    → Finishes store events at (entered h body k) shown (64 + 16 * (heap + front)) (take (16 * n) scratch' ++ take (16 * back) (drop (64 + 16 * (heap + front)) store)) store' events' m
    → Enters store events h at body shown front back (renamed xs (slots_at scratch 0 n)) store' events' m
enters_as xs scratch {store} {events} {store'} {events'} {scratch'} {shown} {h} {at} {body} {heap} {front} {back} {k} {n} {m} p c room w q f =
    let ts = renamed xs (slots_at scratch 0 n) in
    let count : length ts ≡ n = renamed-length xs (slots_at scratch 0 n) (c ∙ sym (slots-count scratch 0 n)) ∙ c in
    let total : k ≡ front + length ts + back = q ∙ ap (λ (i : ℕ). front + i + back) (sym count) in
    let written : take (16 * n) scratch' ≡ each slot_bytes ts =
    ap (take (16 * n)) w ∙ taken-put scratch (each slot_bytes ts) (16 * n) (slots_length ts ∙ ap (λ (i : ℕ). 16 * i) count) room in
    let F : ℕ → ℕ → List ℕ → Type 0 =
    λ (i j : ℕ) (x : List ℕ). Finishes store events at (entered h body i) shown (64 + 16 * (j + front)) (x ++ take (16 * back) (drop (64 + 16 * (j + front)) store)) store' events' m in
    record { finishes = subst (λ (i : ℕ). F i h.heap (each slot_bytes ts)) total (subst (λ (j : ℕ). F k j (each slot_bytes ts)) p (subst (F k heap) written f)) }
