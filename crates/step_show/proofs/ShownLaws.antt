-- An event with argument values behind it, and then the header: what is finished. Assumes nothing.
use Prim.Native.Nat.{ℕ, ◌+◌, ◌-◌, ◌*◌}
use mathlib.Core.Path.{◌≡◌, sym, ap, ◌∙◌, subst}
use mathlib.Core.Bool.{Bool, true, false, ◌&&◌}
use mathlib.Core.List.{List, [], map}
use native.Mathlib.Omega.{arith}
use lib.Dec.{leb}
use lib.ListN.{length, length-append, length-map}
use lib.Seq.{sets}
use Rattle.std.specs.Prelude.{Result, Ok, Err}
use Rattle.image_spec.specs.Parse.{each}
use Rattle.image_write_parts.specs.Puts.{Puts}
use Rattle.image_write_parts.proofs.Putting.{puts_then}
use Rattle.step_slots.specs.Slots.{Slot, slot_bytes}
use Rattle.step_slots.specs.Views.{slots_at}
use Rattle.step_slots.proofs.SlotBytes.{slots_length, slots-count}
use Rattle.step_spec.specs.Store.{header_bytes}
use Rattle.step_header.specs.declared.Header.{Header}
use Rattle.step_header.specs.Headers.{tuple_of, heap_in}
use Rattle.step_gather.specs.Gathering.{shown_as}
use Rattle.step_write.specs.declared.EventHead.{EventHead}
use Rattle.step_write.specs.declared.Step.{Step}
use Rattle.step_write.specs.declared.Stop.{Stop}
use Rattle.step_write.specs.declared.Stop.TheVariants.{NoRoom}
use Rattle.step_write.specs.Writing.{head_bytes, size, room_for, Finishes, finished, finished-full}
use Rattle.step_show.specs.Showing.{shown_with}

-- how long it is
shown-length : (e : EventHead) (H ts : List Slot) (n : ℕ) → length ts ≡ n → length (shown_with e H ts) ≡ 16 + 16 * n
shown-length e H ts n k =
    let T = each slot_bytes (map (shown_as H) ts) in
    length-append (head_bytes e) T ∙ omega (arith, slots_length (map (shown_as H) ts), length-map ts (shown_as H), k)

-- where room was asked for the event of these n slots, behind which nothing is written but the header
module _ (store events : List ℕ) (at : ℕ) (e : EventHead) (header : Header) (slots : List ℕ) (from n : ℕ) (r : Bool)
    (room : r ≡ leb (size header) (length store) && leb (16 + 16 * n) (length events - at)) where
  abbrev shown : List ℕ
  shown = shown_with e (heap_in store header) (slots_at slots from n)

  asked : room_for store events at header shown ≡ r
  asked = ap (λ (m : ℕ). leb (size header) (length store) && leb m (length events - at)) (shown-length e (heap_in store header) (slots_at slots from n) n (slots-count slots from n)) ∙ sym room

  pub showing_full : r ≡ false → Finishes store events at header (shown_with e (heap_in store header) (slots_at slots from n)) 64 [] store events (Err NoRoom)
  showing_full f = finished-full (asked ∙ f)

  pub showing_finishes : {events₁ events' store' : List ℕ} {heap values next : ℕ} → r ≡ true → heap ≡ header.heap → Puts events events₁ at values (head_bytes e)
      → Puts events₁ events' values next (each slot_bytes (map (shown_as (slots_at store 64 heap)) (slots_at slots from n))) → store' ≡ sets store 0 (header_bytes (tuple_of header))
      → Finishes store events at header (shown_with e (heap_in store header) (slots_at slots from n)) 64 [] store' events' (Ok record { header = header; at = next })
  showing_finishes {events₁} {events'} {heap = heap} {values} {next} f h p q w =
      let F : ℕ → Type 0 = λ (j : ℕ). Puts events₁ events' values next (each slot_bytes (map (shown_as (slots_at store 64 j)) (slots_at slots from n))) in
      let all = puts_then {xs = head_bytes e} p (subst F h q) in
      let sealed : ℕ → Step = λ (i : ℕ). record { header = header; at = i } in
      finished (asked ∙ f) record { headed = w; shows = all.holds; made = ap sealed all.ends }

-- nothing is written from anywhere on
pub shown_anywhere : {store events store' events' : List ℕ} {at : ℕ} {header : Header} {shown : List ℕ} {m : Result Step Stop} (to : ℕ) {from : ℕ} → Finishes store events at header shown from [] store' events' m
    → Finishes store events at header shown to [] store' events' m
shown_anywhere to (finished-full r) = finished-full r
shown_anywhere to (finished r s) = finished r s
