-- An event takes 16 bytes, and 16 for each argument value shown; and its bytes tell which it is. Assumes nothing.
use Prim.Native.Nat.{ℕ, ◌+◌, ◌*◌, ◌^◌, ◌≤◌, ◌<◌}
use mathlib.Core.Path.{◌≡◌, refl, ap, ap₂, ◌∙◌}
use mathlib.Core.Bool.{Bool}
use mathlib.Core.List.{List, [], ◌∷◌, ◌++◌, map, append_assoc}
use native.Mathlib.Omega.{arith}
use lib.ListN.{length, length-append, length-map, get_or}
use lib.IntN.{ℤ}
use mir.Syntax.{w64}
use mir.Val.{SFits, of_z}
use mir.ValLaws.{to_z-of_z, of_z_fits}
use Rattle.model.specs.Machine.{Value, int, cell, outside, Event, Literal', Op', IfC', Let', Create', Switch', Invoke', Call', Outside', PrintI64', Exit'}
use Rattle.image_spec.specs.Parse.{Parsed, got, and_then, times, each, All}
use Rattle.image_spec.proofs.ParseLaws.{Exact, both_exact, code_exact, number_exact, times_exact}
use Rattle.step_slots.specs.Slots.{Slot, slot_bytes, SlotOk, slot_parser}
use Rattle.step_spec.specs.Store.{bit, ValueFits}
use Rattle.step_spec.specs.Events.{event_head, shown_slot, event_bytes, args_of, ShownFits, EventFits, shown_in, events_by_kind, EventHead, event_head_parser, event_parser}
use Rattle.step_spec.proofs.Lists.{all_map, all_weaker, bit-back, bit-small}
use Rattle.step_slots.proofs.SlotLaws.{slot_exact}
use Rattle.step_slots.proofs.SlotBytes.{slots_length}
use Rattle.step_spec.proofs.Representable.{EventHolds}

-- ── size ──

head-length : (k d f n p : ℕ) → length (event_head k d f n p) ≡ 16
head-length k d f n p = refl

-- document 02, A.2: an event takes 16 bytes, and 16 for each argument value shown
pub event-size : (e : Event) → length (event_bytes e) ≡ 16 + 16 * length (args_of e)
unfolding event_bytes
event-size (Literal' z) = head-length 8 0 0 0 (of_z w64 z)
event-size (Op' z) = head-length 9 0 0 0 (of_z w64 z)
event-size (IfC' b) = head-length 10 (bit b) 0 0 0
event-size (Let' k tag) = head-length 4 1 tag.0 0 k
event-size (Create' k) = head-length 6 1 0 0 k
event-size (Switch' k tag) = head-length 5 1 tag.0 0 k
event-size (Invoke' k tag) = head-length 7 1 tag.0 0 k
event-size (Call' f) = head-length 3 0 f.0 0 0
event-size (Outside' n tag args) =
    length-append (event_head 7 2 tag.0 (length args) n) (each slot_bytes (map shown_slot args))
    ∙ omega (arith, head-length 7 2 tag.0 (length args) n, slots_length (map shown_slot args), length-map args shown_slot)
event-size (PrintI64' newline z) = head-length 12 (bit newline) 0 0 (of_z w64 z)
event-size (Exit' v) = head-length 13 (shown_slot v).sort 0 0 (shown_slot v).payload

-- ── reading ──

abbrev HeadOk : EventHead → Type 0
HeadOk h = (h.0 ≤ 255) × ((h.1.0 ≤ 255) × ((h.1.1.0 < 256 ^ 2) × ((h.1.1.1.0 < 256 ^ 4) × (h.1.1.1.1 < 256 ^ 8))))

abbrev head_bytes : EventHead → List ℕ
head_bytes h = event_head h.0 h.1.0 h.1.1.0 h.1.1.1.0 h.1.1.1.1

head_exact : Exact head_bytes HeadOk event_head_parser
head_exact = both_exact (code_exact 255) (both_exact (code_exact 255) (both_exact (number_exact 2) (both_exact (number_exact 4) (number_exact 8))))

-- a head with this many values behind it
reads : (h : EventHead) (args : List Slot) (l : List ℕ) → HeadOk h → length args ≡ h.1.1.1.0 → All SlotOk args
    → event_parser (head_bytes h ++ (each slot_bytes args ++ l)) ≡ got (get_or (events_by_kind h.1.0 h.1.1.0 h.1.1.1.1 args) h.0 (Create' 0)) l
unfolding event_parser
reads h args l o n a =
    ap (λ (z : Parsed ℕ EventHead). and_then z λ h m. and_then (times h.1.1.1.0 slot_parser m) λ args r. got (get_or (events_by_kind h.1.0 h.1.1.0 h.1.1.1.1 args) h.0 (Create' 0)) r)
    (head_exact.left h o (each slot_bytes args ++ l))
    ∙ ap (λ (z : Parsed ℕ (List Slot)). and_then z λ args r. got (get_or (events_by_kind h.1.0 h.1.1.0 h.1.1.1.1 args) h.0 (Create' 0)) r)
    ((times_exact slot_exact h.1.1.1.0).left args (n, a) l)

bits : (z : ℤ) → SFits w64 z → of_z w64 z < 256 ^ 8
bits z h = (of_z_fits w64 z h).fits

shown-fits : (v : Value) → ShownFits v → SlotOk (shown_slot v)
shown-fits (int z) h = (omega arith, (tt, (omega arith, bits z h)))
shown-fits (cell k) h = (omega arith, (tt, (omega arith, h)))
shown-fits (outside n) h = (omega arith, (tt, (omega arith, h)))

shown-value : (v : Value) → ShownFits v → shown_in (shown_slot v).sort (shown_slot v).payload ≡ v
shown-value (int z) h = ap int (to_z-of_z w64 z h)
shown-value (cell k) h = refl
shown-value (outside n) h = refl

shown-back : (vs : List Value) → All ShownFits vs → map (λ (s : Slot). shown_in s.sort s.payload) (map shown_slot vs) ≡ vs
shown-back [] h = refl
shown-back (v ∷ vs) h = ap₂ {C = List Value} (λ (a : Value) (b : List Value). a ∷ b) (shown-value v h.0) (shown-back vs h.1)

-- an event is read from its bytes
pub event-read : (e : Event) → EventFits e → (l : List ℕ) → event_parser (event_bytes e ++ l) ≡ got e l
unfolding event_bytes
event-read (Literal' z) h l = reads (8, (0, (0, (0, of_z w64 z)))) [] l (omega arith, (omega arith, (omega arith, (omega arith, bits z h)))) refl tt
    ∙ ap (λ (y : ℤ). got (Literal' y) l) (to_z-of_z w64 z h)
event-read (Op' z) h l = reads (9, (0, (0, (0, of_z w64 z)))) [] l (omega arith, (omega arith, (omega arith, (omega arith, bits z h)))) refl tt ∙ ap (λ (y : ℤ). got (Op' y) l) (to_z-of_z w64 z h)
event-read (IfC' b) h l = reads (10, (bit b, (0, (0, 0)))) [] l
    (omega arith, (omega (arith, bit-small b), (omega arith, (omega arith, omega arith)))) refl tt ∙ ap (λ (y : Bool). got (IfC' y) l) (bit-back b)
event-read (Let' k tag) h l = reads (4, (1, (tag.0, (0, k)))) [] l (omega arith, (omega arith, (h.0, (omega arith, h.1)))) refl tt
event-read (Create' k) h l = reads (6, (1, (0, (0, k)))) [] l (omega arith, (omega arith, (omega arith, (omega arith, h)))) refl tt
event-read (Switch' k tag) h l = reads (5, (1, (tag.0, (0, k)))) [] l (omega arith, (omega arith, (h.0, (omega arith, h.1)))) refl tt
event-read (Invoke' k tag) h l = reads (7, (1, (tag.0, (0, k)))) [] l (omega arith, (omega arith, (h.0, (omega arith, h.1)))) refl tt
event-read (Call' f) h l = reads (3, (0, (f.0, (0, 0)))) [] l (omega arith, (omega arith, (h, (omega arith, omega arith)))) refl tt
event-read (Outside' n tag args) h l =
    ap event_parser (append_assoc (event_head 7 2 tag.0 (length args) n) (each slot_bytes (map shown_slot args)) l)
    ∙ (reads (7, (2, (tag.0, (length args, n)))) (map shown_slot args) l (omega arith, (omega arith, (h.0, (h.2, h.1)))) (length-map args shown_slot)
    (all_map ShownFits SlotOk shown_slot args shown-fits h.3)
    ∙ ap (λ (vs : List Value). got (Outside' n tag vs) l) (shown-back args h.3))
event-read (PrintI64' newline z) h l =
    reads (12, (bit newline, (0, (0, of_z w64 z)))) [] l (omega arith, (omega (arith, bit-small newline), (omega arith, (omega arith, bits z h)))) refl tt
    ∙ ap₂ {C = Parsed ℕ Event} (λ (b : Bool) (y : ℤ). got (PrintI64' b y) l) (bit-back newline) (to_z-of_z w64 z h)
event-read (Exit' v) h l =
    let f = shown-fits v h in
    reads (13, ((shown_slot v).sort, (0, (0, (shown_slot v).payload)))) [] l (omega arith, (omega (arith, f.0), (omega arith, (omega arith, f.1.1.1)))) refl tt
    ∙ ap (λ (u : Value). got (Exit' u) l) (shown-value v h)

-- a row of events is read from their bytes: nothing is lost where they follow one another
pub events-read : (es : List Event) → All EventFits es → (l : List ℕ) → times (length es) event_parser (each event_bytes es ++ l) ≡ got es l
events-read [] h l = refl
events-read (e ∷ es) h l = rw (append_assoc (event_bytes e) (each event_bytes es) l, event-read e h.0 (each event_bytes es ++ l), events-read es h.1 l) refl

-- ── the events of a run ──

shown-holds : (n : ℕ) → n < 256 ^ 8 → (v : Value) → ValueFits n v → ShownFits v
shown-holds n o (int z) h = h
shown-holds n o (cell k) h = omega arith
shown-holds n o (outside m) h = omega arith

pub event-fits : (n : ℕ) → n < 256 ^ 8 → (e : Event) → EventHolds n e → length (args_of e) < 256 ^ 4 → EventFits e
event-fits n o (Literal' z) h k = h
event-fits n o (Op' z) h k = h
event-fits n o (IfC' b) h k = tt
event-fits n o (Let' i tag) h k = (h.0, omega (arith, h.1))
event-fits n o (Create' i) h k = omega (arith, h)
event-fits n o (Switch' i tag) h k = (h.0, omega (arith, h.1))
event-fits n o (Invoke' i tag) h k = (h.0, omega (arith, h.1))
event-fits n o (Call' f) h k = h
event-fits n o (Outside' m tag args) h k = (h.0, omega (arith, h.1), k, all_weaker (ValueFits n) ShownFits args (shown-holds n o) h.2)
event-fits n o (PrintI64' newline z) h k = h
event-fits n o (Exit' v) h k = shown-holds n o v h
