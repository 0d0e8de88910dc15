-- What stands at a place of the array, and of the lists that the rules make of a context at work: the bindings and their IDs, binders, moved and
-- respelled entries; and their lengths. Assumes nothing.
use mathlib.Core.Path.{◌≡◌, refl, sym, ap, ◌∙◌}
use mathlib.Core.List.{[], ◌∷◌, ◌++◌}
use Prim.Native.Nat.{ℕ, zero, suc, ◌+◌, ◌-◌, ◌≤◌, ◌<◌}
use native.Mathlib.Omega.{arith}
use native.Mathlib.Nat.{add_comm}
use lib.ListN.{length, take, drop, get_or, length-map, length-drop, length-append, get_or-map}
use lib.Seq.{get_or-take, get_or-drop, length-take-le}
use Rattle.syntax.specs.Context.{Context, id_of, ids, empty_binding}
use Rattle.syntax.specs.declared.context.ContextBinding.{ContextBinding}
use Rattle.syntax.proofs.Flats.{seen_at}
use Rattle.pass_work_spec.specs.declared.Entry.{Entry}
use Rattle.pass_work_spec.specs.Work.{Work, bindings, own, owns, moved_behind, respell, respelled}
use Rattle.pass_work_spec.proofs.Lengths.{owns-length}
use Rattle.pass_entries.specs.Entries.{entry_in, empty_flat_entry, empty_entry}
use Rattle.pass_context.specs.Holding.{entries_in}
use Rattle.pass_context.specs.declared.Held.{Held}
use Rattle.pass_context.proofs.Stores.{mapped_at, mapped_count, joined-left, joined-right, joined-behind}

-- ── the array ──

-- what is read is the entry that stands there
pub entry_at : (h : Held) (i : ℕ) → entry_in (get_or h.entries i empty_flat_entry) ≡ get_or (entries_in h) i empty_entry
entry_at h i = seen_at entry_in h.entries i empty_flat_entry

pub source-at : (h : Held) (i : ℕ) → (get_or h.entries i empty_flat_entry).source ≡ (get_or (entries_in h) i empty_entry).source
source-at h i = ap (λ (e : Entry). e.source) (entry_at h i)

-- ── bindings ──

abbrev pub binding_of : Entry → ContextBinding
binding_of e = e.binding

pub binding-at : (h : Held) (n i : ℕ) → i < n → (entry_in (get_or h.entries i empty_flat_entry)).binding ≡ get_or (bindings (take n (entries_in h))) i empty_binding
binding-at h n i k = ap binding_of (entry_at h i) ∙ mapped_at binding_of (entries_in h) n i empty_entry k

pub bindings-count : (W : Work) (n : ℕ) → n ≤ length W → length (bindings (take n W)) ≡ n
bindings-count W n h = mapped_count binding_of W n h

pub id-at : (h : Held) (n i : ℕ) → i < n → (get_or h.entries i empty_flat_entry).id ≡ get_or (ids (bindings (take n (entries_in h)))) i (id_of empty_binding)
id-at h n i k = ap id_of (binding-at h n i k) ∙ sym (get_or-map id_of (bindings (take n (entries_in h))) i empty_binding)

pub ids-count : (W : Work) (n : ℕ) → n ≤ length W → length (ids (bindings (take n W))) ≡ n
ids-count W n h = length-map (bindings (take n W)) id_of ∙ bindings-count W n h

-- ── binders ──

pub owns-at : (n : ℕ) (Γ : Context) (i place : ℕ) (d : Entry) (z : ContextBinding) → i < length Γ → place ≡ n + i → own place (get_or Γ i z) ≡ get_or (owns n Γ) i d
owns-at n [] i place d z h e = absurd (omega arith)
owns-at n (b ∷ Γ) zero place d z h e = let q : place ≡ n = omega arith in ap (λ (k : ℕ). own k b) q
owns-at n (b ∷ Γ) (suc i) place d z h e = owns-at (n + 1) Γ i place d z (omega arith) (omega arith)

-- of an array's first n
binder_at : (bs : Context) (n i from place : ℕ) → i < n → n ≤ length bs → place ≡ from + i → own place (get_or bs i empty_binding) ≡ get_or (owns from (take n bs)) i empty_entry
binder_at bs n i from place k r e =
    ap (own place) (sym (get_or-take n bs i empty_binding k))
    ∙ owns-at from (take n bs) i place empty_entry empty_binding (rw (length-take-le n bs r) k) e

-- behind `start` entries
pub owned_behind : (p : Work) (bs : Context) (n start from i at place : ℕ) → length p ≡ start → i < n → n ≤ length bs → at ≡ start + i → place ≡ from + i →
    own place (get_or bs i empty_binding) ≡ get_or (p ++ owns from (take n bs)) at empty_entry
owned_behind p bs n start from i at place h k r q e = rw q (binder_at bs n i from place k r e ∙ sym (joined-behind p (owns from (take n bs)) start empty_entry h i))

-- before the first n of an array
module _ (bs : Context) (k from : ℕ) (es : Work) (n : ℕ) (h : k ≤ length bs) where
  binders-count : length (owns from (take k bs)) ≡ k
  binders-count = owns-length from (take k bs) ∙ length-take-le k bs h

  pub under-count : n ≤ length es → length (owns from (take k bs) ++ take n es) ≡ k + n
  under-count r = omega (arith, length-append (owns from (take k bs)) (take n es), binders-count, length-take-le n es r)

  pub under_left : (i : ℕ) → i < k → own (from + i) (get_or bs i empty_binding) ≡ get_or (owns from (take k bs) ++ take n es) i empty_entry
  under_left i r = binder_at bs k i from (from + i) r h refl ∙ sym (joined-left (owns from (take k bs)) (take n es) k empty_entry binders-count i r)

  pub under-right : (i : ℕ) → k ≤ i → i < k + n → get_or es (i - k) empty_entry ≡ get_or (owns from (take k bs) ++ take n es) i empty_entry
  under-right i r q = sym (joined-right (owns from (take k bs)) (take n es) k empty_entry binders-count i r ∙ get_or-take n es (i - k) empty_entry (omega arith))

-- ── moved ──

module _ (es : Work) (n j i : ℕ) (d : Entry) (h : n ≤ length es) (k : j ≤ n) where
  behind-count : length (drop j (take n es)) ≡ n - j
  behind-count = rw (length-drop, length-take-le n es h)

  pub moved-left : i < n - j → get_or es (i + j) d ≡ get_or (moved_behind j (take n es)) i d
  unfolding moved_behind
  moved-left q = sym (
      joined-left (drop j (take n es)) (take j (take n es)) (n - j) d behind-count i q
      ∙ get_or-drop j (take n es) i d
      ∙ get_or-take n es (j + i) d (omega arith)
      ∙ ap (λ (t : ℕ). get_or es t d) (add_comm j i))

  pub moved-right : n - j ≤ i → i < n → get_or es (i - (n - j)) d ≡ get_or (moved_behind j (take n es)) i d
  unfolding moved_behind
  moved-right q r = sym (
      joined-right (drop j (take n es)) (take j (take n es)) (n - j) d behind-count i q
      ∙ get_or-take j (take n es) (i - (n - j)) d (omega arith)
      ∙ get_or-take n es (i - (n - j)) d (omega arith))

-- ── respelled ──

pub respelled-at : (W : Work) (T : Context) (i : ℕ) (d : Entry) (z : ContextBinding) → i < length W → length T ≡ length W → respell (get_or W i d) (get_or T i z) ≡ get_or (respelled W T) i d
respelled-at [] T i d z h q = absurd (omega arith)
respelled-at (e ∷ W) [] i d z h q = absurd (omega arith)
respelled-at (e ∷ W) (b ∷ T) zero d z h q = refl
respelled-at (e ∷ W) (b ∷ T) (suc i) d z h q = respelled-at W T i d z (omega arith) (omega arith)

pub respelled-count : (W : Work) (T : Context) → length T ≡ length W → length (respelled W T) ≡ length W
respelled-count [] T q = refl
respelled-count (e ∷ W) [] q = absurd (omega arith)
respelled-count (e ∷ W) (b ∷ T) q = ap suc (respelled-count W T (omega arith))
