-- The steps of the loops over the directory. Assumes nothing.
use Rattle.std.specs.Prelude.{Some, None}
use Prim.Native.Nat.{ℕ, zero, suc, ◌+◌, ◌-◌, ◌≤◌, ◌<◌}
use mathlib.Core.List.{List, [], ◌∷◌}
use mathlib.Core.Bool.{Bool, true, false, ◌&&◌, and-false}
use mathlib.Core.Option.{Option as Optional, none, some}
use mathlib.Core.Path.{◌≡◌, refl, ap, sym, ◌∙◌}
use native.Mathlib.Omega.{arith}
use borrow.Author.Tests.{eq-eqb, ne_eqb}
use lib.Dec.{eqb}
use lib.ListN.{length, drop, take, length-drop, length-append}
use lib.Seq.{drop-drop, drop_at}
use Rattle.image_spec.specs.Parse.{Parsed, refused, got, and_then, times, number}
use Rattle.image_spec.specs.Records.{Record, decode_record}
use Rattle.image_spec.specs.Image.{if_got, if_some, is_some, Entry, entry_bytes, entry, tiles, records_at, tiled_from, records_from}
use Rattle.image_spec.proofs.ParseLaws.{Sound, none_read, one-read}
use Rattle.image_spec.proofs.DirectoryLaws.{and_right, EntryOk, entry_exact, entry_length, tiles_le}
use Rattle.image_directory.specs.Slots.{slot_of, slot_at, formed_from}
use Rattle.image_directory.specs.declared.Slot.{Slot}

-- bytes that are too few are refused
refuses-short : {A : Type 0} {e : A → List ℕ} {P : A → Type 0} {l : List ℕ} {r : Parsed ℕ A} (k : ℕ) → Sound e P l r
    → ((a : A) → length (e a) ≡ k) → length l < k → r ≡ refused
refuses-short k none_read h s = refl
refuses-short {e = e} k (one-read {a = a} {m = m} pa ea) h s =
    absurd (omega (arith, ap length ea, length-append (e a) m, h a))

-- one record and the others
abbrev pub and_more : Optional Record → Optional (List Record) → Optional (List Record)
and_more a b = if_some a none (λ r. if_some b none (λ rs. some (r ∷ rs)))

and_more_none : (a : Optional Record) → and_more a none ≡ none
and_more_none none = refl
and_more_none (some a) = refl

some_more : (a : Optional Record) (b : Optional (List Record)) → is_some (and_more a b) ≡ (is_some a) && (is_some b)
some_more none b = refl
some_more (some a) none = refl
some_more (some a) (some b) = refl

module _ (p : ℕ) (s : List ℕ) where
  pub slot-short : (at : ℕ) → 0 < p → length s < at + (p + p) → slot_at p at s ≡ None
  unfolding slot_at
  slot-short at t h =
      let k : length (drop at s) < p + p = rw length-drop (omega arith) in
      rw (refuses-short (p + p) ((entry_exact p).right (drop at s)) (entry_length p) k)

  pub slot-here : (at o z : ℕ) (m : List ℕ) → number p (drop at s) ≡ got o (drop (at + p) s) → number p (drop (at + p) s) ≡ got z m
      → slot_at p at s ≡ Some (record { offset = o; size = z })
  unfolding slot_at
  slot-here at o z m a b = rw (a, b)

  -- the entry that a slot has, and what follows it
  entry_of : (at : ℕ) (v : Slot) {r : Parsed ℕ Entry} → Sound (entry_bytes p) (EntryOk p) (drop at s) r → slot_of r ≡ Some v
      → (r ≡ got ((v.offset, v.size)) (drop (at + (p + p)) s)) × (p + p ≤ length s - at)
  entry_of at v none_read h = absurd (cc)
  entry_of at v (one-read {a = e} {m = m} pa ea) h =
      let q : ◌≡◌ {A = Slot} (record { offset = e.0; size = e.1 }) v = cc in
      let ho : e.0 ≡ v.offset = ap (λ (x : Slot). x.offset) q in
      let hz : e.1 ≡ v.size = ap (λ (x : Slot). x.size) q in
      let k : m ≡ drop (at + (p + p)) s = sym (drop_at (entry_bytes p e) m (p + p) (entry_length p e)) ∙ (ap (drop (p + p)) (sym ea) ∙ drop-drop (p + p) at s) in (
        (λ i. got (ho i, hz i) (k i)),
        omega (arith, sym (length-drop at s) ∙ (ap length ea ∙ length-append (entry_bytes p e) m), entry_length p e),
      )

  -- the step of the loops, over what is asked of the entries, and what is said where they are not there
  module _ {R : Type 0} (d : R) (ask : ℕ → List Entry → R) where
    From : ℕ → ℕ → ℕ → R
    From n at here = if_got (times n (entry p) (drop at s)) d (λ es _. ask here es)

    from-short : (n at here : ℕ) → 0 < n → slot_at p at s ≡ None → From n at here ≡ d
    unfolding From slot_at
    from-short zero at here t h = absurd (omega arith)
    from-short (suc n) at here t h = go (entry p (drop at s)) h
      where
        go : (r : Parsed ℕ Entry) → slot_of r ≡ None → if_got (and_then r (λ e m. and_then (times n (entry p) m) (λ es k. got (e ∷ es) k))) d (λ es _. ask here es) ≡ d
        go refused h = refl
        go (got e m) h = absurd (cc)

    from_step : (f : R → R) → f d ≡ d → (n at here : ℕ) (v : Slot) → 0 < n → slot_at p at s ≡ Some v
        → ((es : List Entry) → ask here ((v.offset, v.size) ∷ es) ≡ f (ask (here + v.size) es))
        → From n at here ≡ f (From (n - 1) (at + (p + p)) (here + v.size))
    unfolding From slot_at
    from_step f fd zero at here v t h a = absurd (omega arith)
    from_step f fd (suc n) at here v t h a =
        let k : suc n - 1 ≡ n = omega arith in
        rw ((entry_of at v ((entry_exact p).right (drop at s)) h).0, k) (go (times n (entry p) (drop (at + (p + p)) s)))
      where
        go : (r : Parsed ℕ (List Entry))
            → if_got (and_then r (λ es m. got ((v.offset, v.size) ∷ es) m)) d (λ es _. ask here es)
            ≡ f (if_got r d (λ es _. ask (here + v.size) es))
        go refused = sym fd
        go (got es m) = a es

  pub slot-room : (at : ℕ) (v : Slot) → 0 < p → slot_at p at s ≡ Some v → at + (p + p) ≤ length s
  unfolding slot_at
  slot-room at v t h = omega (arith, (entry_of at v ((entry_exact p).right (drop at s)) h).1)

  pub tiled-short : (n at here : ℕ) → 0 < n → slot_at p at s ≡ None → tiled_from p n at here s ≡ false
  unfolding tiled_from From
  tiled-short n at here t h = from-short false (λ here es. tiles here es (length s)) n at here t h

  pub tiled-step : (n at here : ℕ) (v : Slot) → 0 < n → slot_at p at s ≡ Some v
      → tiled_from p n at here s ≡ (eqb v.offset here) && (tiled_from p (n - 1) (at + (p + p)) (here + v.size) s)
  unfolding tiled_from From
  tiled-step n at here v t h = from_step false (λ here es. tiles here es (length s)) (λ b. (eqb v.offset here) && b) (and-false (eqb v.offset here)) n at here v t h (λ es. refl)

  pub tiled_le : (n at here : ℕ) → tiled_from p n at here s ≡ true → here ≤ length s
  unfolding tiled_from
  tiled_le n at here h = go (times n (entry p) (drop at s)) h
    where
      go : (r : Parsed ℕ (List Entry)) → if_got r false (λ es _. tiles here es (length s)) ≡ true → here ≤ length s
      go refused h = absurd (cc)
      go (got es m) h = tiles_le es here (length s) h

  pub tiled-past : (n at here : ℕ) → length s < here → tiled_from p n at here s ≡ false
  tiled-past n at here h = go (tiled_from p n at here s) refl
    where
      go : (t : Bool) → tiled_from p n at here s ≡ t → t ≡ false
      go true e = absurd (omega (arith, tiled_le n at here e))
      go false e = refl

  pub tiled-end : (n at here : ℕ) → n ≡ 0 → tiled_from p n at here s ≡ eqb here (length s)
  unfolding tiled_from
  tiled-end n at here e = rw e

  -- an entry out of its place
  pub tiled_off : (n at here : ℕ) (v : Slot) → 0 < n → slot_at p at s ≡ Some v → (v.offset ≡ here → ⊥) → tiled_from p n at here s ≡ false
  tiled_off n at here v t h e = tiled-step n at here v t h ∙ rw (ne_eqb v.offset here e)

  -- an entry in its place
  pub tiled_on : (n at here : ℕ) (v : Slot) → 0 < n → slot_at p at s ≡ Some v → v.offset ≡ here
      → tiled_from p n at here s ≡ tiled_from p (n - 1) (at + (p + p)) (here + v.size) s
  tiled_on n at here v t h e = tiled-step n at here v t h ∙ rw (eq-eqb v.offset here e)

  pub tiled-next : (n at here : ℕ) (v : Slot) → 0 < n → slot_at p at s ≡ Some v → tiled_from p n at here s ≡ true
      → tiled_from p (n - 1) (at + (p + p)) (here + v.size) s ≡ true
  tiled-next n at here v t h e = and_right (eqb v.offset here) _ (sym (tiled-step n at here v t h) ∙ e)

  pub records-short : (w n at here : ℕ) → 0 < n → slot_at p at s ≡ None → records_from w p n at here s ≡ none
  unfolding records_from From
  records-short w n at here t h = from-short none (λ here es. records_at w es (drop here s)) n at here t h

  pub records-step : (w n at here : ℕ) (v : Slot) → 0 < n → slot_at p at s ≡ Some v
      → records_from w p n at here s ≡ and_more (decode_record w (take v.size (drop here s))) (records_from w p (n - 1) (at + (p + p)) (here + v.size) s)
  unfolding records_from From records_at
  records-step w n at here v t h =
      from_step none (λ here es. records_at w es (drop here s)) (λ b. and_more (decode_record w (take v.size (drop here s))) b)
      (and_more_none (decode_record w (take v.size (drop here s)))) n at here v t h (λ es. rw (drop-drop v.size here s))

  pub formed-short : (w n at here : ℕ) → 0 < n → slot_at p at s ≡ None → formed_from w p n at here s ≡ false
  unfolding formed_from
  formed-short w n at here t h = rw (records-short w n at here t h)

  pub formed-step : (w n at here : ℕ) (v : Slot) → 0 < n → slot_at p at s ≡ Some v
      → formed_from w p n at here s ≡ (is_some (decode_record w (take v.size (drop here s)))) && (formed_from w p (n - 1) (at + (p + p)) (here + v.size) s)
  unfolding formed_from
  formed-step w n at here v t h =
      rw (records-step w n at here v t h) (some_more (decode_record w (take v.size (drop here s))) (records_from w p (n - 1) (at + (p + p)) (here + v.size) s))

  pub records-end : (w n at here : ℕ) → n ≡ 0 → records_from w p n at here s ≡ some []
  unfolding records_from records_at
  records-end w n at here e = rw e

  pub formed-end : (w n at here : ℕ) → n ≡ 0 → formed_from w p n at here s ≡ true
  unfolding formed_from
  formed-end w n at here e = rw (records-end w n at here e)

  -- the step at what the check of the part from `here` to `here + v.size` says
  pub formed-part : (w n at here : ℕ) (v : Slot) (f : Bool) → 0 < n → slot_at p at s ≡ Some v
      → f ≡ is_some (decode_record w (take (here + v.size - here) (drop here s)))
      → formed_from w p n at here s ≡ f && (formed_from w p (n - 1) (at + (p + p)) (here + v.size) s)
  formed-part w n at here v f t h e =
      let k : here + v.size - here ≡ v.size = omega arith in
      formed-step w n at here v t h ∙ rw (e, k)
