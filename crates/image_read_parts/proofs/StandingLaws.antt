-- Laws of values that stand in bytes: runs of bytes, what reading identifiers, types and bindings gives, and parts of records.
-- Assumes nothing.
use Prim.Native.Nat.{ℕ, zero, suc, ◌+◌, ◌^◌, ◌≤◌, ◌<◌}
use mathlib.Core.List.{List, [], ◌∷◌, ◌++◌, append_assoc}
use mathlib.Core.Bool.{not}
use mathlib.Core.Option.{some, none}
use lib.Dec.{eqb}
use Rattle.std.specs.Prelude.{Result, Ok, Err, slice_get}
use Rattle.std.specs.Result.{result_unwrap_or}
use Rattle.syntax.specs.Options.{option_of}
use Rattle.syntax.specs.Codes.{Decodes, chiralities}
use Rattle.syntax.specs.declared.codes.NoCode.{NoCode}
use mathlib.Core.Path.{◌≡◌, refl, ap, sym, ◌∙◌, subst}
use native.Mathlib.Omega.{arith}
use lib.ListN.{length, drop, get_or, length-append, length-drop, take-append-drop}
use lib.Seq.{drop-drop, drop_at, drop-append-le, get_or-drop}
use native.Mathlib.Nat.{add-zero}
use Rattle.syntax.specs.declared.names.Identifier.{Identifier}
use Rattle.syntax.specs.declared.types.Ty.{Ty}
use Rattle.syntax.specs.declared.types.Ty.TheVariants.{I64, Decl}
use Rattle.syntax.specs.declared.context.Chirality.{Chirality}
use Rattle.image_spec.specs.Parse.{got, number, field, numbered}
use Rattle.image_spec.specs.Fields.{newlines, chirality_code_lem, identifier_bytes, type_bytes, binding_bytes, IdentifierOk, TypeOk, BindingOk}
use Rattle.image_spec.specs.Records.{Record, record_bytes, RecordOk}
use Rattle.image_spec.specs.Kinds.{kind_of}
use Rattle.image_spec.proofs.ParseLaws.{Sound, one-read, number_exact}
use Rattle.image_spec.proofs.FieldLaws.{chirality-back, identifier-length}
use Rattle.image_spec.proofs.KindLaws.{kind-first, record_nonempty}
use Rattle.image_directory.specs.Slots.{records_in}
use Rattle.image_directory.specs.declared.Frame.{Frame}
use Rattle.image_directory.specs.declared.Slot.{Slot}
use Rattle.image_directory.proofs.Places.{Spot}
use Rattle.image_read_parts.specs.Standing.{Stands, ReadsAs, IsCode, head_of, Room, RoomIn}

-- the first of two runs of bytes at a place, and the second, which stands past it
pub first_run : (s m : List ℕ) (at : ℕ) (x y : List ℕ) → drop at s ≡ x ++ y ++ m → drop at s ≡ x ++ (y ++ m)
first_run s m at x y e = e ∙ append_assoc x y m

pub second_run : (s m : List ℕ) (at : ℕ) (x y : List ℕ) (n : ℕ) → length x ≡ n → drop at s ≡ x ++ y ++ m → drop (at + n) s ≡ y ++ m
second_run s m at x y n k e = sym (drop-drop n at s) ∙ (ap (drop n) (first_run s m at x y e) ∙ drop_at x (y ++ m) n k)

-- the byte at a place
pub byte-run : (s m : List ℕ) (at b : ℕ) → drop at s ≡ b ∷ m → get_or s at 0 ≡ b
byte-run s m at b e = ap (λ k. get_or s k 0) (sym (add-zero at)) ∙ (sym (get_or-drop at s 0 0) ∙ ap (λ l. get_or l 0 0) e)

-- ---- numbers and codes

pub number-below : (w : ℕ) (l : List ℕ) (n : ℕ) (m : List ℕ) → number w l ≡ got n m → n < 256 ^ w
number-below w l n m e = ok (subst (Sound (field w) (λ n. n < 256 ^ w) l) e ((number_exact w).right l))
  where
    ok : {a : ℕ} {m : List ℕ} → Sound (field w) (λ n. n < 256 ^ w) l (got a m) → a < 256 ^ w
    ok (one-read p q) = p

number-run : (l m k : List ℕ) (w n v : ℕ) → l ≡ field w n ++ m → n < 256 ^ w → number w l ≡ got v k → v ≡ n
number-run l m k w n v e h q = let x : number w l ≡ got n m = ap (number w) e ∙ (number_exact w).left n h m in cc (x, q)

-- what decodes is the value with that number
numbered-get : {A : Type 0} (vs : List A) (b : ℕ) → numbered vs b ≡ option_of (slice_get vs b)
numbered-get [] b = refl
numbered-get (a ∷ vs) zero = refl
numbered-get (a ∷ vs) (suc b) = numbered-get vs b

numbered-none : {A : Type 0} (vs : List A) (b : ℕ) → length vs ≤ b → numbered vs b ≡ none
numbered-none [] b h = refl
numbered-none (a ∷ vs) zero h = absurd (omega arith)
numbered-none (a ∷ vs) (suc b) h = numbered-none vs b (omega arith)

pub decoded : {A : Type 0} (vs : List A) (b : ℕ) {a : A} (r : Result A NoCode) → Decodes vs b r → numbered vs b ≡ some a → r ≡ Ok a
decoded vs b (Ok x) d e = let q = numbered-get vs b ∙ ap option_of d in cc (e, q)
decoded vs b (Err x) d e = let q = numbered-none vs b d.1 in cc (e, q)

pub decoded_or : {A : Type 0} (vs : List A) (b : ℕ) (r : Result A NoCode) (d : A) → Decodes vs b r → IsCode vs b (result_unwrap_or r d)
decoded_or {A} vs b r d h = record { is = λ a e. ap (λ (x : Result A NoCode). result_unwrap_or x d) (decoded vs b r h e) }

pub newline-code : (b : ℕ) → IsCode newlines b (not (eqb b 0))
newline-code zero = record { is = λ a e. cc (e) }
newline-code (suc zero) = record { is = λ a e. cc (e) }
newline-code (suc (suc b)) = record { is = λ a e. cc (e) }

-- ---- identifiers, types, bindings

module _ (w : ℕ) {s : List ℕ} {at : ℕ} where
  pub identifier-reads : {n v : ℕ} {k l : List ℕ} → number 2 (drop at s) ≡ got n k → number w (drop (at + 2) s) ≡ got v l
      → ReadsAs (identifier_bytes w) (IdentifierOk w) s at (record { name = record { 0 = n }; id = record { 0 = v } })
  identifier-reads {n} {v} a b = record {
    is = λ x h.
        let p : n ≡ x.name.0 = number-run _ _ _ 2 x.name.0 n (first_run s h.others at (field 2 x.name.0) (field w x.id.0) h.bytes) h.fits.0 a in
        let q : v ≡ x.id.0 = number-run _ _ _ w x.id.0 v (second_run s h.others at (field 2 x.name.0) (field w x.id.0) 2 refl h.bytes) h.fits.1 b in
        λ i. record { name = record { 0 = p i }; id = record { 0 = q i } };
  }

  pub type_i64 : get_or s at 0 ≡ 0 → ReadsAs (type_bytes w) (TypeOk w) s at I64
  type_i64 z = record { is = is }
    where
      is : (t : Ty) → Stands (type_bytes w) (TypeOk w) s at t → I64 ≡ t
      is I64 h = refl
      is (Decl x) h = absurd (omega (arith, z, byte-run s _ at _ h.bytes))

  pub type_decl : {r : Identifier} → (get_or s at 0 ≡ 0 → ⊥) → ReadsAs (identifier_bytes w) (IdentifierOk w) s (at + 1) r
      → ReadsAs (type_bytes w) (TypeOk w) s at (Decl r)
  type_decl {r} z d = record { is = is }
    where
      is : (t : Ty) → Stands (type_bytes w) (TypeOk w) s at t → Decl r ≡ t
      is I64 h = absurd (z (byte-run s _ at _ h.bytes))
      is (Decl x) h = ap Decl (d.is x (record { others = h.others; bytes = second_run s h.others at (1 ∷ []) (identifier_bytes w x) 1 refl h.bytes; fits = h.fits }))

  pub binding-reads : {x : Identifier} {c : Chirality} {t : Ty} → ReadsAs (identifier_bytes w) (IdentifierOk w) s at x → IsCode chiralities (get_or s (at + (2 + w)) 0) c
      → ReadsAs (type_bytes w) (TypeOk w) s (at + (3 + w)) t → ReadsAs (binding_bytes w) (BindingOk w) s at (record { var = x; chi = c; ty = t })
  binding-reads {x} {c} {t} p q r = record {
    is = λ b h.
        let i = identifier_bytes w b.var in
        let k = chirality_code_lem b.chi ∷ [] in
        let y = type_bytes w b.ty in
        let h₂ : drop (at + (2 + w)) s ≡ k ++ y ++ h.others = second_run s h.others at i (k ++ y) (2 + w) (identifier-length w b.var) h.bytes in
        let n : at + (2 + w) + 1 ≡ at + (3 + w) = omega arith in
        let h₃ : drop (at + (3 + w)) s ≡ y ++ h.others = ap (λ z. drop z s) (sym n) ∙ second_run s h.others (at + (2 + w)) k y 1 refl h₂ in
        let e₁ : x ≡ b.var = p.is b.var (record { others = k ++ y ++ h.others; bytes = first_run s h.others at i (k ++ y) h.bytes; fits = h.fits.0 }) in
        let e₂ : c ≡ b.chi = q.is b.chi (ap (numbered chiralities) (byte-run s _ (at + (2 + w)) _ h₂) ∙ chirality-back b.chi) in
        let e₃ : t ≡ b.ty = r.is b.ty (record { others = h.others; bytes = h₃; fits = h.fits.1.1 }) in
        λ j. record { var = e₁ j; chi = e₂ j; ty = e₃ j };
  }

-- ---- parts of records

-- a value that stands in the bytes of another
pub stands_in : {A B : Type 0} {e : A → List ℕ} {f : B → List ℕ} {P : A → Type 0} {Q : B → Type 0} {s : List ℕ} {o at : ℕ} {a : A} {b : B}
    → at ≤ length (e a) → Stands e P s o a → Stands f Q (e a) at b → Stands f Q s (o + at) b
stands_in {e = e} {f = f} {s = s} {o = o} {at = at} {a = a} {b = b} n h k =
    let d : drop at (e a ++ h.others) ≡ drop at (e a) ++ h.others = drop-append-le at (e a) h.others n in
    record {
      others = k.others ++ h.others;
      bytes = sym (drop-drop at o s) ∙ (ap (drop at) h.bytes ∙ (d ∙ (ap (λ z. z ++ h.others) k.bytes ∙ append_assoc (f b) k.others h.others)));
      fits = k.fits;
    }

-- what is read past the bytes of a record's part is what is read in the record
pub reads_in : {A B : Type 0} {e : A → List ℕ} {f : B → List ℕ} {P : A → Type 0} {Q : B → Type 0} {s : List ℕ} {o at : ℕ} {a : A} {r : B}
    → at ≤ length (e a) → Stands e P s o a → ReadsAs f Q s (o + at) r → ReadsAs f Q (e a) at r
reads_in n h d = record { is = λ b k. d.is b (stands_in n h k) }

-- room in a record is room in the bytes it stands in
pub stands-room : {A : Type 0} {e : A → List ℕ} {P : A → Type 0} {s : List ℕ} {at : ℕ} {a : A} → 0 < length (e a) → Stands e P s at a → at + length (e a) ≤ length s
stands-room {e = e} {s = s} {at = at} {a = a} z h = omega (arith, sym (length-drop at s) ∙ (ap length h.bytes ∙ length-append (e a) h.others))

-- the record that was looked for
pub spot-stands : {g : Frame} {s : List ℕ} {i : ℕ} {v : Slot} → Spot g s i v → Stands (record_bytes g.id) (RecordOk g.id) s v.offset (head_of (drop i (records_in g s)))
spot-stands {g = g} {s = s} {i = i} {v = v} t =
    rw t.list record {
      others = drop v.size (drop v.offset s);
      bytes = sym (take-append-drop v.size (drop v.offset s)) ∙ ap (λ x. x ++ drop v.size (drop v.offset s)) t.bytes;
      fits = t.ok;
    }

-- room in the record at an index is room in the bytes
pub part_room : {g : Frame} {s : List ℕ} {i o at n : ℕ} → g.id ≤ 4 → Stands (record_bytes g.id) (RecordOk g.id) s o (head_of (drop i (records_in g s)))
    → RoomIn g i at n s → Room g.id (o + at) n s
part_room {g = g} {s = s} {i = i} {o = o} w h r =
    let head = head_of (drop i (records_in g s)) in
    record { width = w; inside = omega (arith, r.inside, stands-room {e = record_bytes g.id} (record_nonempty g.id head) h) }

-- what is read at a place of the record at an index
pub part-reads : {B : Type 0} {f : B → List ℕ} {Q : B → Type 0} {g : Frame} {s : List ℕ} {i o at n : ℕ} {r : B}
    → Stands (record_bytes g.id) (RecordOk g.id) s o (head_of (drop i (records_in g s))) → RoomIn g i at n s
    → ReadsAs f Q s (o + at) r → ReadsAs f Q (record_bytes g.id (head_of (drop i (records_in g s)))) at r
part-reads h r d = let k = r.inside in reads_in (omega arith) h d

pub byte_reads : {s : List ℕ} {at : ℕ} → ReadsAs (λ (b : ℕ). b ∷ []) (λ _. Unit {0}) s at (get_or s at 0)
byte_reads {s = s} {at = at} = record { is = λ b h. byte-run s h.others at b h.bytes }

-- a part of what stands at a place: it stands there too, and inside the bytes
pub inner : {A B : Type 0} {e : A → List ℕ} {f : B → List ℕ} {P : A → Type 0} {Q : B → Type 0} {s : List ℕ} {o at : ℕ} {a : A} {b : B} (n : ℕ) → length (f b) ≡ n → 0 < n
    → Stands e P s o a → Stands f Q (e a) at b → Stands f Q s (o + at) b
inner {e = e} {f = f} {b = b} n k z h d =
    let p : 0 < length (f b) = omega arith in
    stands_in (omega (arith, stands-room {e = f} p d)) h d

-- the kind byte of a record that stands at a place
pub kind-stands : (w : ℕ) {s : List ℕ} {o : ℕ} {r : Record} → Stands (record_bytes w) (RecordOk w) s o r → (get_or s o 0 ≡ kind_of r) × (o < length s)
kind-stands w {s = s} {o = o} {r = r} h =
    let n : o + 0 ≡ o = omega arith in (
      ap (λ k. get_or s k 0) (sym n) ∙ (sym (get_or-drop o s 0 0) ∙ (ap (λ l. get_or l 0 0) h.bytes ∙ (first_of (record_bytes w r) h.others (record_nonempty w r) ∙ kind-first w r))),
      omega (arith, record_nonempty w r, stands-room {e = record_bytes w} (record_nonempty w r) h),
    )
  where
    first_of : (l m : List ℕ) → 0 < length l → get_or (l ++ m) 0 0 ≡ get_or l 0 0
    first_of [] m h = absurd (omega arith)
    first_of (x ∷ l) m h = refl
