-- Where the parts of a record without a list stand in bytes where the record stands: a Switch, a Create, a Literal, an Op and an IfC; and
-- where a PrintI64's newline stands in the record. (The var of a PrintI64 and of an Exit: `first-there`, `image_read_nodes/proofs/NodeLaws.antt`.)
-- Assumes nothing.
use Prim.Native.Nat.{ℕ, ◌+◌, ◌≤◌, ◌<◌}
use mathlib.Core.Path.{◌≡◌, refl, sym, ap, ◌∙◌, subst}
use mathlib.Core.Bool.{Bool, true}
use mathlib.Core.List.{List, [], ◌∷◌, append-nil}
use mathlib.Core.Option.{Option, none, some}
use native.Mathlib.Omega.{arith}
use lib.IntN.{ℤ}
use lib.ListN.{length, drop, get_or}
use lib.Seq.{drop-drop}
use mir.Syntax.{w64}
use mir.Val.{SFits}
use Rattle.syntax.specs.Context.{Context}
use Rattle.syntax.specs.declared.names.Identifier.{Identifier}
use Rattle.syntax.specs.declared.types.Ty.{Ty}
use Rattle.syntax.specs.declared.op.BinOp.{BinOp}
use Rattle.syntax.specs.declared.ifc.IfSort.{IfSort}
use Rattle.model.proofs.Questions.{none_says}
use Rattle.image_spec.specs.Parse.{got, numbered, or_refused, one_of}
use Rattle.image_spec.specs.Fields.{operator_code_lem, sort_code_lem, newline_code_lem, integer_bytes, identifier_bytes, type_bytes, IdentifierOk, TypeOk}
use Rattle.image_spec.specs.Records.{Record, switch, create, literal, op, ifc, print, record_bytes, RecordOk}
use Rattle.image_spec.specs.Kinds.{kind_of, clauses_of, fixed, tail_bytes}
use Rattle.image_spec.proofs.ParseLaws.{Exact}
use Rattle.image_spec.proofs.FieldLaws.{identifier-length, type-length}
use Rattle.image_spec.proofs.KindLaws.{tail_at, fixed_le}
use Rattle.scope_spec.specs.Flat.{plain_record_lem}
use Rattle.image_read_parts.specs.Standing.{Stands, IsCode}
use Rattle.std.specs.Prelude.{Result, Ok}
use Rattle.syntax.specs.Codes.{Decodes}
use Rattle.syntax.specs.declared.codes.NoCode.{NoCode}
use Rattle.image_read_parts.proofs.StandingLaws.{decoded, inner, stands_in, byte-run}
use Rattle.image_read_parts.proofs.PartPlaces.{byte_of, switch-var, switch-ty, create-var, create-ty, literal-integer, literal-var, op-fst, op-code, op-snd, op-var, ifc-code, ifc-fst, print-code}
use Rattle.image_read_parts.proofs.NamedPlaces.{identifier-room, byte-room}
use Rattle.image_read_nodes.specs.Nodes.{first_of, operand_of, target_of, second_of}
use Rattle.pass_records.proofs.MadeLaws.{parts_of, made_of}

-- an identifier and a type that stand in a record
module _ (w : ℕ) {s : List ℕ} {o at : ℕ} {r : Record} (st : Stands (record_bytes w) (RecordOk w) s o r) where
  pub identifier_in : {x : Identifier} → Stands (identifier_bytes w) (IdentifierOk w) (record_bytes w r) at x → Stands (identifier_bytes w) (IdentifierOk w) s (o + at) x
  identifier_in {x} d = inner (2 + w) (identifier-length w x) (omega arith) st d

  pub type_in : {t : Ty} → Stands (type_bytes w) (TypeOk w) (record_bytes w r) at t → Stands (type_bytes w) (TypeOk w) s (o + at) t
  type_in {t} d = inner (3 + w) (type-length w t) (omega arith) st d

-- what the tail of a record is stands behind its fixed part
pub tail_in : {A : Type 0} (e : A → List ℕ) (P : A → Type 0) (b : A) (w n : ℕ) {s : List ℕ} {o : ℕ} (r : Record) → tail_bytes w r ≡ e b → P b → fixed w (kind_of r) ≡ n
    → Stands (record_bytes w) (RecordOk w) s o r → Stands e P s (o + n) b
tail_in e P b w n r t p k st =
    let h : Stands e P (record_bytes w r) n b = record { others = []; bytes = ap (λ (z : ℕ). drop z (record_bytes w r)) (sym k) ∙ (tail_at w r ∙ (t ∙ sym (append-nil (e b)))); fits = p } in
    stands_in (omega (arith, fixed_le w r)) st h

-- the byte that was read is the one that stands there
byte_is : {s : List ℕ} {at b : ℕ} → Stands byte_of (λ _. Unit {0}) s at b → get_or s at 0 ≡ b
byte_is {s} {at} {b} h = byte-run s h.others at b h.bytes

-- what a code that was read stands for
code-number : {A : Type 0} (code : A → ℕ) (vs : List A) (a : A) {b : ℕ} → Exact (λ (c : A). code c ∷ []) (λ _. Unit {0}) (one_of vs) → b ≡ code a → numbered vs b ≡ some a
code-number {A} code vs a x e = ap (numbered vs) e ∙ go (numbered vs (code a)) (x.left a tt [])
  where
    go : (n : Option A) → or_refused {X = ℕ} n [] ≡ got a [] → n ≡ some a
    go none e = let z : ◌≡◌ {A = ℕ} 0 1 = cc (e) in absurd (omega arith)
    go (some b) e = cc (e)

pub code-known : {A : Type 0} (code : A → ℕ) (vs : List A) (a : A) {b : ℕ} {x : A} → Exact (λ (c : A). code c ∷ []) (λ _. Unit {0}) (one_of vs) → IsCode vs b x → b ≡ code a → x ≡ a
code-known code vs a x d e = d.is a (code-number code vs a x e)

pub code-decodes : {A : Type 0} (code : A → ℕ) (vs : List A) (a : A) {b : ℕ} (r : Result A NoCode) → Exact (λ (c : A). code c ∷ []) (λ _. Unit {0}) (one_of vs) → Decodes vs b r → b ≡ code a → r ≡ Ok a
code-decodes code vs a {b} r x d e = decoded vs b r d (code-number code vs a x e)

module _ (w : ℕ) (s : List ℕ) (o : ℕ) (r : Record) where
  -- ── Switch and Create: the count of clauses stands at `at` ──

  pub record HeadThere (make : Identifier → Ty → ℕ → Record) (at : ℕ) : Type 0 where
    pub var : Identifier
    pub ty : Ty
    pub clauses : ℕ
    pub is : r ≡ make var ty clauses
    pub var-at : Stands (identifier_bytes w) (IdentifierOk w) s (o + 1) var
    pub ty_at : Stands (type_bytes w) (TypeOk w) s (o + (3 + w)) ty
    pub clauses-at : get_or s (o + at) 0 ≡ clauses
    pub inside : o + at < length s

  pub switch-there : kind_of r ≡ 5 → Stands (record_bytes w) (RecordOk w) s o r → HeadThere switch (6 + (w + w))
  switch-there k h = go (first_of r) (parts_of r).ty (clauses_of r) (made_of r 5 k)
    where
      go : (v : Identifier) (t : Ty) (n : ℕ) → r ≡ switch v t n → HeadThere switch (6 + (w + w))
      go v t n e =
          let st : Stands (record_bytes w) (RecordOk w) s o (switch v t n) = subst (Stands (record_bytes w) (RecordOk w) s o) e h in
          let c = tail_in byte_of (λ _. Unit {0}) n w (6 + (w + w)) (switch v t n) refl tt (omega arith) st in
          record {
            var = v;
            ty = t;
            clauses = n;
            is = e;
            var-at = identifier_in w st (switch-var w v t n st.fits);
            ty_at = type_in w st (switch-ty w v t n st.fits);
            clauses-at = byte_is c;
            inside = omega (arith, byte-room s (o + (6 + (w + w))) n c);
          }

  pub create-there : kind_of r ≡ 6 → plain_record_lem r ≡ true → Stands (record_bytes w) (RecordOk w) s o r → HeadThere (λ v t n. create v t none n) (7 + (w + w))
  create-there k q h = go (first_of r) (parts_of r).ty (clauses_of r) (made_of r 6 k ∙ ap (λ (x : Option Context). create (first_of r) (parts_of r).ty x (clauses_of r)) (none_says _ (sym (ap plain_record_lem (made_of r 6 k)) ∙ q)))
    where
      go : (v : Identifier) (t : Ty) (n : ℕ) → r ≡ create v t none n → HeadThere (λ v t n. create v t none n) (7 + (w + w))
      go v t n e =
          let st : Stands (record_bytes w) (RecordOk w) s o (create v t none n) = subst (Stands (record_bytes w) (RecordOk w) s o) e h in
          let d = tail_in (λ (n : ℕ). 0 ∷ n ∷ []) (λ _. Unit {0}) n w (6 + (w + w)) (create v t none n) refl tt (omega arith) st in
          let m : o + (6 + (w + w)) + 1 ≡ o + (7 + (w + w)) = omega arith in
          let c : Stands byte_of (λ _. Unit {0}) s (o + (7 + (w + w))) n = record {
            others = d.others;
            bytes = ap (λ (z : ℕ). drop z s) (sym m) ∙ (sym (drop-drop 1 (o + (6 + (w + w))) s) ∙ ap (drop 1) d.bytes);
            fits = tt;
          } in
          record {
            var = v;
            ty = t;
            clauses = n;
            is = e;
            var-at = identifier_in w st (create-var w v t none n st.fits);
            ty_at = type_in w st (create-ty w v t none n st.fits);
            clauses-at = byte_is c;
            inside = omega (arith, byte-room s (o + (7 + (w + w))) n c);
          }

  -- ── Literal and Op ──

  pub record LiteralThere : Type 0 where
    pub lit : ℤ
    pub var : Identifier
    pub is : r ≡ literal lit var
    pub lit-at : Stands integer_bytes (SFits w64) s (o + 1) lit
    pub var-at : Stands (identifier_bytes w) (IdentifierOk w) s (o + 9) var
    pub inside : o + 9 + (2 + w) ≤ length s

  pub literal-there : kind_of r ≡ 8 → Stands (record_bytes w) (RecordOk w) s o r → LiteralThere
  literal-there k h = go (parts_of r).lit (first_of r) (made_of r 8 k)
    where
      go : (z : ℤ) (v : Identifier) → r ≡ literal z v → LiteralThere
      go z v e =
          let st : Stands (record_bytes w) (RecordOk w) s o (literal z v) = subst (Stands (record_bytes w) (RecordOk w) s o) e h in
          let c = identifier_in w st (literal-var w z v st.fits) in
          record {
            lit = z;
            var = v;
            is = e;
            lit-at = inner 8 refl (omega arith) st (literal-integer w z v st.fits);
            var-at = c;
            inside = identifier-room w s (o + 9) v c;
          }

  pub record OpThere : Type 0 where
    pub fst : Identifier
    pub operator : BinOp
    pub snd : Identifier
    pub var : Identifier
    pub is : r ≡ op fst operator snd var
    pub fst-at : Stands (identifier_bytes w) (IdentifierOk w) s (o + 1) fst
    pub operator-at : get_or s (o + (3 + w)) 0 ≡ operator_code_lem operator
    pub snd-at : Stands (identifier_bytes w) (IdentifierOk w) s (o + (4 + w)) snd
    pub var-at : Stands (identifier_bytes w) (IdentifierOk w) s (o + (6 + (w + w))) var
    pub inside : o + (6 + (w + w)) + (2 + w) ≤ length s

  pub op-there : kind_of r ≡ 9 → Stands (record_bytes w) (RecordOk w) s o r → OpThere
  op-there k h = go (first_of r) (parts_of r).operator (operand_of r) (target_of r) (made_of r 9 k)
    where
      go : (f : Identifier) (a : BinOp) (j v : Identifier) → r ≡ op f a j v → OpThere
      go f a j v e =
          let st : Stands (record_bytes w) (RecordOk w) s o (op f a j v) = subst (Stands (record_bytes w) (RecordOk w) s o) e h in
          let c = identifier_in w st (op-var w f a j v st.fits) in
          record {
            fst = f;
            operator = a;
            snd = j;
            var = v;
            is = e;
            fst-at = identifier_in w st (op-fst w f a j v st.fits);
            operator-at = byte_is (inner 1 refl (omega arith) st (op-code w f a j v st.fits));
            snd-at = identifier_in w st (op-snd w f a j v st.fits);
            var-at = c;
            inside = identifier-room w s (o + (6 + (w + w))) v c;
          }

  -- ── IfC ──

  pub record IfCThere : Type 0 where
    pub sort : IfSort
    pub fst : Identifier
    pub snd : Option Identifier
    pub is : r ≡ ifc sort fst snd
    pub sort-at : get_or s (o + 1) 0 ≡ sort_code_lem sort
    pub fst-at : Stands (identifier_bytes w) (IdentifierOk w) s (o + 2) fst
    pub inside : o + 2 + (2 + w) ≤ length s

  pub ifc-there : kind_of r ≡ 10 → Stands (record_bytes w) (RecordOk w) s o r → IfCThere
  unfolding RecordOk
  ifc-there k h = go (parts_of r).sort (first_of r) (second_of r) (made_of r 10 k)
    where
      go : (c : IfSort) (f : Identifier) (j : Option Identifier) → r ≡ ifc c f j → IfCThere
      go c f j e =
          let st : Stands (record_bytes w) (RecordOk w) s o (ifc c f j) = subst (Stands (record_bytes w) (RecordOk w) s o) e h in
          let d = identifier_in w st (ifc-fst w c f j st.fits) in
          record {
            sort = c;
            fst = f;
            snd = j;
            is = e;
            sort-at = byte_is (inner 1 refl (omega arith) st (ifc-code w c f j st.fits));
            fst-at = d;
            inside = identifier-room w s (o + 2) f d;
          }

-- ── PrintI64: its newline byte, in the record ──

pub record PrintThere (w : ℕ) (r : Record) : Type 0 where
  pub newline : Bool
  pub is : r ≡ print newline (first_of r)
  pub newline-at : Stands byte_of (λ _. Unit {0}) (record_bytes w r) 1 (newline_code_lem newline)

pub print-there : (w : ℕ) (r : Record) → kind_of r ≡ 12 → RecordOk w r → PrintThere w r
print-there w r k ok = record {
  newline = (parts_of r).newline;
  is = e;
  newline-at = subst (λ (x : Record). Stands byte_of (λ _. Unit {0}) (record_bytes w x) 1 (newline_code_lem (parts_of r).newline)) (sym e)
      (print-code w (parts_of r).newline (first_of r) (subst (RecordOk w) e ok));
}
  where
    e : r ≡ print (parts_of r).newline (first_of r)
    e = made_of r 12 k
