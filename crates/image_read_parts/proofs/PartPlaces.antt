-- Where the parts of each record stand in its bytes: `let_tag` says that a Let's tag stands 6 + 2 × w bytes into it, and so on.
-- w is the number of bytes of an ID. Counts, lists, marks and what follows them stand in the tail. Assumes nothing.
use Prim.Native.Nat.{ℕ, ◌+◌}
use mathlib.Core.Bool.{Bool}
use mathlib.Core.List.{List, [], ◌∷◌, ◌++◌, append_assoc, append-nil}
use mathlib.Core.Option.{Option}
use mathlib.Core.Path.{◌≡◌, refl, ap, sym, ◌∙◌}
use native.Mathlib.Omega.{arith}
use lib.IntN.{ℤ}
use lib.ListN.{length, drop, length-append}
use lib.Seq.{drop_at}
use mir.Syntax.{w64}
use mir.Val.{SFits}
use Rattle.syntax.specs.Context.{Context}
use Rattle.syntax.specs.declared.names.Identifier.{Identifier}
use Rattle.syntax.specs.declared.types.Ty.{Ty}
use Rattle.syntax.specs.declared.op.BinOp.{BinOp}
use Rattle.syntax.specs.declared.ifc.IfSort.{IfSort}
use Rattle.image_spec.specs.Parse.{mark}
use Rattle.image_spec.specs.Fields.{operator_code_lem, sort_code_lem, newline_code_lem, integer_bytes, identifier_bytes, type_bytes, list_bytes, IdentifierOk, TypeOk}
use Rattle.image_spec.specs.Records.{let', switch, create, invoke, literal, op, ifc, print, record_bytes, RecordOk}
use Rattle.image_spec.proofs.FieldLaws.{identifier-length, type-length}
use Rattle.image_read_parts.specs.Standing.{Stands}

pub stands_here : {A : Type 0} {e : A → List ℕ} {P : A → Type 0} {s : List ℕ} {a : A} (pre post : List ℕ) (n : ℕ) → length pre ≡ n → P a
    → s ≡ pre ++ (e a ++ post) → Stands e P s n a
stands_here {e = e} {s = s} {a = a} pre post n k p q = record { others = post; bytes = ap (drop n) q ∙ drop_at pre (e a ++ post) n k; fits = p }

-- a code, a mark or a count
abbrev pub byte_of : ℕ → List ℕ
byte_of b = b ∷ []

module _ (w : ℕ) where
  pub let_var : (v : Identifier) (t : Ty) (g : Identifier) (Γ : Context) → RecordOk w (let' v t g Γ) → Stands (identifier_bytes w) (IdentifierOk w) (record_bytes w (let' v t g Γ)) 1 v
  unfolding record_bytes RecordOk
  let_var v t g Γ ok = stands_here (4 ∷ []) (type_bytes w t ++ (identifier_bytes w g ++ list_bytes w Γ)) 1 refl ok.0 refl

  pub let_ty : (v : Identifier) (t : Ty) (g : Identifier) (Γ : Context) → RecordOk w (let' v t g Γ) → Stands (type_bytes w) (TypeOk w) (record_bytes w (let' v t g Γ)) (3 + w) t
  unfolding record_bytes RecordOk
  let_ty v t g Γ ok = stands_here (4 ∷ identifier_bytes w v) (identifier_bytes w g ++ list_bytes w Γ) (3 + w) (rw (identifier-length w v) (omega arith)) ok.1.0 refl

  pub let_tag : (v : Identifier) (t : Ty) (g : Identifier) (Γ : Context) → RecordOk w (let' v t g Γ) → Stands (identifier_bytes w) (IdentifierOk w) (record_bytes w (let' v t g Γ)) (6 + (w + w)) g
  unfolding record_bytes RecordOk
  let_tag v t g Γ ok =
      stands_here (4 ∷ (identifier_bytes w v ++ type_bytes w t)) (list_bytes w Γ) (6 + (w + w))
      (rw (length-append (identifier_bytes w v) (type_bytes w t), identifier-length w v, type-length w t) (omega arith)) ok.1.1.0
      (ap (λ z. 4 ∷ z) (sym (append_assoc (identifier_bytes w v) (type_bytes w t) (identifier_bytes w g ++ list_bytes w Γ))))

  pub switch-var : (v : Identifier) (t : Ty) (n : ℕ) → RecordOk w (switch v t n) → Stands (identifier_bytes w) (IdentifierOk w) (record_bytes w (switch v t n)) 1 v
  unfolding record_bytes RecordOk
  switch-var v t n ok = stands_here (5 ∷ []) (type_bytes w t ++ (n ∷ [])) 1 refl ok.0 refl

  pub switch-ty : (v : Identifier) (t : Ty) (n : ℕ) → RecordOk w (switch v t n) → Stands (type_bytes w) (TypeOk w) (record_bytes w (switch v t n)) (3 + w) t
  unfolding record_bytes RecordOk
  switch-ty v t n ok = stands_here (5 ∷ identifier_bytes w v) (n ∷ []) (3 + w) (rw (identifier-length w v) (omega arith)) ok.1.0 refl

  pub create-var : (v : Identifier) (t : Ty) (e : Option Context) (n : ℕ) → RecordOk w (create v t e n) → Stands (identifier_bytes w) (IdentifierOk w) (record_bytes w (create v t e n)) 1 v
  unfolding record_bytes RecordOk
  create-var v t e n ok = stands_here (6 ∷ []) (type_bytes w t ++ (mark (list_bytes w) e ++ (n ∷ []))) 1 refl ok.0 refl

  pub create-ty : (v : Identifier) (t : Ty) (e : Option Context) (n : ℕ) → RecordOk w (create v t e n) → Stands (type_bytes w) (TypeOk w) (record_bytes w (create v t e n)) (3 + w) t
  unfolding record_bytes RecordOk
  create-ty v t e n ok = stands_here (6 ∷ identifier_bytes w v) (mark (list_bytes w) e ++ (n ∷ [])) (3 + w) (rw (identifier-length w v) (omega arith)) ok.1.0 refl

  pub invoke-var : (v g : Identifier) (t : Ty) (Γ : Context) → RecordOk w (invoke v g t Γ) → Stands (identifier_bytes w) (IdentifierOk w) (record_bytes w (invoke v g t Γ)) 1 v
  unfolding record_bytes RecordOk
  invoke-var v g t Γ ok = stands_here (7 ∷ []) (identifier_bytes w g ++ (type_bytes w t ++ list_bytes w Γ)) 1 refl ok.0 refl

  pub invoke-tag : (v g : Identifier) (t : Ty) (Γ : Context) → RecordOk w (invoke v g t Γ) → Stands (identifier_bytes w) (IdentifierOk w) (record_bytes w (invoke v g t Γ)) (3 + w) g
  unfolding record_bytes RecordOk
  invoke-tag v g t Γ ok = stands_here (7 ∷ identifier_bytes w v) (type_bytes w t ++ list_bytes w Γ) (3 + w) (rw (identifier-length w v) (omega arith)) ok.1.0 refl

  pub invoke-ty : (v g : Identifier) (t : Ty) (Γ : Context) → RecordOk w (invoke v g t Γ) → Stands (type_bytes w) (TypeOk w) (record_bytes w (invoke v g t Γ)) (5 + (w + w)) t
  unfolding record_bytes RecordOk
  invoke-ty v g t Γ ok =
      stands_here (7 ∷ (identifier_bytes w v ++ identifier_bytes w g)) (list_bytes w Γ) (5 + (w + w))
      (rw (length-append (identifier_bytes w v) (identifier_bytes w g), identifier-length w v, identifier-length w g) (omega arith)) ok.1.1.0
      (ap (λ z. 7 ∷ z) (sym (append_assoc (identifier_bytes w v) (identifier_bytes w g) (type_bytes w t ++ list_bytes w Γ))))

  pub literal-integer : (z : ℤ) (v : Identifier) → RecordOk w (literal z v) → Stands (integer_bytes) (SFits w64) (record_bytes w (literal z v)) 1 z
  unfolding record_bytes RecordOk
  literal-integer z v ok = stands_here (8 ∷ []) (identifier_bytes w v) 1 refl ok.0 refl

  pub literal-var : (z : ℤ) (v : Identifier) → RecordOk w (literal z v) → Stands (identifier_bytes w) (IdentifierOk w) (record_bytes w (literal z v)) 9 v
  unfolding record_bytes RecordOk
  literal-var z v ok = stands_here (8 ∷ integer_bytes z) ([]) 9 refl ok.1 (ap (λ l. 8 ∷ integer_bytes z ++ l) (sym (append-nil (identifier_bytes w v))))

  pub op-fst : (f : Identifier) (o : BinOp) (s v : Identifier) → RecordOk w (op f o s v) → Stands (identifier_bytes w) (IdentifierOk w) (record_bytes w (op f o s v)) 1 f
  unfolding record_bytes RecordOk
  op-fst f o s v ok = stands_here (9 ∷ []) ((operator_code_lem o ∷ []) ++ (identifier_bytes w s ++ identifier_bytes w v)) 1 refl ok.0 refl

  pub op-code : (f : Identifier) (o : BinOp) (s v : Identifier) → RecordOk w (op f o s v) → Stands (byte_of) (λ _. Unit {0}) (record_bytes w (op f o s v)) (3 + w) (operator_code_lem o)
  unfolding record_bytes RecordOk
  op-code f o s v ok = stands_here (9 ∷ identifier_bytes w f) (identifier_bytes w s ++ identifier_bytes w v) (3 + w) (rw (identifier-length w f) (omega arith)) ok.1.0 refl

  pub op-snd : (f : Identifier) (o : BinOp) (s v : Identifier) → RecordOk w (op f o s v) → Stands (identifier_bytes w) (IdentifierOk w) (record_bytes w (op f o s v)) (4 + w) s
  unfolding record_bytes RecordOk
  op-snd f o s v ok =
      stands_here (9 ∷ (identifier_bytes w f ++ (operator_code_lem o ∷ []))) (identifier_bytes w v) (4 + w)
      (rw (length-append (identifier_bytes w f) (operator_code_lem o ∷ []), identifier-length w f) (omega arith)) ok.1.1.0
      (ap (λ z. 9 ∷ z) (sym (append_assoc (identifier_bytes w f) (operator_code_lem o ∷ []) (identifier_bytes w s ++ identifier_bytes w v))))

  pub op-var : (f : Identifier) (o : BinOp) (s v : Identifier) → RecordOk w (op f o s v) → Stands (identifier_bytes w) (IdentifierOk w) (record_bytes w (op f o s v)) (6 + (w + w)) v
  unfolding record_bytes RecordOk
  op-var f o s v ok =
      stands_here (9 ∷ (identifier_bytes w f ++ (operator_code_lem o ∷ identifier_bytes w s))) ([]) (6 + (w + w))
      (rw (length-append (identifier_bytes w f) (operator_code_lem o ∷ identifier_bytes w s), identifier-length w f, identifier-length w s) (omega arith)) ok.1.1.1
      (ap (λ z. 9 ∷ z) (sym (append_assoc (identifier_bytes w f) (operator_code_lem o ∷ identifier_bytes w s) (identifier_bytes w v ++ [])
      ∙ ap (λ l. identifier_bytes w f ++ (operator_code_lem o ∷ (identifier_bytes w s ++ l))) (append-nil (identifier_bytes w v)))))

  pub ifc-code : (c : IfSort) (f : Identifier) (s : Option Identifier) → RecordOk w (ifc c f s) → Stands (byte_of) (λ _. Unit {0}) (record_bytes w (ifc c f s)) 1 (sort_code_lem c)
  unfolding record_bytes RecordOk
  ifc-code c f s ok = stands_here (10 ∷ []) (identifier_bytes w f ++ mark (identifier_bytes w) s) 1 refl ok.0 refl

  pub ifc-fst : (c : IfSort) (f : Identifier) (s : Option Identifier) → RecordOk w (ifc c f s) → Stands (identifier_bytes w) (IdentifierOk w) (record_bytes w (ifc c f s)) 2 f
  unfolding record_bytes RecordOk
  ifc-fst c f s ok = stands_here (10 ∷ sort_code_lem c ∷ []) (mark (identifier_bytes w) s) 2 refl ok.1.0 refl

  pub print-code : (n : Bool) (v : Identifier) → RecordOk w (print n v) → Stands (byte_of) (λ _. Unit {0}) (record_bytes w (print n v)) 1 (newline_code_lem n)
  unfolding record_bytes RecordOk
  print-code n v ok = stands_here (12 ∷ []) (identifier_bytes w v) 1 refl ok.0 refl
