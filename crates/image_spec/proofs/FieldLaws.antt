-- Reading a part of a record is exact for writing it, at every width of IDs; and how many bytes each part has. Assumes nothing.
use Prim.Native.Nat.{ℕ, zero, suc, ◌+◌, ◌/◌}
use mathlib.Core.Bool.{Bool, true, false}
use mathlib.Core.List.{List, [], ◌∷◌, ◌++◌}
use mathlib.Core.Path.{◌≡◌, refl, ap, sym, ◌∙◌}
use native.Mathlib.Omega.{arith}
use lib.ListN.{length, length-append, length-replicate}
use mir.Syntax.{w64}
use mir.Val.{Fits, SFits, of_z, to_z}
use mir.ValLaws.{to_z-Fits, to_z-of_z, of_z-to_z, of_z_fits}
use Rattle.syntax.specs.declared.names.Identifier.{Identifier}
use Rattle.syntax.specs.declared.types.Ty.{Ty}
use Rattle.syntax.specs.declared.types.Ty.TheVariants.{I64, Decl}
use Rattle.syntax.specs.declared.context.Chirality.{Chirality}
use Rattle.syntax.specs.declared.context.Chirality.TheVariants.{Prd, Cns, Ext}
use Rattle.syntax.specs.declared.context.ContextBinding.{ContextBinding}
use Rattle.syntax.specs.declared.op.BinOp.{BinOp}
use Rattle.syntax.specs.declared.op.BinOp.TheVariants.{Div, Prod, Rem, Sum, Sub}
use Rattle.syntax.specs.declared.ifc.IfSort.{IfSort}
use Rattle.syntax.specs.declared.ifc.IfSort.TheVariants.{Equal, NotEqual, Less, LessOrEqual, Greater, GreaterOrEqual}
use mathlib.Core.Option.{some}
use Rattle.image_spec.specs.Parse.{got, field, numbered, one_of}
use Rattle.image_spec.specs.Fields.{max_count, chirality_code_lem, operator_code_lem, sort_code_lem, newlines, newline_code_lem, integer_bytes, identifier_bytes, type_bytes, binding_bytes, list_bytes, pair_bytes}
use Rattle.image_spec.specs.Fields.{IdentifierOk, TypeOk, BindingOk, ListOk, PairOk, integer, identifier, type, binding, list, pair}
use Rattle.syntax.specs.Codes.{chiralities, operators, sorts}
use Rattle.image_spec.proofs.ParseLaws.{Sound, none_read, one-read, Exact, following, both_exact, via_exact, number_exact, zeros_exact, one_of_exact, counted_exact}

-- ---- codes

pub chirality-back : (c : Chirality) → numbered chiralities (chirality_code_lem c) ≡ some c
chirality-back Prd = refl
chirality-back Cns = refl
chirality-back Ext = refl

pub chirality_exact : Exact (λ c. chirality_code_lem c ∷ []) (λ _. Unit {0}) (one_of chiralities)
chirality_exact = one_of_exact chirality_code_lem chiralities (refl, (refl, (refl, tt))) chirality-back

pub operator_exact : Exact (λ o. operator_code_lem o ∷ []) (λ _. Unit {0}) (one_of operators)
operator_exact = one_of_exact operator_code_lem operators (refl, (refl, (refl, (refl, (refl, tt))))) back
  where
    back : (o : BinOp) → numbered operators (operator_code_lem o) ≡ some o
    back Div = refl
    back Prod = refl
    back Rem = refl
    back Sum = refl
    back Sub = refl

pub sort_exact : Exact (λ c. sort_code_lem c ∷ []) (λ _. Unit {0}) (one_of sorts)
sort_exact = one_of_exact sort_code_lem sorts (refl, (refl, (refl, (refl, (refl, (refl, tt)))))) back
  where
    back : (c : IfSort) → numbered sorts (sort_code_lem c) ≡ some c
    back Equal = refl
    back NotEqual = refl
    back Less = refl
    back LessOrEqual = refl
    back Greater = refl
    back GreaterOrEqual = refl

pub newline_exact : Exact (λ n. newline_code_lem n ∷ []) (λ _. Unit {0}) (one_of newlines)
newline_exact = one_of_exact newline_code_lem newlines (refl, (refl, tt)) back
  where
    back : (n : Bool) → numbered newlines (newline_code_lem n) ≡ some n
    back false = refl
    back true = refl

pub integer_exact : Exact integer_bytes (SFits w64) integer
unfolding integer
integer_exact =
    via_exact (to_z w64) (of_z w64) (number_exact 8)
    (λ z f. ((of_z_fits w64 z f).fits, to_z-of_z w64 z f, refl))
    (λ n h. let f : Fits w64 n = record { fits = h } in (to_z-Fits w64 n f, ap (field 8) (sym (of_z-to_z w64 n f))))

-- ---- parts with IDs of w bytes

module _ (w : ℕ) where
  pub identifier_exact : Exact (identifier_bytes w) (IdentifierOk w) (identifier w)
  unfolding identifier
  identifier_exact = via_exact _ (λ x. (x.name.0, x.id.0)) (both_exact (number_exact 2) (number_exact w)) (λ b o. (o, refl, refl)) (λ a o. (o, refl))

  pub type_exact : Exact (type_bytes w) (TypeOk w) (type w)
  unfolding type
  type_exact = record { left = left; right = right }
    where
      left : (t : Ty) → TypeOk w t → (l : List ℕ) → type w (type_bytes w t ++ l) ≡ got t l
      left I64 o l = rw ((zeros_exact (2 + w)).left tt tt l)
      left (Decl x) o l = rw (identifier_exact.left x o l)

      right : (l : List ℕ) → Sound (type_bytes w) (TypeOk w) l (type w l)
      right [] = none_read
      right (zero ∷ l) = following _ ((zeros_exact (2 + w)).right l) (λ _ m _ e. one-read tt (ap (λ z. 0 ∷ z) e))
      right (suc zero ∷ l) = following _ (identifier_exact.right l) (λ i m o e. one-read o (ap (λ z. 1 ∷ z) e))
      right (suc (suc b) ∷ l) = none_read

  pub binding_exact : Exact (binding_bytes w) (BindingOk w) (binding w)
  unfolding binding
  binding_exact =
      via_exact _ (λ b. (b.var, (b.chi, b.ty))) (both_exact identifier_exact (both_exact chirality_exact type_exact))
      (λ b o. (o, refl, refl)) (λ a o. (o, refl))

  pub list_exact : Exact (list_bytes w) (ListOk w) (list w)
  unfolding list
  list_exact = counted_exact binding_exact max_count

  pub pair_exact : Exact (pair_bytes w) (PairOk w) (pair w)
  unfolding pair
  pair_exact = both_exact binding_exact identifier_exact

-- ---- lengths

pub field-length : (w n : ℕ) → length (field w n) ≡ w
field-length zero n = refl
field-length (suc w) n = ap suc (field-length w (n / 256))

module _ (w : ℕ) where
  pub identifier-length : (x : Identifier) → length (identifier_bytes w x) ≡ 2 + w
  identifier-length x = length-append (field 2 x.name.0) (field w x.id.0) ∙ rw (field-length w x.id.0)

  pub type-length : (t : Ty) → length (type_bytes w t) ≡ 3 + w
  type-length I64 = simp (length-replicate) (omega arith)
  type-length (Decl x) = rw (identifier-length x) (omega arith)

  pub binding-length : (b : ContextBinding) → length (binding_bytes w b) ≡ 6 + (w + w)
  binding-length b =
      simp (length-append, type-length, field-length) (omega arith)

  pub pair-length : (p : ContextBinding × Identifier) → length (pair_bytes w p) ≡ 8 + (w + (w + w))
  pair-length p = omega (arith, length-append (binding_bytes w p.0) (identifier_bytes w p.1), binding-length p.0, identifier-length p.1)
