-- Where the count and the bindings of a list stand in the bytes of a record: at the end of its fixed part. A record at an index is within the
-- layout's limits. w is the number of bytes of an ID. Assumes nothing.
use Prim.Native.Nat.{ℕ, zero, suc, ◌+◌, ◌*◌, ◌<◌}
use mathlib.Core.List.{List, [], ◌∷◌}
use mathlib.Core.Path.{◌≡◌, ap, sym, ◌∙◌}
use native.Mathlib.Omega.{arith}
use native.Mathlib.Nat.{suc-mul, zero-mul}
use lib.ListN.{length, drop, get_or}
use lib.Seq.{drop-drop, drop_at}
use Rattle.syntax.specs.Context.{Context}
use Rattle.syntax.specs.declared.context.ContextBinding.{ContextBinding}
use Rattle.image_spec.specs.Parse.{each, All}
use Rattle.image_spec.specs.Fields.{binding_bytes, list_bytes, BindingOk, ListOk}
use Rattle.image_spec.specs.Records.{Record, record_bytes, RecordOk}
use Rattle.image_spec.specs.Kinds.{kind_of, fixed, tail_bytes}
use Rattle.image_spec.proofs.FieldLaws.{binding-length}
use Rattle.image_spec.proofs.KindLaws.{tail_at}
use Rattle.image_directory.specs.Slots.{records_in, Ready}
use Rattle.image_directory.specs.declared.Frame.{Frame}
use Rattle.image_directory.proofs.Places.{seen}
use Rattle.image_read_parts.specs.Standing.{Stands, head_of}
use Rattle.image_read_parts.proofs.PartPlaces.{byte_of}

pub record_ok : (g : Frame) (s : List ℕ) (i : ℕ) → Ready g s → i < g.count → RecordOk g.id (head_of (drop i (records_in g s)))
record_ok g s i h t = let v = seen g s i h t in rw v.list v.ok

module _ (w : ℕ) where
  -- the j-th of bindings that are written one after the other
  each_at : (Γ : Context) (j : ℕ) (d : ContextBinding) → j < length Γ → All (BindingOk w) Γ
      → Stands (binding_bytes w) (BindingOk w) (each (binding_bytes w) Γ) (j * (6 + (w + w))) (get_or Γ j d)
  each_at [] j d h ok = absurd (omega arith)
  each_at (b ∷ Γ) zero d h ok = record { others = each (binding_bytes w) Γ; bytes = ap (λ n. drop n (each (binding_bytes w) (b ∷ Γ))) (zero-mul (6 + (w + w))); fits = ok.0 }
  each_at (b ∷ Γ) (suc j) d h ok =
      let r = each_at Γ j d (omega arith) ok.1 in
      let n : suc j * (6 + (w + w)) ≡ 6 + (w + w) + j * (6 + (w + w)) = rw suc-mul (omega arith) in
      record {
        others = r.others;
        bytes = ap (λ n. drop n (each (binding_bytes w) (b ∷ Γ))) n ∙ (sym (drop-drop (j * (6 + (w + w))) (6 + (w + w)) _)
            ∙ (ap (drop (j * (6 + (w + w)))) (drop_at (binding_bytes w b) (each (binding_bytes w) Γ) (6 + (w + w)) (binding-length w b)) ∙ r.bytes));
        fits = r.fits;
      }

  -- .. of a list, behind its count
  pub list_place : (Γ : Context) (j : ℕ) (d : ContextBinding) → j < length Γ → ListOk w Γ
      → Stands (binding_bytes w) (BindingOk w) (list_bytes w Γ) (1 + j * (6 + (w + w))) (get_or Γ j d)
  list_place Γ j d h ok =
      let b = each_at Γ j d h ok.1 in
      record { others = b.others; bytes = sym (drop-drop (j * (6 + (w + w))) 1 (list_bytes w Γ)) ∙ b.bytes; fits = b.fits }

  -- a record whose tail is a list: definition, Call, Let, Invoke, clause
  module _ (r : Record) (Γ : Context) (is : tail_bytes w r ≡ list_bytes w Γ) where
    pub list_count : Stands byte_of (λ _. Unit {0}) (record_bytes w r) (fixed w (kind_of r)) (length Γ)
    list_count = record { others = each (binding_bytes w) Γ; bytes = tail_at w r ∙ is; fits = tt }

    pub list-binding : (j : ℕ) (d : ContextBinding) → j < length Γ → ListOk w Γ
        → Stands (binding_bytes w) (BindingOk w) (record_bytes w r) (fixed w (kind_of r) + (1 + j * (6 + (w + w)))) (get_or Γ j d)
    list-binding j d h ok =
        let b = list_place Γ j d h ok in
        record {
          others = b.others;
          bytes = sym (drop-drop (1 + j * (6 + (w + w))) (fixed w (kind_of r)) (record_bytes w r)) ∙ (ap (drop (1 + j * (6 + (w + w)))) (tail_at w r ∙ is) ∙ b.bytes);
          fits = b.fits;
        }
