-- What is asked of the IDs of a statement, by the kind of its record. Assumes nothing.
use Prim.Native.Nat.{ℕ}
use mathlib.Core.Path.{◌≡◌, refl, sym, ap, ap₂, ◌∙◌}
use mathlib.Core.Bool.{Bool, true, false, ◌&&◌, and-true}
use mathlib.Core.Logic.{◌⊎◌, inl, inr}
use mathlib.Core.List.{List, [], ◌∷◌}
use mathlib.Core.Option.{Option, none, some}
use lib.ListN.{get_or}
use Rattle.syntax.specs.Sets.{elem, distinct}
use Rattle.syntax.specs.Context.{Context, ids}
use Rattle.syntax.specs.declared.names.VarId.{VarId}
use Rattle.syntax.specs.declared.names.Identifier.{Identifier}
use Rattle.syntax.specs.declared.op.BinOp.{BinOp}
use Rattle.syntax.specs.declared.ifc.IfSort.{IfSort}
use Rattle.model.specs.FreeVars.{optional_id}
use Rattle.model.specs.Linear.{ends_in_lem, present, targets, sources}
use Rattle.image_spec.specs.Records.{Record, definition, substitute, call, let', switch, create, invoke, literal, op, ifc, clause', print, exit}
use Rattle.image_spec.specs.Kinds.{kind_of}
use Rattle.image_kinds.specs.Codes.{code_of}
use Rattle.image_kinds.specs.declared.kinds.Kind.{Kind}
use Rattle.image_read_parts.specs.Parts.{list_of}
use Rattle.image_read_nodes.specs.Nodes.{first_of, operand_of, target_of, second_of}
use Rattle.step_rows.specs.RecordRows.{pairs_of, environment_of}
use Rattle.step_order.specs.Orderly.{added, replaced, orderly}

-- of a Create
abbrev pub replaced_if : Option Context → List VarId → VarId → Bool
replaced_if none l x = false
replaced_if (some Γ) l x = replaced (ids Γ) l x

-- by kind
abbrev pub asked : Record → List VarId → List Bool
asked r l =
    let x = (first_of r).id in
    false
    ∷ false
    ∷ (distinct (targets (pairs_of r)) && present (sources (pairs_of r)) l)
    ∷ true
    ∷ replaced (ids (list_of r)) l x
    ∷ ends_in_lem (x ∷ []) l
    ∷ replaced_if (environment_of r) l x
    ∷ ends_in_lem (x ∷ []) l
    ∷ added l x
    ∷ (present (x ∷ (operand_of r).id ∷ []) l && added l (target_of r).id)
    ∷ present (x ∷ optional_id (second_of r)) l
    ∷ false
    ∷ present (x ∷ []) l
    ∷ present (x ∷ []) l
    ∷ []

by_kind : (r : Record) (l : List VarId) → orderly r l ≡ get_or (asked r l) (kind_of r) false
unfolding orderly
by_kind (definition x Γ) l = refl
by_kind (substitute ps) l = refl
by_kind (call x Γ) l = refl
by_kind (let' v t g Γ) l = refl
by_kind (switch v t n) l = refl
by_kind (create v t none n) l = refl
by_kind (create v t (some Γ) n) l = refl
by_kind (invoke v g t Γ) l = refl
by_kind (literal z v) l = refl
by_kind (op f o s v) l = refl
by_kind (ifc c f s) l = refl
by_kind (clause' x Γ) l = refl
by_kind (print n v) l = refl
by_kind (exit v) l = refl

pub of-kind : (r : Record) (l : List VarId) (k : ℕ) → kind_of r ≡ k → orderly r l ≡ get_or (asked r l) k false
of-kind r l k e = by_kind r l ∙ ap (λ (i : ℕ). get_or (asked r l) i false) e

-- ---- the answers of code, statement by statement

module _ (r : Record) (l : List VarId) where
  pub substitute_is : kind_of r ≡ 2 → orderly r l ≡ (distinct (targets (pairs_of r)) && present (sources (pairs_of r)) l)
  substitute_is k = of-kind r l 2 k

  pub call_is : kind_of r ≡ 3 → orderly r l ≡ true
  call_is k = of-kind r l 3 k

  pub let_is : {xs : List VarId} {v : Identifier} → kind_of r ≡ 4 → xs ≡ ids (list_of r) → v ≡ first_of r → orderly r l ≡ replaced xs l v.id
  let_is k e f = of-kind r l 4 k ∙ sym (ap₂ {C = Bool} (λ (ys : List VarId) (w : Identifier). replaced ys l w.id) e f)

  pub create_none : kind_of r ≡ 6 → environment_of r ≡ none → orderly r l ≡ false
  create_none k e = of-kind r l 6 k ∙ ap (λ (o : Option Context). replaced_if o l (first_of r).id) e

  pub create_is : {xs : List VarId} {v : Identifier} (Γ : Context) → kind_of r ≡ 6 → environment_of r ≡ some Γ → xs ≡ ids Γ → v ≡ first_of r → orderly r l ≡ replaced xs l v.id
  create_is Γ k o e f =
      of-kind r l 6 k ∙ (ap (λ (z : Option Context). replaced_if z l (first_of r).id) o
      ∙ sym (ap₂ {C = Bool} (λ (ys : List VarId) (w : Identifier). replaced ys l w.id) e f))

  -- Switch and Invoke
  pub last_is : (kind_of r ≡ 5) ⊎ (kind_of r ≡ 7) → orderly r l ≡ ends_in_lem ((first_of r).id ∷ []) l
  last_is (inl k) = of-kind r l 5 k
  last_is (inr k) = of-kind r l 7 k

  pub literal_is : {v : Identifier} → kind_of r ≡ 8 → v ≡ first_of r → orderly r l ≡ added l v.id
  literal_is k f = of-kind r l 8 k ∙ sym (ap (λ (w : Identifier). added l w.id) f)

  pub op_is : {f s v : Identifier} {o : BinOp} → r ≡ op f o s v → orderly r l ≡ ((elem f.id l && elem s.id l) && added l v.id)
  unfolding orderly
  op_is {f} {s} {v} e = ap (λ (z : Record). orderly z l) e ∙ ap (λ (b : Bool). (elem f.id l && b) && added l v.id) (and-true (elem s.id l))

  pub ifc_is : {f : Identifier} {s : Option Identifier} {c : IfSort} → r ≡ ifc c f s → orderly r l ≡ (elem f.id l && present (optional_id s) l)
  unfolding orderly
  ifc_is e = ap (λ (z : Record). orderly z l) e

  -- PrintI64 and Exit
  pub present_is : (kind_of r ≡ 12) ⊎ (kind_of r ≡ 13) → orderly r l ≡ elem (first_of r).id l
  present_is (inl k) = of-kind r l 12 k ∙ and-true (elem (first_of r).id l)
  present_is (inr k) = of-kind r l 13 k ∙ and-true (elem (first_of r).id l)

  -- a definition and a clause are no statements
  pub other_is : (kind_of r ≡ 1) ⊎ (kind_of r ≡ 11) → orderly r l ≡ false
  other_is (inl k) = of-kind r l 1 k
  other_is (inr k) = of-kind r l 11 k

-- the byte of one of two kinds
pub two-codes : {n : ℕ} {k a b : Kind} → n ≡ code_of k → (k ≡ a) ⊎ (k ≡ b) → (n ≡ code_of a) ⊎ (n ≡ code_of b)
two-codes e (inl q) = inl (e ∙ ap code_of q)
two-codes e (inr q) = inr (e ∙ ap code_of q)
