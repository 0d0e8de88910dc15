-- The flat records of the thirteen kinds: how each is written, what the layout can hold, and how each is read (question 4).
-- w is the number of bytes of an ID.
use Rattle.std.specs.Prelude.{ℕ, ◌≤◌, Bool, List, [], ◌∷◌, ◌++◌, ℤ, length, get_or}
use Rattle.std.proofs.Math.Option.{Option}
use Rattle.std.specs.Int.{w64}
use Rattle.std.proofs.Common.{SFits}
use Rattle.syntax.specs.Context.{Context}
use Rattle.syntax.specs.declared.names.Identifier.{Identifier}
use Rattle.syntax.specs.declared.types.Ty.{Ty}
use Rattle.syntax.specs.declared.context.ContextBinding.{ContextBinding}
use Rattle.syntax.specs.declared.op.BinOp.{BinOp}
use Rattle.syntax.specs.declared.ifc.IfSort.{IfSort}
use Rattle.image_spec.specs.Parse.{refused, Parser, via, both, each, All, code, one_of, counted, marked, mark, Marked, whole}
use Rattle.image_spec.specs.Fields.{max_count, operator_code_lem, sort_code_lem, newlines, newline_code_lem, integer_bytes, identifier_bytes, type_bytes, list_bytes, pair_bytes}
use Rattle.image_spec.specs.Fields.{IdentifierOk, TypeOk, ListOk, PairOk, integer, identifier, type, list, pair}
use Rattle.syntax.specs.Codes.{operators, sorts}

-- a record without what follows it: a Switch or a Create has the number of its clauses
pub data Record : Type 0 where
  definition : (name : Identifier) (context : Context) → Record
  substitute : (rearrange : List (ContextBinding × Identifier)) → Record
  call : (label : Identifier) (args : Context) → Record
  let' : (var : Identifier) (ty : Ty) (tag : Identifier) (args : Context) → Record
  switch : (var : Identifier) (ty : Ty) (clauses : ℕ) → Record
  create : (var : Identifier) (ty : Ty) (environment : Option Context) (clauses : ℕ) → Record
  invoke : (var : Identifier) (tag : Identifier) (ty : Ty) (args : Context) → Record
  literal : (lit : ℤ) (var : Identifier) → Record
  op : (fst : Identifier) (op : BinOp) (snd : Identifier) (var : Identifier) → Record
  ifc : (sort : IfSort) (fst : Identifier) (snd : Option Identifier) → Record
  clause' : (xtor : Identifier) (context : Context) → Record
  print : (newline : Bool) (var : Identifier) → Record
  exit : (var : Identifier) → Record

module _ (w : ℕ) where
  -- document 01, "The image": each record opens with a kind byte
  unfoldable pub record_bytes : Record → List ℕ
  -- 1 definition: name, list
  record_bytes (definition x Γ) = 1 ∷ (identifier_bytes w x ++ list_bytes w Γ)
  -- 2 Substitute: count byte, pairs of binding and identifier
  record_bytes (substitute ps) = 2 ∷ (length ps ∷ each (pair_bytes w) ps)
  -- 3 Call: label, list
  record_bytes (call x Γ) = 3 ∷ (identifier_bytes w x ++ list_bytes w Γ)
  -- 4 Let: var, type, tag, list
  record_bytes (let' v t g Γ) = 4 ∷ (identifier_bytes w v ++ (type_bytes w t ++ (identifier_bytes w g ++ list_bytes w Γ)))
  -- 5 Switch: var, type, clause count byte
  record_bytes (switch v t n) = 5 ∷ (identifier_bytes w v ++ (type_bytes w t ++ (n ∷ [])))
  -- 6 Create: var, type, environment mark byte (0 none, 1 and a list), clause count byte
  record_bytes (create v t e n) = 6 ∷ (identifier_bytes w v ++ (type_bytes w t ++ (mark (list_bytes w) e ++ (n ∷ []))))
  -- 7 Invoke: var, tag, type, list
  record_bytes (invoke v g t Γ) = 7 ∷ (identifier_bytes w v ++ (identifier_bytes w g ++ (type_bytes w t ++ list_bytes w Γ)))
  -- 8 Literal: eight bytes, signed; var
  record_bytes (literal z v) = 8 ∷ (integer_bytes z ++ identifier_bytes w v)
  -- 9 Op: fst, byte 0 to 4, snd, var
  record_bytes (op f o s v) = 9 ∷ (identifier_bytes w f ++ ((operator_code_lem o ∷ []) ++ (identifier_bytes w s ++ identifier_bytes w v)))
  -- 10 IfC: byte 0 to 5, fst, mark byte, snd if the mark is 1
  record_bytes (ifc c f s) = 10 ∷ ((sort_code_lem c ∷ []) ++ (identifier_bytes w f ++ mark (identifier_bytes w) s))
  -- 11 clause: xtor, list
  record_bytes (clause' x Γ) = 11 ∷ (identifier_bytes w x ++ list_bytes w Γ)
  -- document 02, A.1: PrintI64, kind 12 (newline byte 0 or 1, var)
  record_bytes (print n v) = 12 ∷ ((newline_code_lem n ∷ []) ++ identifier_bytes w v)
  -- document 02, A.1: Exit, kind 13 (var)
  record_bytes (exit v) = 13 ∷ identifier_bytes w v

  -- what a record of the layout can hold
  unfoldable pub RecordOk : Record → Type 0
  RecordOk (definition x Γ) = IdentifierOk w x × ListOk w Γ
  RecordOk (substitute ps) = (length ps ≤ max_count) × All (PairOk w) ps
  RecordOk (call x Γ) = IdentifierOk w x × ListOk w Γ
  RecordOk (let' v t g Γ) = IdentifierOk w v × (TypeOk w t × (IdentifierOk w g × ListOk w Γ))
  RecordOk (switch v t n) = IdentifierOk w v × (TypeOk w t × (n ≤ max_count))
  RecordOk (create v t e n) = IdentifierOk w v × (TypeOk w t × (Marked (ListOk w) e × (n ≤ max_count)))
  RecordOk (invoke v g t Γ) = IdentifierOk w v × (IdentifierOk w g × (TypeOk w t × ListOk w Γ))
  RecordOk (literal z v) = SFits w64 z × IdentifierOk w v
  RecordOk (op f o s v) = IdentifierOk w f × (Unit {0} × (IdentifierOk w s × IdentifierOk w v))
  RecordOk (ifc c f s) = Unit {0} × (IdentifierOk w f × Marked (IdentifierOk w) s)
  RecordOk (clause' x Γ) = IdentifierOk w x × ListOk w Γ
  RecordOk (print n v) = Unit {0} × IdentifierOk w v
  RecordOk (exit v) = IdentifierOk w v

  -- what follows the kind byte, by kind from 0, which is none
  unfoldable pub contents : List (Parser ℕ Record)
  contents =
      (λ _. refused)
      ∷ via (λ t. definition t.0 t.1) (both (identifier w) (list w))
      ∷ via substitute (counted max_count (pair w))
      ∷ via (λ t. call t.0 t.1) (both (identifier w) (list w))
      ∷ via (λ t. let' t.0 t.1.0 t.1.1.0 t.1.1.1) (both (identifier w) (both (type w) (both (identifier w) (list w))))
      ∷ via (λ t. switch t.0 t.1.0 t.1.1) (both (identifier w) (both (type w) (code max_count)))
      ∷ via (λ t. create t.0 t.1.0 t.1.1.0 t.1.1.1) (both (identifier w) (both (type w) (both (marked (list w)) (code max_count))))
      ∷ via (λ t. invoke t.0 t.1.0 t.1.1.0 t.1.1.1) (both (identifier w) (both (identifier w) (both (type w) (list w))))
      ∷ via (λ t. literal t.0 t.1) (both integer (identifier w))
      ∷ via (λ t. op t.0 t.1.0 t.1.1.0 t.1.1.1) (both (identifier w) (both (one_of operators) (both (identifier w) (identifier w))))
      ∷ via (λ t. ifc t.0 t.1.0 t.1.1) (both (one_of sorts) (both (identifier w) (marked (identifier w))))
      ∷ via (λ t. clause' t.0 t.1) (both (identifier w) (list w))
      ∷ via (λ t. print t.0 t.1) (both (one_of newlines) (identifier w))
      ∷ via exit (identifier w)
      ∷ []

  -- document 01, question 4: is each record of kind 1 to 11 (document 02, A.1: 1 to 13) ..
  unfoldable pub content : ℕ → Parser ℕ Record
  content k = get_or contents k (λ _. refused)

  unfoldable pub one_record : Parser ℕ Record
  one_record [] = refused
  one_record (k ∷ l) = content k l

  -- .. of exactly its length, every count at most 128, every code and mark in range, I64's four bytes zero?
  unfoldable pub decode_record : List ℕ → Option Record
  decode_record l = whole (one_record l)
