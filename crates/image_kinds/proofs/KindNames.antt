-- The kinds by name and by byte: a byte belongs to one kind, and a record's kind by name has the record's kind byte. Assumes nothing.
use Rattle.std.specs.Prelude.{Result, Ok, Err}
use Prim.Native.Nat.{ℕ, ◌+◌, ◌<◌}
use mathlib.Core.List.{List, [], ◌∷◌}
use mathlib.Core.Path.{◌≡◌, refl, ap, sym, ◌∙◌}
use native.Mathlib.Omega.{arith}
use lib.ListN.{get_or}
use Rattle.image_spec.specs.Records.{Record, definition, substitute, call, let', switch, create, invoke, literal, op, ifc, clause', print, exit}
use Rattle.image_spec.specs.Kinds.{kind_of}
use Rattle.image_spec.proofs.KindLaws.{kind-below}
use denote.Enum.Declared.{tag_of}
use Rattle.image_kinds.specs.contracts.kinds.Kind.{the_type as kind_type}
use Rattle.syntax.specs.declared.codes.NoCode.{NoCode}
use Rattle.image_kinds.specs.Codes.{code_of, named_kind, Decodes}
use Rattle.image_kinds.specs.declared.kinds.Kind.{Kind}
use Rattle.image_kinds.specs.declared.kinds.Kind.TheVariants.{Definition, Substitute, Call, Let, Switch, Create, Invoke, Literal, Op, IfC, Clause, Print, Exit}

pub kind-code : (r : Record) → code_of (named_kind r) ≡ kind_of r
kind-code (definition x Γ) = refl
kind-code (substitute ps) = refl
kind-code (call x Γ) = refl
kind-code (let' v t g Γ) = refl
kind-code (switch v t n) = refl
kind-code (create v t e n) = refl
kind-code (invoke v g t Γ) = refl
kind-code (literal z v) = refl
kind-code (op f o s v) = refl
kind-code (ifc c f s) = refl
kind-code (clause' x Γ) = refl
kind-code (print n v) = refl
kind-code (exit v) = refl

-- by the byte, from 0
abbrev named : List Kind
named = Exit ∷ Definition ∷ Substitute ∷ Call ∷ Let ∷ Switch ∷ Create ∷ Invoke ∷ Literal ∷ Op ∷ IfC ∷ Clause ∷ Print ∷ Exit ∷ []

named-code : (k : Kind) → get_or named (code_of k) Exit ≡ k
named-code Definition = refl
named-code Substitute = refl
named-code Call = refl
named-code Let = refl
named-code Switch = refl
named-code Create = refl
named-code Invoke = refl
named-code Literal = refl
named-code Op = refl
named-code IfC = refl
named-code Clause = refl
named-code Print = refl
named-code Exit = refl

-- a byte belongs to one kind
pub same_code : (a b : Kind) → code_of a ≡ code_of b → a ≡ b
same_code a b e = sym (named-code a) ∙ (ap (λ k. get_or named k Exit) e ∙ named-code b)

-- a kind whose byte is a record's is the record's kind
pub code-kind : (k : Kind) (r : Record) → code_of k ≡ kind_of r → k ≡ named_kind r
code-kind k r e = same_code k (named_kind r) (e ∙ sym (kind-code r))

-- no kind's byte is 0
pub code_above : (k : Kind) → 0 < code_of k
code_above Definition = omega arith
code_above Substitute = omega arith
code_above Call = omega arith
code_above Let = omega arith
code_above Switch = omega arith
code_above Create = omega arith
code_above Invoke = omega arith
code_above Literal = omega arith
code_above Op = omega arith
code_above IfC = omega arith
code_above Clause = omega arith
code_above Print = omega arith
code_above Exit = omega arith

-- the byte of a record's kind decodes, to that kind
pub record-decodes : (r : Record) {k : ℕ} (o : Result Kind NoCode) → k ≡ kind_of r → Decodes k o → o ≡ Ok (named_kind r)
record-decodes r (Ok x) e d = ap Ok (code-kind x r (d ∙ e))
record-decodes r (Err x) e d = absurd (omega (arith, e, kind-below r, kind-code r, code_above (named_kind r), d.1))
