-- The kinds by their bytes, and the kind of a record.
use Rattle.std.specs.Prelude.{ℕ, ◌≡◌, ◌≤◌, ◌<◌, Result, MatchResult}
use Rattle.image_spec.specs.Records.{Record, definition, substitute, call, let', switch, create, invoke, literal, op, ifc, clause', print, exit}
use Rattle.image_spec.specs.Kinds.{kinds}
use Rattle.syntax.specs.declared.codes.NoCode.{NoCode}
use Rattle.image_kinds.specs.declared.kinds.Kind.{Kind}
use Rattle.image_kinds.specs.declared.kinds.Kind.TheVariants.{Definition, Substitute, Call, Let, Switch, Create, Invoke, Literal, Op, IfC, Clause, Print, Exit}

-- document 01, "The image": the kind byte
abbrev pub code_of : Kind → ℕ
code_of Definition = 1
code_of Substitute = 2
code_of Call = 3
code_of Let = 4
code_of Switch = 5
code_of Create = 6
code_of Invoke = 7
code_of Literal = 8
code_of Op = 9
code_of IfC = 10
code_of Clause = 11
code_of Print = 12
code_of Exit = 13

-- the kind of a record, by its name (its byte is `kind_of` the record: `kind-code`)
abbrev pub named_kind : Record → Kind
named_kind (definition x Γ) = Definition
named_kind (substitute ps) = Substitute
named_kind (call x Γ) = Call
named_kind (let' v t g Γ) = Let
named_kind (switch v t n) = Switch
named_kind (create v t e n) = Create
named_kind (invoke v g t Γ) = Invoke
named_kind (literal z v) = Literal
named_kind (op f o s v) = Op
named_kind (ifc c f s) = IfC
named_kind (clause' x Γ) = Clause
named_kind (print n v) = Print
named_kind (exit v) = Exit

-- the result is the kind with this byte, or an error with a byte that no kind has
abbrev pub Decodes : ℕ → Result Kind NoCode → Type 0
Decodes code r = MatchResult r (λ k. code_of k ≡ code) (λ e. (e.0 ≡ code) × (0 < code → kinds ≤ code))
