-- A part of records by name, whatever their kind: the list of bindings.
use Rattle.std.specs.Prelude.{[]}
use Rattle.syntax.specs.Context.{Context}
use Rattle.image_spec.specs.Records.{Record, definition, substitute, call, let', switch, create, invoke, literal, op, ifc, clause', print, exit}

-- document 01, "The image": the list of a definition, Call, Let, Invoke or clause
abbrev pub list_of : Record → Context
list_of (definition x Γ) = Γ
list_of (substitute ps) = []
list_of (call x Γ) = Γ
list_of (let' v t g Γ) = Γ
list_of (switch v t n) = []
list_of (create v t e n) = []
list_of (invoke v g t Γ) = Γ
list_of (literal z v) = []
list_of (op f o s v) = []
list_of (ifc c f s) = []
list_of (clause' x Γ) = Γ
list_of (print n v) = []
list_of (exit v) = []

-- the record ends with a list
abbrev pub HasList : Record → Type 0
HasList (definition x Γ) = Unit {0}
HasList (substitute ps) = ⊥
HasList (call x Γ) = Unit {0}
HasList (let' v t g Γ) = Unit {0}
HasList (switch v t n) = ⊥
HasList (create v t e n) = ⊥
HasList (invoke v g t Γ) = Unit {0}
HasList (literal z v) = ⊥
HasList (op f o s v) = ⊥
HasList (ifc c f s) = ⊥
HasList (clause' x Γ) = Unit {0}
HasList (print n v) = ⊥
HasList (exit v) = ⊥
