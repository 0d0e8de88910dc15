-- A statement as its own record, the clauses that follow it and the bodies that follow those: what every walk over records sees.
use Rattle.std.specs.Prelude.{List, [], ◌∷◌}
use Rattle.syntax.specs.Context.{ids}
use Rattle.syntax.specs.declared.names.VarId.{VarId}
use Rattle.model.specs.Syntax.{Stmt, Substitute, Call, Let, Switch, Create, Invoke, Literal, Op, IfC, PrintI64, Exit, Clauses, end}
use Rattle.model.specs.Sizes.{count_clauses}
use Rattle.model.specs.FreeVars.{optional_id}
use Rattle.image_spec.specs.Records.{Record, definition, substitute, call, let', switch, create, invoke, literal, op, ifc, clause', print, exit}

abbrev pub record_of : Stmt → Record
record_of (Substitute ps next) = substitute ps
record_of (Call label args) = call label args
record_of (Let var ty tag args next) = let' var ty tag args
record_of (Switch var ty cs) = switch var ty (count_clauses cs)
record_of (Create var ty env cs next) = create var ty env (count_clauses cs)
record_of (Invoke var tag ty args) = invoke var tag ty args
record_of (Literal lit var next) = literal lit var
record_of (Op fst o snd var next) = op fst o snd var
record_of (IfC sort fst snd thenc elsec) = ifc sort fst snd
record_of (PrintI64 newline var next) = print newline var
record_of (Exit var) = exit var

abbrev pub clauses_in : Stmt → Clauses
clauses_in (Substitute ps next) = end
clauses_in (Call label args) = end
clauses_in (Let var ty tag args next) = end
clauses_in (Switch var ty cs) = cs
clauses_in (Create var ty env cs next) = cs
clauses_in (Invoke var tag ty args) = end
clauses_in (Literal lit var next) = end
clauses_in (Op fst o snd var next) = end
clauses_in (IfC sort fst snd thenc elsec) = end
clauses_in (PrintI64 newline var next) = end
clauses_in (Exit var) = end

abbrev pub bodies_of : Stmt → List Stmt
bodies_of (Substitute ps next) = next ∷ []
bodies_of (Call label args) = []
bodies_of (Let var ty tag args next) = next ∷ []
bodies_of (Switch var ty cs) = []
bodies_of (Create var ty env cs next) = next ∷ []
bodies_of (Invoke var tag ty args) = []
bodies_of (Literal lit var next) = next ∷ []
bodies_of (Op fst o snd var next) = next ∷ []
bodies_of (IfC sort fst snd thenc elsec) = thenc ∷ elsec ∷ []
bodies_of (PrintI64 newline var next) = next ∷ []
bodies_of (Exit var) = []

-- the IDs that a record binds in the bodies of its statement, or in the body of its clause or definition
abbrev pub binders : Record → List VarId
binders (definition x Γ) = ids Γ
binders (substitute ps) = []
binders (call x Γ) = []
binders (let' v t g Γ) = v.id ∷ []
binders (switch v t n) = []
binders (create v t e n) = v.id ∷ []
binders (invoke v g t Γ) = []
binders (literal z v) = v.id ∷ []
binders (op f o s v) = v.id ∷ []
binders (ifc c f s) = []
binders (clause' x Γ) = ids Γ
binders (print n v) = []
binders (exit v) = []

-- the IDs that a record uses. (A source has no Substitute.)
abbrev pub uses_of : Record → List VarId
uses_of (definition x Γ) = []
uses_of (substitute ps) = []
uses_of (call x Γ) = ids Γ
uses_of (let' v t g Γ) = ids Γ
uses_of (switch v t n) = v.id ∷ []
uses_of (create v t e n) = []
uses_of (invoke v g t Γ) = v.id ∷ ids Γ
uses_of (literal z v) = []
uses_of (op f o s v) = f.id ∷ s.id ∷ []
uses_of (ifc c f s) = f.id ∷ optional_id s
uses_of (clause' x Γ) = []
uses_of (print n v) = v.id ∷ []
uses_of (exit v) = v.id ∷ []
