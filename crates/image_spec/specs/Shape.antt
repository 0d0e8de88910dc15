-- The records of a program in pre-order, and reading them back with a bound on the depth (question 5).
use Rattle.std.specs.Prelude.{ℕ, zero, suc, ◌≤◌, List, [], ◌∷◌, ◌++◌}
use Rattle.std.proofs.Math.Option.{Option}
use Rattle.syntax.specs.Context.{Context}
use Rattle.syntax.specs.declared.names.Identifier.{Identifier}
use Rattle.model.specs.Syntax.{Stmt, Substitute, Call, Let, Switch, Create, Invoke, Literal, Op, IfC, PrintI64, Exit, Clauses, end, clause, Def}
use Rattle.model.specs.Sizes.{depth, count_clauses}
use Rattle.image_spec.specs.Parse.{refused, got, Parser, via, both, times, each, whole}
use Rattle.image_spec.specs.Records.{Record, definition, substitute, call, let', switch, create, invoke, literal, op, ifc, clause', print, exit}

-- document 01, "The image": a statement, then its clauses (each followed by its body), then its next, or then-branch before else-branch
unfoldable mutual
  pub flatten : Stmt → List Record
  flatten (Substitute ps next) = substitute ps ∷ flatten next
  flatten (Call label args) = call label args ∷ []
  flatten (Let var ty tag args next) = let' var ty tag args ∷ flatten next
  flatten (Switch var ty cs) = switch var ty (count_clauses cs) ∷ flatten_clauses cs
  flatten (Create var ty env cs next) = create var ty env (count_clauses cs) ∷ (flatten_clauses cs ++ flatten next)
  flatten (Invoke var tag ty args) = invoke var tag ty args ∷ []
  flatten (Literal lit var next) = literal lit var ∷ flatten next
  flatten (Op fst o snd var next) = op fst o snd var ∷ flatten next
  flatten (IfC sort fst snd thenc elsec) = ifc sort fst snd ∷ (flatten thenc ++ flatten elsec)
  flatten (PrintI64 newline var next) = print newline var ∷ flatten next
  flatten (Exit var) = exit var ∷ []

  pub flatten_clauses : Clauses → List Record
  flatten_clauses end = []
  flatten_clauses (clause xtor context body rest) = clause' xtor context ∷ (flatten body ++ flatten_clauses rest)

-- document 01, "The image": a definition, then its body
abbrev pub flatten_def : Def → List Record
flatten_def d = definition d.name d.context ∷ flatten d.body

unfoldable pub flatten_defs : List Def → List Record
flatten_defs ds = each flatten_def ds

-- a clause's record
abbrev pub clause_head : Parser Record (Identifier × Context)
clause_head [] = refused
clause_head (definition x Γ ∷ l) = refused
clause_head (substitute ps ∷ l) = refused
clause_head (call x Γ ∷ l) = refused
clause_head (let' v t g Γ ∷ l) = refused
clause_head (switch v t n ∷ l) = refused
clause_head (create v t e n ∷ l) = refused
clause_head (invoke v g t Γ ∷ l) = refused
clause_head (literal z v ∷ l) = refused
clause_head (op f o s v ∷ l) = refused
clause_head (ifc c f s ∷ l) = refused
clause_head (clause' x Γ ∷ l) = got (x, Γ) l
clause_head (print n v ∷ l) = refused
clause_head (exit v ∷ l) = refused

-- a definition's record
abbrev pub definition_head : Parser Record (Identifier × Context)
definition_head [] = refused
definition_head (definition x Γ ∷ l) = got (x, Γ) l
definition_head (substitute ps ∷ l) = refused
definition_head (call x Γ ∷ l) = refused
definition_head (let' v t g Γ ∷ l) = refused
definition_head (switch v t n ∷ l) = refused
definition_head (create v t e n ∷ l) = refused
definition_head (invoke v g t Γ ∷ l) = refused
definition_head (literal z v ∷ l) = refused
definition_head (op f o s v ∷ l) = refused
definition_head (ifc c f s ∷ l) = refused
definition_head (clause' x Γ ∷ l) = refused
definition_head (print n v ∷ l) = refused
definition_head (exit v ∷ l) = refused

-- n clauses, whose bodies p reads
unfoldable pub clauses : Parser Record Stmt → ℕ → Parser Record Clauses
clauses p zero l = got end l
clauses p (suc n) l = via (λ t. clause t.0.0 t.0.1 t.1.0 t.1.1) (both clause_head (both p (clauses p n))) l

-- a statement, whose parts p reads
unfoldable pub step : Parser Record Stmt → Parser Record Stmt
step p [] = refused
step p (definition x Γ ∷ l) = refused
step p (substitute ps ∷ l) = via (Substitute ps) p l
step p (call x Γ ∷ l) = got (Call x Γ) l
step p (let' v t g Γ ∷ l) = via (Let v t g Γ) p l
step p (switch v t n ∷ l) = via (Switch v t) (clauses p n) l
step p (create v t e n ∷ l) = via (λ s. Create v t e s.0 s.1) (both (clauses p n) p) l
step p (invoke v g t Γ ∷ l) = got (Invoke v g t Γ) l
step p (literal z v ∷ l) = via (Literal z v) p l
step p (op f o s v ∷ l) = via (Op f o s v) p l
step p (ifc c f s ∷ l) = via (λ b. IfC c f s b.0 b.1) (both p p) l
step p (clause' x Γ ∷ l) = refused
step p (print n v ∷ l) = via (PrintI64 n v) p l
step p (exit v ∷ l) = got (Exit v) l

-- a statement at most d statements deep
unfoldable pub stmt : ℕ → Parser Record Stmt
stmt zero l = refused
stmt (suc d) l = step (stmt d) l

-- document 01, question 5: at most 128 statements deep (a body is depth 1)
abbrev pub max_depth : ℕ
max_depth = 128

abbrev pub DefOk : Def → Type 0
DefOk d = depth d.body ≤ max_depth

unfoldable pub one_def : Parser Record Def
one_def = via (λ t. record { name = t.0.0; context = t.0.1; body = t.1 }) (both definition_head (stmt max_depth))

-- document 01, question 5: are the records D definitions in the order above?
unfoldable pub definitions : ℕ → List Record → Option (List Def)
definitions D rs = whole (times D one_def rs)
