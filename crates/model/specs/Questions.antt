-- The questions 6 to 11 of a program, as tests on its tree; an accepted program has a yes to each.
use Rattle.std.specs.Prelude.{ℕ, ◌≡◌, Bool, true, false, not, ◌&&◌, List, [], ◌∷◌, ◌++◌, leb, length}
use Rattle.std.proofs.Math.Option.{Option, none, some}
use Rattle.syntax.specs.Sets.{elem, distinct}
use Rattle.syntax.specs.Context.{Context, ids}
use Rattle.syntax.specs.declared.names.VarId.{VarId}
use Rattle.model.specs.Syntax.{Stmt, Clauses, Substitute, Call, Let, Switch, Create, Invoke, Literal, Op, IfC, PrintI64, Exit, end, clause, Def, Prog}
use Rattle.model.specs.Sizes.{records_defs, depth_defs, count}
use Rattle.model.specs.Lists.{every}
use Rattle.model.specs.FreeVars.{optional_id}
use Rattle.model.specs.Pass.{linearize}

-- A question is asked at each statement, with what is in scope there, and of each list of binders, with what is in scope there.
abbrev pub OfStmt : Type 0
OfStmt = List VarId → Stmt → Bool

abbrev pub OfBinders : Type 0
OfBinders = List VarId → List VarId → Bool

-- One notion of scope for all questions: the parameters and every binder on the way, nothing ever dropped.
-- document 01, question 8: (Create's var is not in scope in its clauses.)
unfoldable mutual
  pub asked : Stmt → OfStmt → OfBinders → List VarId → Bool
  asked (Substitute ps next) q b Δ = q Δ (Substitute ps next) && asked next q b Δ
  asked (Call label args) q b Δ = q Δ (Call label args)
  asked (Let var ty tag args next) q b Δ = q Δ (Let var ty tag args next) && (b Δ (var.id ∷ []) && asked next q b (var.id ∷ Δ))
  asked (Switch var ty cs) q b Δ = q Δ (Switch var ty cs) && asked_clauses cs q b Δ
  asked (Create var ty env cs next) q b Δ = q Δ (Create var ty env cs next) && (asked_clauses cs q b Δ && (b Δ (var.id ∷ []) && asked next q b (var.id ∷ Δ)))
  asked (Invoke var tag ty args) q b Δ = q Δ (Invoke var tag ty args)
  asked (Literal lit var next) q b Δ = q Δ (Literal lit var next) && (b Δ (var.id ∷ []) && asked next q b (var.id ∷ Δ))
  asked (Op fst op snd var next) q b Δ = q Δ (Op fst op snd var next) && (b Δ (var.id ∷ []) && asked next q b (var.id ∷ Δ))
  asked (IfC sort fst snd thenc elsec) q b Δ = q Δ (IfC sort fst snd thenc elsec) && (asked thenc q b Δ && asked elsec q b Δ)
  -- print.rs, exit.rs: no variable is bound
  asked (PrintI64 newline var next) q b Δ = q Δ (PrintI64 newline var next) && asked next q b Δ
  asked (Exit var) q b Δ = q Δ (Exit var)

  pub asked_clauses : Clauses → OfStmt → OfBinders → List VarId → Bool
  asked_clauses end q b Δ = true
  asked_clauses (clause xtor context body rest) q b Δ = b Δ (ids context) && (asked body q b (ids context ++ Δ) && asked_clauses rest q b Δ)

-- of each definition, whose parameters are binders with nothing in scope
abbrev pub asked_defs : List Def → OfStmt → OfBinders → Bool
asked_defs [] q b = true
asked_defs (d ∷ ds) q b = b [] (ids d.context) && (asked d.body q b (ids d.context) && asked_defs ds q b)

-- what a question that is not asked of statements, or not of binders, says to them
abbrev pub any_stmt : OfStmt
any_stmt Δ s = true

abbrev pub any_binders : OfBinders
any_binders Δ xs = true

-- document 01, question 6: is it free of Substitute and of environments?
abbrev pub is_none : Option Context → Bool
is_none none = true
is_none (some Γ) = false

abbrev pub plain : OfStmt
plain Δ (Substitute ps next) = false
plain Δ (Call label args) = true
plain Δ (Let var ty tag args next) = true
plain Δ (Switch var ty cs) = true
plain Δ (Create var ty env cs next) = is_none env
plain Δ (Invoke var tag ty args) = true
plain Δ (Literal lit var next) = true
plain Δ (Op fst op snd var next) = true
plain Δ (IfC sort fst snd thenc elsec) = true
plain Δ (PrintI64 newline var next) = true
plain Δ (Exit var) = true

abbrev pub question6 : Prog → Bool
question6 P = asked_defs P.defs plain any_binders

-- document 01, question 7: are there at most 2,000 records, depth 64, counts 32, and 64 bindings in scope, repeats counted?
abbrev pub small : OfStmt
small Δ s = leb (count s) 32 && leb (length Δ) 64

abbrev pub small_binders : OfBinders
small_binders Δ xs = leb (length xs) 32

abbrev pub question7 : Prog → Bool
question7 P = leb (records_defs P.defs) 2000 && (leb (depth_defs P.defs) 64 && asked_defs P.defs small small_binders)

-- document 01, question 8: does each binder take an ID not in scope there and not earlier in its list?
abbrev pub new : OfBinders
new Δ xs = every (λ (x : VarId). not (elem x Δ)) xs && distinct xs

abbrev pub question8 : Prog → Bool
question8 P = asked_defs P.defs any_stmt new

-- document 01, question 9: is each variable used in scope?
abbrev pub uses : Stmt → List VarId
uses (Substitute ps next) = []
uses (Call label args) = ids args
uses (Let var ty tag args next) = ids args
uses (Switch var ty cs) = var.id ∷ []
uses (Create var ty env cs next) = []
uses (Invoke var tag ty args) = var.id ∷ ids args
uses (Literal lit var next) = []
uses (Op fst op snd var next) = fst.id ∷ snd.id ∷ []
uses (IfC sort fst snd thenc elsec) = fst.id ∷ optional_id snd
uses (PrintI64 newline var next) = var.id ∷ []
uses (Exit var) = var.id ∷ []

abbrev pub in_scope_lem : OfStmt
in_scope_lem Δ s = every (λ (x : VarId). elem x Δ) (uses s)

abbrev pub question9 : Prog → Bool
question9 P = asked_defs P.defs in_scope_lem any_binders

-- document 01, question 10: is max_id at least every binder's ID?
abbrev pub up_to : ℕ → OfBinders
up_to M Δ xs = every (λ (x : VarId). leb x.0 M) xs

abbrev pub question10 : Prog → Bool
question10 P = asked_defs P.defs any_stmt (up_to P.max_id)

-- document 01, question 11: is max_id plus the fresh IDs that the rules draw at most 65,535?
abbrev pub question11 : Prog → Bool
question11 P = leb (linearize P).max_id 65535

-- document 01, "The two machines": an accepted program is one that linearization, given enough buffer, answers with 0.
-- (The questions 1 to 5 are about the image that the program is read from.)
pub record Accepted (P : Prog) : Type 0 where
  pub six : question6 P ≡ true
  pub seven : question7 P ≡ true
  pub eight : question8 P ≡ true
  pub nine : question9 P ≡ true
  pub ten : question10 P ≡ true
  pub eleven : question11 P ≡ true
