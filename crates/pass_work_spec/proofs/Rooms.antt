-- Under question 7 the context at work fits at every statement of a program: its entries are at their places, and it has at most 64.
-- Assumes nothing.
use mathlib.Core.Path.{◌≡◌}
use mathlib.Core.Bool.{Bool, true, false}
use mathlib.Core.List.{List, [], ◌∷◌, ◌++◌}
use Prim.Native.Nat.{ℕ, ◌+◌}
use native.Mathlib.Omega.{arith}
use lib.Dec.{leb}
use lib.ListN.{length, length-append, length-map}
use Rattle.syntax.specs.Context.{Context, id_of, ids}
use Rattle.syntax.specs.declared.names.VarId.{VarId}
use Rattle.syntax.specs.declared.context.Chirality.TheVariants.{Prd, Cns, Ext}
use Rattle.syntax.specs.declared.types.Ty.TheVariants.{I64}
use Rattle.model.specs.Syntax.{Stmt, Clauses, Substitute, Call, Let, Switch, Create, Invoke, Literal, Op, IfC, PrintI64, Exit, end, clause, Def, Prog}
use Rattle.model.specs.Sizes.{records_defs, depth_defs}
use Rattle.model.specs.FreeVars.{free_vars, free_vars_clauses}
use Rattle.model.specs.Rules.{bind}
use Rattle.model.specs.Questions.{asked, asked_defs, small, small_binders, question7}
use Rattle.model.proofs.Questions.{Asked, AskedClauses, answered, three}
use Rattle.model.proofs.Widths.{small-says}
use Rattle.pass_work_spec.specs.Work.{Work, kept}
use Rattle.pass_work_spec.specs.Placed.{Placed, Fits, AllFit, AllFitClauses, AllFitDefs}
use Rattle.pass_work_spec.proofs.PlaceLaws.{placed-kept, placed-moved, placed-fresh, placed-joined, placed-behind, placed-body}

-- ── what fits at every statement fits here ──

pub here-fits : (t : Stmt) (Δ : List VarId) (W : Work) (n : ℕ) → AllFit t Δ W n → Fits Δ W n
unfolding AllFit
here-fits (Substitute ps next) Δ W n f = f
here-fits (Call label args) Δ W n f = f
here-fits (Let var ty tag args next) Δ W n f = f.0
here-fits (Switch var ty cs) Δ W n f = f.0
here-fits (Create var ty env cs next) Δ W n f = f.0
here-fits (Invoke var tag ty args) Δ W n f = f
here-fits (Literal lit var next) Δ W n f = f.0
here-fits (Op fst op snd var next) Δ W n f = f.0
here-fits (IfC sort fst snd thenc elsec) Δ W n f = f.0
here-fits (PrintI64 newline var next) Δ W n f = f.0
here-fits (Exit var) Δ W n f = f

pub clauses-fit : (cs : Clauses) (before : Bool) (Δ : List VarId) (W : Work) (n : ℕ) → AllFitClauses cs before Δ W n → Fits Δ W n
unfolding AllFit
clauses-fit end before Δ W n f = f
clauses-fit (clause xtor context body rest) before Δ W n f = clauses-fit rest before Δ W n f.1

-- ── under question 7 ──

-- the scope here, and as question 7 counts it
record Counted (Δ asked : List VarId) (n : ℕ) : Type 0 where
  here : length Δ ≡ n
  there : length asked ≡ n

one_more : {Δ E : List VarId} {n : ℕ} (x : VarId) → Counted Δ E n → Counted (Δ ++ (x ∷ [])) (x ∷ E) (n + 1)
one_more {Δ} x c = record { here = omega (arith, length-append Δ (x ∷ [])); there = omega arith }

some_more : {Δ E : List VarId} {n : ℕ} (ps : Context) → Counted Δ E n → Counted (Δ ++ ids ps) (ids ps ++ E) (n + length ps)
some_more {Δ} {E} ps c = record { here = omega (arith, length-append Δ (ids ps), length-map ps id_of); there = omega (arith, length-append (ids ps) E, length-map ps id_of) }

fits-here : {Δ : List VarId} {E : List VarId} {W : Work} {n : ℕ} (t : Stmt) → small E t ≡ true → Counted Δ E n → Placed Δ W → Fits Δ W n
fits-here {E = E} t a c p = record { placed = p; count = c.here; room = omega (arith, small-says E t a) }

mutual
  unfolding AllFit Asked

  all_fit : (t : Stmt) {Δ E : List VarId} {W : Work} {n : ℕ} → Asked t small small_binders E → Counted Δ E n → Placed Δ W → AllFit t Δ W n
  all_fit (Substitute ps next) a c p = fits-here (Substitute ps next) a.0 c p
  all_fit (Call label args) a c p = fits-here (Call label args) a c p
  all_fit (Let var ty tag args next) {n = n} a c p =
      (fits-here (Let var ty tag args next) a.0 c p, all_fit next a.2 (one_more var.id c) (placed-behind (placed-kept p (free_vars next)) n c.here (bind var Prd ty)))
  all_fit (Switch var ty cs) a c p = (fits-here (Switch var ty cs) a.0 c p, all_fit_clauses cs false (Switch var ty cs) a.0 a.1 c (placed-kept p (free_vars_clauses cs)))
  all_fit (Create var ty env cs next) {W = W} {n} a c p = (
    fits-here (Create var ty env cs next) a.0 c p,
    all_fit_clauses cs true (Create var ty env cs next) a.0 a.1 c (placed-kept (placed-moved p (length (kept (free_vars next) W))) (free_vars_clauses cs)),
    λ right T. all_fit next a.3 (one_more var.id c) (placed-behind (placed-fresh (placed-kept p (free_vars next)) right T) n c.here (bind var Cns ty)),
  )
  all_fit (Invoke var tag ty args) a c p = fits-here (Invoke var tag ty args) a c p
  all_fit (Literal lit var next) {n = n} a c p =
      (fits-here (Literal lit var next) a.0 c p, all_fit next a.2 (one_more var.id c) (placed-behind (placed-kept p (free_vars next)) n c.here (bind var Ext I64)))
  all_fit (Op fst op snd var next) {n = n} a c p =
      (fits-here (Op fst op snd var next) a.0 c p, all_fit next a.2 (one_more var.id c) (placed-behind (placed-kept p (fst.id ∷ snd.id ∷ free_vars next)) n c.here (bind var Ext I64)))
  all_fit (IfC sort fst snd thenc elsec) a c p = (fits-here (IfC sort fst snd thenc elsec) a.0 c p, all_fit thenc a.1 c p, all_fit elsec a.2 c p)
  all_fit (PrintI64 newline var next) a c p = (fits-here (PrintI64 newline var next) a.0 c p, all_fit next a.1 c (placed-kept p (var.id ∷ free_vars next)))
  all_fit (Exit var) a c p = fits-here (Exit var) a c p

  -- the clauses of t
  all_fit_clauses : (cs : Clauses) (before : Bool) (t : Stmt) {Δ E : List VarId} {W : Work} {n : ℕ} → small E t ≡ true → AskedClauses cs small small_binders E
      → Counted Δ E n → Placed Δ W → AllFitClauses cs before Δ W n
  all_fit_clauses end before t r a c p = fits-here t r c p
  all_fit_clauses (clause xtor context body rest) before t {n = n} r a c p =
      (all_fit body a.1 (some_more context c) (placed-joined p n c.here before context), all_fit_clauses rest before t r a.2 c p)

all_fit_defs : (ds : List Def) → asked_defs ds small small_binders ≡ true → AllFitDefs ds
all_fit_defs [] a = tt
all_fit_defs (d ∷ ds) a =
    let Δ = ids d.context in
    let q = three (small_binders [] Δ) (asked d.body small small_binders Δ) (asked_defs ds small small_binders) a in
    let c : Counted Δ Δ (length d.context) = record { here = length-map d.context id_of; there = length-map d.context id_of } in
    (all_fit d.body (answered d.body small small_binders Δ q.1) c (placed-body d.context), all_fit_defs ds q.2)

-- of a program with a yes to question 7
pub works-fit : (P : Prog) → question7 P ≡ true → AllFitDefs P.defs
works-fit P a = all_fit_defs P.defs (three (leb (records_defs P.defs) 2000) (leb (depth_defs P.defs) 64) (asked_defs P.defs small small_binders) a).2
