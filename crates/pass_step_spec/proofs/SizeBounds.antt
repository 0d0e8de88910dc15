-- How much linearization writes. Under question 6 it writes at least one record and at most two for each record that it reads (`defs-more`,
-- `defs-fewer`), and as many definitions (`defs-same-count`); under question 7 too, at most 8,192 bytes for each (`defs-bytes`).
--   · sizes in step: one induction over the tree, for whatever is counted in a record
--   · records
--   · bytes
-- Assumes nothing.
use Prim.Native.Nat.{ℕ, suc, ◌+◌, ◌*◌, ◌≤◌}
use native.Mathlib.Nat.{le_trans, mul-add, mul-le-mul}
use native.Mathlib.Omega.{arith}
use mathlib.Core.Path.{◌≡◌, refl, ap}
use mathlib.Core.Bool.{Bool, true, false, cond, false≢true}
use mathlib.Core.List.{List, [], ◌∷◌, ◌++◌}
use mathlib.Core.Option.{Option, none, some}
use lib.Dec.{leb}
use lib.ListN.{length, length-append, length-map}
use Rattle.syntax.specs.Context.{Context, id_of, ids}
use Rattle.syntax.specs.declared.names.VarId.{VarId}
use Rattle.syntax.specs.declared.names.Identifier.{Identifier}
use Rattle.model.specs.Syntax.{Stmt, Substitute, Call, Let, Switch, Create, Invoke, Literal, Op, IfC, PrintI64, Exit, Clauses, end, clause, Def, Prog}
use Rattle.model.specs.Sizes.{records_defs, depth_defs, count}
use Rattle.model.specs.Questions.{OfStmt, OfBinders, asked, asked_defs, any_binders, plain, small, small_binders, question6, question7}
use Rattle.model.proofs.Questions.{Asked, AskedClauses, answered, three}
use borrow.Author.Tests.{leb-true}
use Rattle.model.proofs.Widths.{small-says}
use Rattle.image_spec.specs.Parse.{each, All}
use Rattle.image_spec.specs.Fields.{max_count, list_bytes}
use Rattle.image_spec.specs.Records.{Record, definition, substitute, call, let', switch, create, invoke, literal, op, ifc, clause', print, exit, record_bytes}
use Rattle.image_spec.specs.Kinds.{kind_of, fixed, tail_bytes}
use Rattle.image_spec.specs.Shape.{flatten, flatten_clauses, flatten_defs}
use Rattle.image_places_spec.specs.Views.{record_of, clauses_in, bodies_of, binders}
use Rattle.image_places_spec.proofs.ViewLaws.{flatten-view}
use Rattle.scope_spec.proofs.FreeViews.{Plain}
use Rattle.pass_work_spec.specs.Work.{Work, owns, work_stmt, work_clauses, work_defs}
use Rattle.pass_work_spec.proofs.Lengths.{owns-length, joined_length}
use Rattle.pass_step_spec.specs.Steps.{environment, step_of, clause_context, params_first, work_bodies}
use Rattle.pass_step_spec.specs.Fronts.{wanted, right_of, front_records, list_size, pairs_size, option_size, tail_size, front_bytes}
use Rattle.pass_step_spec.proofs.WorkViews.{free_in_clauses, free_in_bodies, clauses_done, step_done, work_view, clause-view, def_done}
use Rattle.pass_step_spec.proofs.FrontLaws.{list_length, record_length, front-records, front-bytes}
use Rattle.pass_step_spec.proofs.StepBounds.{environment-fewer, wanted-short, clauses-fewer, bodies-longer}

-- ── sizes in step ──

module _ (e : Record → List ℕ) (K : ℕ) where
  -- records that are written for records that are read: what e makes of them has at least one element for each of those, and at most K
  record Sized (written read : List Record) : Type 0 where
    least : length read ≤ length (each e written)
    most : length (each e written) ≤ K * length read

  sized-nil : Sized [] []
  sized-nil = record { least = omega arith; most = omega arith }

  each-length-append : (a b : List Record) → length (each e (a ++ b)) ≡ length (each e a) + length (each e b)
  each-length-append [] b = omega arith
  each-length-append (r ∷ a) b = omega (arith, length-append (e r) (each e (a ++ b)), length-append (e r) (each e a), each-length-append a b)

  sized-append : {a b r s : List Record} → Sized a r → Sized b s → Sized (a ++ b) (r ++ s)
  sized-append {a} {b} {r} {s} h k = record {
    least = omega (arith, h.least, k.least, each-length-append a b, length-append r s);
    most = omega (arith, h.most, k.most, each-length-append a b, mul-add K (length r) (length s), ap (λ (n : ℕ). K * n) (length-append r s));
  }

  sized_same : {a b r s : List Record} → a ≡ b → r ≡ s → Sized b s → Sized a r
  sized_same p q h = rw (p, q) h

  -- a statement, with Δ in scope, in any context that is no longer; and clauses
  abbrev SizedStmt : Stmt → List VarId → Type 0
  SizedStmt t Δ = (W : Work) (n m : ℕ) → length W ≤ length Δ → Sized (flatten (work_stmt t W n m).0) (flatten t)

  abbrev SizedClauses : Clauses → List VarId → Type 0
  SizedClauses cs Δ = (before : Bool) (W : Work) (n m : ℕ) → length W ≤ length Δ → Sized (flatten_clauses (work_clauses cs before W n m).0) (flatten_clauses cs)

  bodies-sized : (ts : List Stmt) (Δ : List VarId) → All (λ (t : Stmt). SizedStmt t Δ) ts → (W : Work) (n m : ℕ) → length W ≤ length Δ → Sized (each flatten (work_bodies ts W n m).0) (each flatten ts)
  unfolding work_bodies
  bodies-sized [] Δ a W n m h = sized-nil
  bodies-sized (t ∷ ts) Δ a W n m h = sized-append (a.0 W n m h) (bodies-sized ts Δ a.1 W n _ h)

  -- what the questions q, of statements, and b, of binders, must say of one record
  record Fronts (q : OfStmt) (b : OfBinders) : Type 0 where
    stmt : (t : Stmt) (Δ : List VarId) → q Δ t ≡ true → (W : Work) (n m : ℕ) → length W ≤ length Δ → Sized (step_of (record_of t) (free_in_clauses t) (free_in_bodies t) W n m).front (record_of t ∷ [])
    clause : (x : Identifier) (Γ : Context) (Δ : List VarId) → b Δ (ids Γ) ≡ true → Sized (clause' x Γ ∷ []) (clause' x Γ ∷ [])
    definition : (x : Identifier) (Γ : Context) (Δ : List VarId) → b Δ (ids Γ) ≡ true → Sized (definition x Γ ∷ []) (definition x Γ ∷ [])

  module _ {q : OfStmt} {b : OfBinders} (f : Fronts q b) where
    -- a statement, from its clauses and its bodies
    sized-stmt : (t : Stmt) (Δ : List VarId) → Plain t → q Δ t ≡ true → SizedClauses (clauses_in t) Δ → All (λ (s : Stmt). SizedStmt s (binders (record_of t) ++ Δ)) (bodies_of t) → SizedStmt t Δ
    sized-stmt t Δ p a cs bs W n m h =
        let r = record_of t in
        let fc = free_in_clauses t in
        let fn = free_in_bodies t in
        let s = step_done t W n m in
        let k : length s.context ≤ length (binders r ++ Δ) = omega (arith, h, bodies-longer r fc fn W n (clauses_done t W n m).1, length-append (binders r) Δ) in
        sized_same (work_view t p W n m).flat (flatten-view t)
        (sized-append (f.stmt t Δ a W n _ h) (sized-append (cs (params_first r) (clause_context r fc fn W) n m (le_trans (clauses-fewer r fc fn W) h))
        (bodies-sized (bodies_of t) (binders r ++ Δ) bs s.context s.in_scope_lem s.max_id k)))

    no-clauses : (Δ : List VarId) → SizedClauses end Δ
    unfolding flatten work_stmt
    no-clauses Δ before W n m h = sized-nil

    sized-clause : (x : Identifier) (Γ : Context) (t : Stmt) (cs : Clauses) (Δ : List VarId) → b Δ (ids Γ) ≡ true → SizedStmt t (ids Γ ++ Δ) → SizedClauses cs Δ → SizedClauses (clause x Γ t cs) Δ
    unfolding flatten
    sized-clause x Γ t cs Δ a s ss before W n m h =
        let W' = cond before (owns n Γ ++ W) (W ++ owns n Γ) in
        let k : length W' ≤ length (ids Γ ++ Δ) = omega (arith, h, joined_length before n Γ W, length-append (ids Γ) Δ, length-map Γ id_of) in
        sized_same (clause-view x Γ t cs before W n m).flat refl (sized-append (f.clause x Γ Δ a) (sized-append (s W' (n + length Γ) m k) (ss before W n _ h)))

    mutual
      unfolding Asked

      all-sized : (t : Stmt) (Δ : List VarId) → Asked t plain any_binders Δ → Asked t q b Δ → SizedStmt t Δ
      all-sized (Substitute ps next) Δ p a = absurd (false≢true p.0)
      all-sized (Call label args) Δ p a = sized-stmt (Call label args) Δ tt a (no-clauses Δ) tt
      all-sized (Let var ty tag args next) Δ p a = sized-stmt (Let var ty tag args next) Δ tt a.0 (no-clauses Δ) (all-sized next (var.id ∷ Δ) p.2 a.2, tt)
      all-sized (Switch var ty cs) Δ p a = sized-stmt (Switch var ty cs) Δ tt a.0 (all_sized_clauses cs Δ p.1 a.1) tt
      all-sized (Create var ty env cs next) Δ p a = sized-stmt (Create var ty env cs next) Δ tt a.0 (all_sized_clauses cs Δ p.1 a.1) (all-sized next (var.id ∷ Δ) p.3 a.3, tt)
      all-sized (Invoke var tag ty args) Δ p a = sized-stmt (Invoke var tag ty args) Δ tt a (no-clauses Δ) tt
      all-sized (Literal lit var next) Δ p a = sized-stmt (Literal lit var next) Δ tt a.0 (no-clauses Δ) (all-sized next (var.id ∷ Δ) p.2 a.2, tt)
      all-sized (Op fst o snd var next) Δ p a = sized-stmt (Op fst o snd var next) Δ tt a.0 (no-clauses Δ) (all-sized next (var.id ∷ Δ) p.2 a.2, tt)
      all-sized (IfC sort fst snd thenc elsec) Δ p a = sized-stmt (IfC sort fst snd thenc elsec) Δ tt a.0 (no-clauses Δ) (all-sized thenc Δ p.1 a.1, (all-sized elsec Δ p.2 a.2, tt))
      all-sized (PrintI64 newline var next) Δ p a = sized-stmt (PrintI64 newline var next) Δ tt a.0 (no-clauses Δ) (all-sized next Δ p.1 a.1, tt)
      all-sized (Exit var) Δ p a = sized-stmt (Exit var) Δ tt a (no-clauses Δ) tt

      all_sized_clauses : (cs : Clauses) (Δ : List VarId) → AskedClauses cs plain any_binders Δ → AskedClauses cs q b Δ → SizedClauses cs Δ
      all_sized_clauses end Δ p a = no-clauses Δ
      all_sized_clauses (clause xtor context body rest) Δ p a = sized-clause xtor context body rest Δ a.0 (all-sized body (ids context ++ Δ) p.1 a.1) (all_sized_clauses rest Δ p.2 a.2)

    all_sized_defs : (ds : List Def) → asked_defs ds plain any_binders ≡ true → asked_defs ds q b ≡ true → (m : ℕ) → Sized (flatten_defs (work_defs ds m).0) (flatten_defs ds)
    unfolding flatten_defs work_defs
    all_sized_defs [] p a m = sized-nil
    all_sized_defs (d ∷ ds) p a m =
        let Γ = d.context in
        let Δ = ids Γ in
        let p' = three true (asked d.body plain any_binders Δ) (asked_defs ds plain any_binders) p in
        let a' = three (b [] Δ) (asked d.body q b Δ) (asked_defs ds q b) a in
        let k : length (owns 0 Γ) ≤ length Δ = omega (arith, owns-length 0 Γ, length-map Γ id_of) in
        let body = all-sized d.body Δ (answered d.body plain any_binders Δ p'.1) (answered d.body q b Δ a'.1) (owns 0 Γ) (length Γ) m k in
        sized-append (f.definition d.name Γ [] a'.0) (sized-append body (all_sized_defs ds p'.2 a'.2 (def_done d ds m).1))

-- ── records ──

-- each record counts for one
abbrev one : Record → List ℕ
one r = 0 ∷ []

ones : (rs : List Record) → length (each one rs) ≡ length rs
ones [] = refl
ones (r ∷ rs) = ap suc (ones rs)

one_or_two : (right : Bool) → (1 ≤ cond right 1 2) × (cond right 1 2 ≤ 2)
one_or_two true = (omega arith, omega arith)
one_or_two false = (omega arith, omega arith)

record_fronts : Fronts one 2 plain any_binders
unfolding front_records
record_fronts = record {
  stmt = λ t Δ a W n m h.
      let r = record_of t in
      let fc = free_in_clauses t in
      let fn = free_in_bodies t in
      let c = ones (step_of r fc fn W n m).front in
      let records = front-records r fc fn W n m in
      let b = one_or_two (right_of r fc fn W) in
      record { least = omega (arith, c, records, b.0); most = omega (arith, c, records, b.1) };
  clause = λ x Γ Δ a. record { least = omega arith; most = omega arith };
  definition = λ x Γ Δ a. record { least = omega arith; most = omega arith };
}

records-sized : (P : Prog) → question6 P ≡ true → Sized one 2 (flatten_defs (work_defs P.defs P.max_id).0) (flatten_defs P.defs)
records-sized P six = all_sized_defs one 2 record_fronts P.defs six six P.max_id

-- document 01, question 6: no Substitute is read, so at most one is written for each record that is read
pub defs-fewer : (P : Prog) → question6 P ≡ true → length (flatten_defs (work_defs P.defs P.max_id).0) ≤ 2 * length (flatten_defs P.defs)
defs-fewer P six = omega (arith, (records-sized P six).most, ones (flatten_defs (work_defs P.defs P.max_id).0))

pub defs-more : (P : Prog) → question6 P ≡ true → length (flatten_defs P.defs) ≤ length (flatten_defs (work_defs P.defs P.max_id).0)
defs-more P six = omega (arith, (records-sized P six).least, ones (flatten_defs (work_defs P.defs P.max_id).0))

pub defs-same-count : (ds : List Def) (m : ℕ) → length (work_defs ds m).0 ≡ length ds
unfolding work_defs
defs-same-count [] m = refl
defs-same-count (d ∷ ds) m = ap suc (defs-same-count ds _)

-- ── bytes ──

module _ (w : ℕ) (v : w ≤ 8) where
  -- in parts that grow with a count of at most c
  list-most : (k c : ℕ) → k ≤ c → list_size w k ≤ 1 + c * 22
  list-most k c h = let b : 6 + (w + w) ≤ 22 = omega arith in omega (arith, mul-le-mul h b)

  pairs-most : (k c : ℕ) → k ≤ c → pairs_size w k ≤ 1 + c * 32
  pairs-most k c h = let b : 8 + (w + (w + w)) ≤ 32 = omega arith in omega (arith, mul-le-mul h b)

  option_most : (o : Option Identifier) → option_size w o ≤ 11
  option_most none = omega arith
  option_most (some x) = omega arith

  -- the Substitute, if there is one
  arranged-most : (right : Bool) (k : ℕ) → k ≤ max_count → cond right 0 (1 + pairs_size w k) ≤ 4098
  arranged-most true k h = omega arith
  arranged-most false k h = omega (arith, pairs-most k max_count h)

  module _ (fc fn : List VarId) (W : Work) (k : length W ≤ 64) where
    -- the record that is written for a statement
    own-most : (t : Stmt) → count t ≤ 32 → fixed w (kind_of (record_of t)) + tail_size w (record_of t) fc fn W ≤ 4094
    unfolding tail_size
    own-most (Substitute ps next) h = omega (arith, pairs-most (length ps) 32 h)
    own-most (Call label args) h = omega (arith, list-most 0 32 (omega arith))
    own-most (Let var ty tag args next) h = omega (arith, list-most (length args) 32 h)
    own-most (Switch var ty cs) h = omega arith
    own-most (Create var ty env cs next) h = omega (arith, list-most (length (environment fc fn W)) 64 (le_trans (environment-fewer fc fn W) k))
    own-most (Invoke var tag ty args) h = omega (arith, list-most 0 32 (omega arith))
    own-most (Literal lit var next) h = omega arith
    own-most (Op fst o snd var next) h = omega arith
    own-most (IfC sort fst snd thenc elsec) h = omega (arith, option_most snd)
    own-most (PrintI64 newline var next) h = omega arith
    own-most (Exit var) h = omega arith

    front-most : (t : Stmt) → count t ≤ 32 → front_bytes w (record_of t) fc fn W ≤ 8192
    unfolding front_bytes
    front-most t h = let r = record_of t in omega (arith, arranged-most (right_of r fc fn W) (length (wanted r fc fn W)) (wanted-short t fc fn W h k), own-most t h)

  -- a record has its kind byte
  fixed-least : (r : Record) → 1 ≤ fixed w (kind_of r)
  fixed-least (definition x Γ) = omega arith
  fixed-least (substitute ps) = omega arith
  fixed-least (call x Γ) = omega arith
  fixed-least (let' v t g Γ) = omega arith
  fixed-least (switch v t n) = omega arith
  fixed-least (create v t e n) = omega arith
  fixed-least (invoke v g t Γ) = omega arith
  fixed-least (literal z v) = omega arith
  fixed-least (op f o s v) = omega arith
  fixed-least (ifc c f s) = omega arith
  fixed-least (clause' x Γ) = omega arith
  fixed-least (print n v) = omega arith
  fixed-least (exit v) = omega arith

  front-least : (r : Record) (fc fn : List VarId) (W : Work) → 1 ≤ front_bytes w r fc fn W
  unfolding front_bytes
  front-least r fc fn W = omega (arith, fixed-least r)

  -- a record with a name and a list of binders
  named-sized : (r : Record) (Γ : Context) (Δ : List VarId) → small_binders Δ (ids Γ) ≡ true → fixed w (kind_of r) ≤ 11
      → length (tail_bytes w r) ≡ length (list_bytes w Γ) → Sized (record_bytes w) 8192 (r ∷ []) (r ∷ [])
  named-sized r Γ Δ a f e =
      let k : length Γ ≤ 32 = omega (arith, leb-true (length (ids Γ)) 32 a, length-map Γ id_of) in
      let n = length-append (record_bytes w r) [] in
      record { least = omega (arith, n, record_length w r, fixed-least r); most = omega (arith, n, record_length w r, f, e, list_length w Γ, list-most (length Γ) 32 k) }

  byte_fronts : Fronts (record_bytes w) 8192 small small_binders
  byte_fronts = record {
    stmt = λ t Δ a W n m h.
        let r = record_of t in
        let fc = free_in_clauses t in
        let fn = free_in_bodies t in
        let q = small-says Δ t a in
        let bytes = front-bytes r fc fn W n m w in
        record { least = omega (arith, bytes, front-least r fc fn W); most = omega (arith, bytes, front-most fc fn W (le_trans h q.1) t q.0) };
    clause = λ x Γ Δ a. named-sized (clause' x Γ) Γ Δ a (omega arith) refl;
    definition = λ x Γ Δ a. named-sized (definition x Γ) Γ Δ a (omega arith) refl;
  }

  -- document 01, question 7: a Substitute has at most 128 pairs, any other list at most 64 bindings
  pub defs-bytes : (P : Prog) → question6 P ≡ true → question7 P ≡ true → length (each (record_bytes w) (flatten_defs (work_defs P.defs P.max_id).0)) ≤ 8192 * length (flatten_defs P.defs)
  defs-bytes P six seven =
      let q = three (leb (records_defs P.defs) 2000) (leb (depth_defs P.defs) 64) (asked_defs P.defs small small_binders) seven in
      (all_sized_defs (record_bytes w) 8192 byte_fronts P.defs six q.2 P.max_id).most
