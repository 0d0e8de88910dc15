-- Reading a statement from flat records is exact for flattening it, at each depth: `stmt_exact`; and definitions: `definitions_exact`.
-- Flattening and reading in pre-order are inverse within the depth bound: `parse_flatten`, `flatten_parse`. How deep definitions are: `shallow-all`. Assumes nothing.
use Prim.Native.Nat.{ℕ, zero, suc, ◌+◌, ◌≤◌}
use mathlib.Core.List.{List, [], ◌∷◌, ◌++◌, append_assoc}
use mathlib.Core.Path.{◌≡◌, refl, ap}
use mathlib.Core.Option.{some}
use native.Mathlib.Omega.{arith}
use lib.ListN.{length}
use Rattle.syntax.specs.Context.{Context}
use Rattle.syntax.specs.declared.names.Identifier.{Identifier}
use Rattle.model.specs.Syntax.{Stmt, Substitute, Call, Let, Switch, Create, Invoke, Literal, Op, IfC, PrintI64, Exit, Clauses, end, clause, Def}
use Rattle.model.specs.Sizes.{depth, depth_clauses, depth_defs, count_clauses}
use Rattle.image_spec.specs.Parse.{got, Parser, times, All}
use Rattle.image_spec.specs.Records.{Record, definition, substitute, call, let', switch, create, invoke, literal, op, ifc, clause', print, exit}
use Rattle.image_spec.specs.Shape.{flatten, flatten_clauses, flatten_def, flatten_defs, clause_head, definition_head, clauses, step, stmt, max_depth, DefOk, one_def, definitions}
use Rattle.image_spec.proofs.ParseLaws.{Sound, none_read, one-read, Exact, following, both_exact, via_exact, times_exact, whole-left, whole-right}

pub clause_head_exact : Exact (λ (t : Identifier × Context). clause' t.0 t.1 ∷ []) (λ _. Unit {0}) clause_head
clause_head_exact = record { left = λ t o l. refl; right = right }
  where
    right : (l : List Record) → Sound (λ (t : Identifier × Context). clause' t.0 t.1 ∷ []) (λ _. Unit {0}) l (clause_head l)
    right [] = none_read
    right (definition i bs ∷ l) = none_read
    right (substitute ps ∷ l) = none_read
    right (call i bs ∷ l) = none_read
    right (let' v t g bs ∷ l) = none_read
    right (switch v t n ∷ l) = none_read
    right (create v t e n ∷ l) = none_read
    right (invoke v g t bs ∷ l) = none_read
    right (literal n v ∷ l) = none_read
    right (op f o g v ∷ l) = none_read
    right (ifc c f g ∷ l) = none_read
    right (clause' x bs ∷ l) = one-read tt refl
    right (print n v ∷ l) = none_read
    right (exit v ∷ l) = none_read

pub definition_head_exact : Exact (λ (t : Identifier × Context). definition t.0 t.1 ∷ []) (λ _. Unit {0}) definition_head
definition_head_exact = record { left = λ t o l. refl; right = right }
  where
    right : (l : List Record) → Sound (λ (t : Identifier × Context). definition t.0 t.1 ∷ []) (λ _. Unit {0}) l (definition_head l)
    right [] = none_read
    right (definition i bs ∷ l) = one-read tt refl
    right (substitute ps ∷ l) = none_read
    right (call i bs ∷ l) = none_read
    right (let' v t g bs ∷ l) = none_read
    right (switch v t n ∷ l) = none_read
    right (create v t e n ∷ l) = none_read
    right (invoke v g t bs ∷ l) = none_read
    right (literal n v ∷ l) = none_read
    right (op f o g v ∷ l) = none_read
    right (ifc c f g ∷ l) = none_read
    right (clause' x bs ∷ l) = none_read
    right (print n v ∷ l) = none_read
    right (exit v ∷ l) = none_read

abbrev pub Within : ℕ → Stmt → Type 0
Within d s = depth s ≤ d

abbrev pub ClausesWithin : ℕ → ℕ → Clauses → Type 0
ClausesWithin d n cs = (count_clauses cs ≡ n) × (depth_clauses cs ≤ d)

pub clauses_exact : {p : Parser Record Stmt} (d : ℕ) → Exact flatten (Within d) p → (n : ℕ) → Exact flatten_clauses (ClausesWithin d n) (clauses p n)
unfolding clauses flatten depth
clauses_exact {p} d x n = record { left = left n; right = right n }
  where
    left : (n : ℕ) (cs : Clauses) → ClausesWithin d n cs → (l : List Record) → clauses p n (flatten_clauses cs ++ l) ≡ got cs l
    left zero end o l = refl
    left zero (clause i bs s cs) o l = let z = o.0 in absurd (omega arith)
    left (suc n) end o l = let z = o.0 in absurd (omega arith)
    left (suc n) (clause i bs s cs) o l =
        let c : count_clauses cs ≡ n = omega (arith, o.0) in
        let a : depth s ≤ d = omega (arith, o.1) in
        let b : depth_clauses cs ≤ d = omega (arith, o.1) in
        rw (append_assoc, x.left s a (flatten_clauses cs ++ l), left n cs (c, b) l)

    right : (n : ℕ) (l : List Record) → Sound flatten_clauses (ClausesWithin d n) l (clauses p n l)
    right zero l = one-read {a = end} (refl, omega arith) refl
    right (suc n) l = following _ ((both_exact clause_head_exact (both_exact x (record { left = left n; right = right n }))).right l)
        (λ t m o e. one-read {a = clause t.0.0 t.0.1 t.1.0 t.1.1} (ap suc o.1.1.0, omega (arith, o.1.0, o.1.1.1)) e)

step_exact : {p : Parser Record Stmt} (d : ℕ) → Exact flatten (Within d) p → Exact flatten (Within (suc d)) (step p)
unfolding step flatten depth
step_exact {p} d x = record { left = left; right = right }
  where
    cl : (n : ℕ) → Exact flatten_clauses (ClausesWithin d n) (clauses p n)
    cl n = clauses_exact d x n

    left : (s : Stmt) → Within (suc d) s → (l : List Record) → step p (flatten s ++ l) ≡ got s l
    left (Substitute ps s) o l = rw (x.left s (omega arith) l)
    left (Call i bs) o l = refl
    left (Let v t g bs s) o l = rw (x.left s (omega arith) l)
    left (Switch v t cs) o l = rw ((cl (count_clauses cs)).left cs (refl, omega arith) l)
    left (Create v t e cs s) o l = rw ((both_exact (cl (count_clauses cs)) x).left (cs, s) ((refl, omega arith), omega arith) l)
    left (Invoke v g t bs) o l = refl
    left (Literal n v s) o l = rw (x.left s (omega arith) l)
    left (Op f c g v s) o l = rw (x.left s (omega arith) l)
    left (IfC c f g a b) o l = rw ((both_exact x x).left (a, b) (omega arith, omega arith) l)
    left (PrintI64 n v s) o l = rw (x.left s (omega arith) l)
    left (Exit v) o l = refl

    right : (l : List Record) → Sound flatten (Within (suc d)) l (step p l)
    right [] = none_read
    right (definition i bs ∷ l) = none_read
    right (substitute ps ∷ l) = following _ (x.right l) (λ s m o e. one-read {a = Substitute ps s} (omega arith) (ap (λ z. substitute ps ∷ z) e))
    right (call i bs ∷ l) = one-read {a = Call i bs} (omega arith) refl
    right (let' v t g bs ∷ l) = following _ (x.right l) (λ s m o e. one-read {a = Let v t g bs s} (omega arith) (ap (λ z. let' v t g bs ∷ z) e))
    right (switch v t n ∷ l) = following _ ((cl n).right l) (λ s m o e. one-read {a = Switch v t s} (omega (arith, o.1)) (rw (e, o.0)))
    right (create v t c n ∷ l) = following _ ((both_exact (cl n) x).right l) (λ s m o e. one-read {a = Create v t c s.0 s.1} (omega (arith, o.0.1)) (rw (e, o.0.0)))
    right (invoke v g t bs ∷ l) = one-read {a = Invoke v g t bs} (omega arith) refl
    right (literal n v ∷ l) = following _ (x.right l) (λ s m o e. one-read {a = Literal n v s} (omega arith) (ap (λ z. literal n v ∷ z) e))
    right (op f c g v ∷ l) = following _ (x.right l) (λ s m o e. one-read {a = Op f c g v s} (omega arith) (ap (λ z. op f c g v ∷ z) e))
    right (ifc c f g ∷ l) = following _ ((both_exact x x).right l) (λ s m o e. one-read {a = IfC c f g s.0 s.1} (omega (arith, o.0)) (ap (λ z. ifc c f g ∷ z) e))
    right (clause' i bs ∷ l) = none_read
    right (print n v ∷ l) = following _ (x.right l) (λ s m o e. one-read {a = PrintI64 n v s} (omega arith) (ap (λ z. print n v ∷ z) e))
    right (exit v ∷ l) = one-read {a = Exit v} (omega arith) refl

depth_pos : (s : Stmt) → 1 ≤ depth s
unfolding depth
depth_pos (Substitute ps s) = omega arith
depth_pos (Call i bs) = omega arith
depth_pos (Let v t g bs s) = omega arith
depth_pos (Switch v t cs) = omega arith
depth_pos (Create v t e cs s) = omega arith
depth_pos (Invoke v g t bs) = omega arith
depth_pos (Literal n v s) = omega arith
depth_pos (Op f o g v s) = omega arith
depth_pos (IfC c f g a b) = omega arith
depth_pos (PrintI64 n v s) = omega arith
depth_pos (Exit v) = omega arith

pub stmt_exact : (d : ℕ) → Exact flatten (λ s. depth s ≤ d) (stmt d)
unfolding stmt
stmt_exact zero = record { left = λ s o l. absurd (omega (arith, depth_pos s)); right = λ l. none_read }
stmt_exact (suc d) = step_exact d (stmt_exact d)

pub definition_exact : Exact flatten_def DefOk one_def
unfolding one_def
definition_exact = via_exact _ (λ d. ((d.name, d.context), d.body)) (both_exact definition_head_exact (stmt_exact max_depth)) (λ b o. ((tt, o), refl, refl)) (λ a o. (o.1, refl))

pub definitions_exact : (D : ℕ) → Exact flatten_defs (λ ds. (length ds ≡ D) × All DefOk ds) (times D one_def)
unfolding flatten_defs
definitions_exact D = times_exact definition_exact D

-- definitions are read back from their records
pub parse_flatten : (ds : List Def) → All DefOk ds → definitions (length ds) (flatten_defs ds) ≡ some ds
unfolding definitions
parse_flatten ds o = whole-left (definitions_exact (length ds)) ds (refl, o)

-- and from no others
pub flatten_parse : (D : ℕ) (rs : List Record) (ds : List Def) → definitions D rs ≡ some ds → ((length ds ≡ D) × All DefOk ds) × (rs ≡ flatten_defs ds)
unfolding definitions
flatten_parse D rs ds e = whole-right (definitions_exact D) rs ds e

-- definitions of a small depth are shallow, each
pub shallow-all : (b : ℕ) (ds : List Def) → depth_defs ds ≤ b → All (λ (e : Def). depth e.body ≤ b) ds
shallow-all b [] h = tt
shallow-all b (d ∷ ds) h = (omega arith, shallow-all b ds (omega arith))
