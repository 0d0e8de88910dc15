-- The next statement stands where `next_place_lem` says: bodies, the clause with a tag, the definition with a label or at a place. Assumes nothing.
use Prim.Native.Nat.{ℕ, zero, suc, ◌+◌, ◌-◌, ◌≤◌}
use mathlib.Core.Path.{◌≡◌, refl, sym, ap, subst}
use mathlib.Core.Bool.{Bool, true, false, cond}
use mathlib.Core.List.{List, [], ◌∷◌, append-nil}
use mathlib.Core.Option.{Option, none, some}
use native.Mathlib.Omega.{arith}
use lib.ListN.{length}
use Rattle.syntax.specs.Context.{Context}
use Rattle.syntax.specs.Names.{same_name}
use Rattle.syntax.specs.declared.names.Name.{Name}
use Rattle.model.specs.Syntax.{Stmt, Substitute, Call, Let, Switch, Create, Invoke, Literal, Op, IfC, PrintI64, Exit, Clauses, end, clause, Def, Prog}
use Rattle.model.specs.Machine.{nth, find_def, find_clause_lem}
use Rattle.image_spec.specs.Parse.{each, All}
use Rattle.image_spec.specs.Records.{Record, definition}
use Rattle.image_spec.specs.Kinds.{kind_of, clauses_of, bodies}
use Rattle.image_spec.specs.Shape.{flatten, flatten_def, flatten_defs, DefOk, max_depth}
use Rattle.image_places_spec.specs.Views.{record_of, clauses_in, bodies_of}
use Rattle.image_places_spec.specs.Places.{Begins, StmtStands, ClausesStand, BodiesStand}
use Rattle.image_places_spec.proofs.PlaceLaws.{stmt_is, begins-left, begins-right, stmt-parts, clause-parts, body-parts}
use Rattle.step_spec.specs.Store.{is_a_statement, is_a_create, statement_at, create_at}
use Rattle.step_spec.specs.Located.{Located, Kept, held, made, records_in, stmt_in, bodies_place, first_of, second_place, clause_place, label_place, definition_place}

-- a statement's record is at place i
abbrev pub Stands : Prog → ℕ → Type 0
Stands P i = StmtStands max_depth (records_in P) i (stmt_in P i)

-- .. that of a Create where a cell has its place
abbrev pub KeptStands : Prog → Kept → Type 0
KeptStands P (held tag fields) = Unit {0}
KeptStands P (made i entries) = Stands P i × (create_at P i ≡ true)

-- the places of the state are those of statements
pub record Placed (P : Prog) (l : Located) : Type 0 where
  pub here : Stands P l.position
  pub cells : All (KeptStands P) l.cells

pub deeper : {d : ℕ} {rs : List Record} {i : ℕ} {t : Stmt} (e : ℕ) → d ≤ e → StmtStands d rs i t → StmtStands e rs i t
deeper e h s = record { begins = s.begins; shallow = omega (arith, s.shallow) }

-- what stands there is what is read there
pub stands_as : (P : Prog) (i : ℕ) (t : Stmt) → StmtStands max_depth (records_in P) i t → Stands P i
stands_as P i t s = subst (StmtStands max_depth (records_in P) i) (sym (stmt_is s)) s

-- ── kinds of records ──

is_statement_lem : (t : Stmt) → is_a_statement (record_of t) ≡ true
is_statement_lem (Substitute ps next) = refl
is_statement_lem (Call label args) = refl
is_statement_lem (Let var ty tag args next) = refl
is_statement_lem (Switch var ty cs) = refl
is_statement_lem (Create var ty env cs next) = refl
is_statement_lem (Invoke var tag ty args) = refl
is_statement_lem (Literal lit var next) = refl
is_statement_lem (Op fst op snd var next) = refl
is_statement_lem (IfC sort fst snd thenc elsec) = refl
is_statement_lem (PrintI64 newline var next) = refl
is_statement_lem (Exit var) = refl

pub statement-here : (P : Prog) (i : ℕ) → Stands P i → statement_at P i ≡ true
unfolding statement_at
statement-here P i s = rw (stmt-parts s).head (is_statement_lem (stmt_in P i))

pub create-here : (P : Prog) (i : ℕ) (t : Stmt) → Stands P i → stmt_in P i ≡ t → is_a_create (record_of t) ≡ true → create_at P i ≡ true
unfolding create_at
create-here P i t s e c = rw ((stmt-parts s).head, e) c

-- ── bodies ──

pub first-stands : {rs : List Record} {i : ℕ} {t : Stmt} (next : Stmt) (ts : List Stmt) → bodies_of t ≡ next ∷ ts → StmtStands max_depth rs i t → StmtStands max_depth rs (bodies_place i t) next
first-stands {rs} {i} {t} next ts e s =
    let p = stmt-parts s in
    deeper max_depth (omega arith) (body-parts next ts (subst (λ (z : List Stmt). BodiesStand (max_depth - 1) (bodies (kind_of (record_of t))) rs (bodies_place i t) z) e p.bodies)).first

pub second-stands : {rs : List Record} {i : ℕ} {t : Stmt} (one two : Stmt) → bodies_of t ≡ one ∷ two ∷ [] → StmtStands max_depth rs i t → StmtStands max_depth rs (second_place i t) two
second-stands {rs} {i} {t} one two e s =
    let p = stmt-parts s in
    let b = body-parts one (two ∷ []) (subst (λ (z : List Stmt). BodiesStand (max_depth - 1) (bodies (kind_of (record_of t))) rs (bodies_place i t) z) e p.bodies) in
    let q = deeper max_depth (omega arith) (body-parts two [] b.rest).first in
    subst (λ (z : Stmt). StmtStands max_depth rs (bodies_place i t + length (flatten z)) two) (sym (ap first_of e)) q

-- ── clauses ──

pub clause-stands : {d n : ℕ} {rs : List Record} {i : ℕ} (tag : Name) (cs : Clauses) (c : Context × Stmt) → find_clause_lem tag cs ≡ some c
    → ClausesStand d n rs i cs → StmtStands d rs (clause_place tag cs i) c.1
unfolding clause_place
clause-stands tag end c e s = let z : ◌≡◌ {A = ℕ} 0 1 = cc in absurd (omega arith)
clause-stands {d} {n} {rs} {i} tag (clause x Γ body rest) c e s =
    let p = clause-parts x Γ body rest s in
    go (same_name tag x.name) e p.body (λ f. clause-stands {n = n - 1} tag rest c f p.rest)
  where
    go : (b : Bool) → cond b (some (Γ, body)) (find_clause_lem tag rest) ≡ some c → StmtStands d rs (i + 1) body
        → (find_clause_lem tag rest ≡ some c → StmtStands d rs (clause_place tag rest (i + 1 + length (flatten body))) c.1)
        → StmtStands d rs (cond b (i + 1) (clause_place tag rest (i + 1 + length (flatten body)))) c.1
    go true f h k = let q : body ≡ c.1 = ap (λ (o : Option (Context × Stmt)). elim o [ none ↦ body | some r ↦ r.1 ]) f in subst (StmtStands d rs (i + 1)) q h
    go false f h k = k f

pub clauses-stand : {rs : List Record} {i : ℕ} {t : Stmt} → StmtStands max_depth rs i t → ClausesStand (max_depth - 1) (clauses_of (record_of t)) rs (i + 1) (clauses_in t)
clauses-stand s = (stmt-parts s).clauses

pub entered : {rs : List Record} {i : ℕ} {t : Stmt} (tag : Name) (c : Context × Stmt) → StmtStands max_depth rs i t
    → find_clause_lem tag (clauses_in t) ≡ some c → StmtStands max_depth rs (clause_place tag (clauses_in t) (i + 1)) c.1
entered {t = t} tag c s e = deeper max_depth (omega arith) (clause-stands tag (clauses_in t) c e (clauses-stand s))

-- ── definitions ──

-- definitions stand from i on
record DefsStand (rs : List Record) (i : ℕ) (ds : List Def) : Type 0 where
  begins : Begins rs i (each flatten_def ds)
  shallow : All DefOk ds

record DefParts (rs : List Record) (i : ℕ) (d : Def) (ds : List Def) : Type 0 where
  body : StmtStands max_depth rs (i + 1) d.body
  rest : DefsStand rs (i + 1 + length (flatten d.body)) ds

def-parts : {rs : List Record} {i : ℕ} (d : Def) (ds : List Def) → DefsStand rs i (d ∷ ds) → DefParts rs i d ds
def-parts {rs} {i} d ds s =
    let b = begins-left (flatten_def d) (each flatten_def ds) s.begins in
    record {
      body = record { begins = begins-right (definition d.name d.context ∷ []) (flatten d.body) b; shallow = s.shallow.0 };
      rest = record {
        begins = subst (λ (z : ℕ). Begins rs z (each flatten_def ds)) (omega arith) (begins-right (flatten_def d) (each flatten_def ds) s.begins);
        shallow = s.shallow.1;
      };
    }

all-stand : (P : Prog) → All DefOk P.defs → DefsStand (records_in P) 0 P.defs
unfolding flatten_defs
all-stand P h = record { begins = record { rest = []; split = sym (append-nil _) }; shallow = h }

label-from : {rs : List Record} {i : ℕ} (f : Name) (ds : List Def) (d : Def) → find_def f ds ≡ some d → DefsStand rs i ds → StmtStands max_depth rs (label_place f ds i) d.body
unfolding label_place
label-from f [] d e s = let z : ◌≡◌ {A = ℕ} 0 1 = cc in absurd (omega arith)
label-from {rs} {i} f (x ∷ ds) d e s = let p = def-parts x ds s in go (same_name f x.name.name) e p.body (λ k. label-from {i = i + 1 + length (flatten x.body)} f ds d k p.rest)
  where
    go : (b : Bool) → cond b (some x) (find_def f ds) ≡ some d → StmtStands max_depth rs (i + 1) x.body
        → (find_def f ds ≡ some d → StmtStands max_depth rs (label_place f ds (i + 1 + length (flatten x.body))) d.body)
        → StmtStands max_depth rs (cond b (i + 1) (label_place f ds (i + 1 + length (flatten x.body)))) d.body
    go true k h m = let q : x ≡ d = cc in subst (λ (z : Def). StmtStands max_depth rs (i + 1) z.body) q h
    go false k h m = m k

pub label-stands : (P : Prog) → All DefOk P.defs → (f : Name) (d : Def) → find_def f P.defs ≡ some d → StmtStands max_depth (records_in P) (label_place f P.defs 0) d.body
label-stands P h f d e = label-from f P.defs d e (all-stand P h)

definition-from : {rs : List Record} {i : ℕ} (n : ℕ) (ds : List Def) (d : Def) → nth n ds ≡ some d → DefsStand rs i ds → StmtStands max_depth rs (definition_place n ds i) d.body
unfolding definition_place
definition-from zero [] d e s = let z : ◌≡◌ {A = ℕ} 0 1 = cc in absurd (omega arith)
definition-from (suc n) [] d e s = let z : ◌≡◌ {A = ℕ} 0 1 = cc in absurd (omega arith)
definition-from {rs} {i} zero (x ∷ ds) d e s = let q : x ≡ d = cc in subst (λ (z : Def). StmtStands max_depth rs (i + 1) z.body) q (def-parts x ds s).body
definition-from {i = i} (suc n) (x ∷ ds) d e s = definition-from {i = i + 1 + length (flatten x.body)} n ds d e (def-parts x ds s).rest

pub definition-stands : (P : Prog) → All DefOk P.defs → (n : ℕ) (d : Def) → nth n P.defs ≡ some d → StmtStands max_depth (records_in P) (definition_place n P.defs 0) d.body
definition-stands P h n d e = definition-from n P.defs d e (all-stand P h)
