-- Wherever the record of a statement is, that statement stands: the places of a store that question 14 passes are those of statements. (After
-- scope/proofs/Inside.antt, which has the same walk for question 13.) Assumes nothing.
use Prim.Native.Nat.{ℕ, zero, suc, ◌+◌, ◌-◌, ◌≤◌, ◌<◌}
use mathlib.Core.Path.{◌≡◌, refl, sym, ap, ◌∙◌, subst}
use mathlib.Core.Bool.{true, false, false≢true}
use mathlib.Core.List.{List, [], ◌∷◌, append-nil}
use native.Mathlib.Omega.{arith}
use lib.ListN.{length, drop, length-append}
use Rattle.model.specs.Syntax.{Stmt, Clauses, end, clause, Def, Prog}
use Rattle.image_spec.specs.Parse.{each, All}
use Rattle.image_spec.specs.Records.{Record, definition, substitute, call, let', switch, create, invoke, literal, op, ifc, clause', print, exit}
use Rattle.image_spec.specs.Kinds.{kind_of, clauses_of, bodies}
use Rattle.image_spec.specs.Shape.{flatten, flatten_clauses, flatten_def, flatten_defs, DefOk, max_depth}
use Rattle.image_places_spec.specs.Views.{record_of, clauses_in, bodies_of}
use Rattle.image_places_spec.specs.Places.{Begins, StmtStands, ClausesStand, BodiesStand}
use Rattle.image_places_spec.proofs.Runs.{at_place, in_two, no_place}
use Rattle.image_places_spec.proofs.PlaceLaws.{stmt-parts, clause-parts, body-parts, begins-left, begins-right, begins-head}
use Rattle.step_spec.specs.Located.{Kept, held, made, Located, records_in}
use Rattle.step_spec.specs.Store.{is_a_statement, is_a_create, first_record, statement_at, create_at, KeptFits, Fits}
use Rattle.step_spec.proofs.Lists.{record_inside}
use Rattle.step_spec.proofs.Standing.{Stands, KeptStands, Placed, deeper, stands_as}

-- a statement stands at j
record Some (d : ℕ) (rs : List Record) (j : ℕ) : Type 0 where
  stmt : Stmt
  stands : StmtStands d rs j stmt

weaker : {d : ℕ} {rs : List Record} {j : ℕ} (e : ℕ) → d ≤ e → Some d rs j → Some e rs j
weaker e h s = record { stmt = s.stmt; stands = deeper e h s.stands }

-- a record of another kind is not at the place
not_here : (rs : List Record) (i j : ℕ) (r : Record) → drop i rs ≡ r ∷ drop (i + 1) rs → is_a_statement r ≡ false → i ≡ j → first_record is_a_statement (drop j rs) ≡ true → ⊥
not_here rs i j r e n s f = false≢true (sym n ∙ ap (first_record is_a_statement) (sym e) ∙ ap (λ (z : ℕ). first_record is_a_statement (drop z rs)) s ∙ f)

abbrev InStmt : ℕ → Type 0
InStmt d = (t : Stmt) (rs : List Record) (i j : ℕ) → StmtStands d rs i t → i ≤ j → j < i + length (flatten t) → first_record is_a_statement (drop j rs) ≡ true → Some d rs j

in_clauses_lem : (d : ℕ) → InStmt d → (cs : Clauses) (n : ℕ) (rs : List Record) (i j : ℕ) → ClausesStand d n rs i cs → i ≤ j → j < i + length (flatten_clauses cs)
    → first_record is_a_statement (drop j rs) ≡ true → Some d rs j
in_clauses_lem d k end n rs i j s l h f = absurd (no_place l h)
in_clauses_lem d k (clause x Γ body rest) n rs i j s l h f =
    let p = clause-parts x Γ body rest s in
    at_place i (length (flatten body)) (length (flatten_clauses rest)) j l (omega (arith, p.size, h))
    (λ e. absurd (not_here rs i j (clause' x Γ) p.head refl e f))
    (λ a b. k body rs _ j p.body a b f)
    (λ a b. in_clauses_lem d k rest _ rs _ j p.rest a b f)

in_bodies : (d : ℕ) → InStmt d → (ts : List Stmt) (n : ℕ) (rs : List Record) (i j : ℕ) → BodiesStand d n rs i ts → i ≤ j → j < i + length (each flatten ts)
    → first_record is_a_statement (drop j rs) ≡ true → Some d rs j
in_bodies d k [] n rs i j s l h f = absurd (omega arith)
in_bodies d k (t ∷ ts) n rs i j s l h f =
    let p = body-parts t ts s in
    in_two i (length (flatten t)) (length (each flatten ts)) j l (omega (arith, p.size, h))
    (λ b. k t rs i j p.first l b f)
    (λ a b. in_bodies d k ts _ rs _ j p.rest a b f)

in_stmt : (d : ℕ) → InStmt d
in_stmt zero t rs i j s l h f = absurd (omega (arith, (stmt-parts s).positive))
in_stmt (suc d) t rs i j s l h f =
    let p = stmt-parts s in
    let less : suc d - 1 ≡ d = omega arith in
    at_place i (length (flatten_clauses (clauses_in t))) (length (each flatten (bodies_of t))) j l (omega (arith, p.size, h))
    (λ e. record { stmt = t; stands = subst (λ (z : ℕ). StmtStands (suc d) rs z t) e s })
    (λ a b. weaker (suc d) (omega arith) (in_clauses_lem d (in_stmt d) (clauses_in t) _ rs _ j
    (subst (λ (e : ℕ). ClausesStand e (clauses_of (record_of t)) rs (i + 1) (clauses_in t)) less p.clauses) a b f))
    (λ a b. weaker (suc d) (omega arith) (in_bodies d (in_stmt d) (bodies_of t) _ rs _ j
    (subst (λ (e : ℕ). BodiesStand e (bodies (kind_of (record_of t))) rs (i + 1 + length (flatten_clauses (clauses_in t))) (bodies_of t)) less p.bodies) a b f))

in_defs : (ds : List Def) (rs : List Record) (i j : ℕ) → All DefOk ds → Begins rs i (each flatten_def ds) → i ≤ j → j < i + length (each flatten_def ds)
    → first_record is_a_statement (drop j rs) ≡ true → Some max_depth rs j
in_defs [] rs i j w s l h f = absurd (omega arith)
in_defs (x ∷ ds) rs i j w s l h f =
    let b = begins-left (flatten_def x) (each flatten_def ds) s in
    at_place i (length (flatten x.body)) (length (each flatten_def ds)) j l (omega (arith, length-append (flatten_def x) (each flatten_def ds), h))
    (λ e. absurd (not_here rs i j (definition x.name x.context) (begins-head (definition x.name x.context) _ b) refl e f))
    (λ m k. in_stmt max_depth x.body rs (i + 1) j (record { begins = begins-right (definition x.name x.context ∷ []) (flatten x.body) b; shallow = w.0 }) m k f)
    (λ m k. in_defs ds rs (i + 1 + length (flatten x.body)) j w.1 (subst (λ (z : ℕ). Begins rs z (each flatten_def ds)) (omega arith) (begins-right (flatten_def x) (each flatten_def ds) s)) m k f)

module _ (P : Prog) (shallow : All DefOk P.defs) where
  pub statement-stands : (j : ℕ) → statement_at P j ≡ true → Stands P j
  unfolding statement_at flatten_defs
  statement-stands j f =
      let s = in_defs P.defs (records_in P) 0 j shallow (record { rest = []; split = sym (append-nil _) }) (omega arith) (omega (arith, record_inside is_a_statement (records_in P) j f)) f in
      stands_as P j s.stmt s.stands

  create_is_statement : (r : Record) → is_a_create r ≡ true → is_a_statement r ≡ true
  create_is_statement (definition x Γ) e = e
  create_is_statement (substitute ps) e = refl
  create_is_statement (call x Γ) e = refl
  create_is_statement (let' v t g Γ) e = refl
  create_is_statement (switch v t n) e = refl
  create_is_statement (create v t m n) e = refl
  create_is_statement (invoke v g t Γ) e = refl
  create_is_statement (literal z v) e = refl
  create_is_statement (op a o s v) e = refl
  create_is_statement (ifc c a s) e = refl
  create_is_statement (clause' x Γ) e = e
  create_is_statement (print n v) e = refl
  create_is_statement (exit v) e = refl

  create-stands : (j : ℕ) → create_at P j ≡ true → Stands P j
  unfolding create_at statement_at
  create-stands j f = statement-stands j (go (drop j (records_in P)) f)
    where
      go : (rs : List Record) → first_record is_a_create rs ≡ true → first_record is_a_statement rs ≡ true
      go [] e = e
      go (r ∷ rs) e = create_is_statement r e

  kept-stand : (n : ℕ) (ks : List Kept) → All (KeptFits P n) ks → All (KeptStands P) ks
  kept-stand n [] h = tt
  kept-stand n (held tag fields ∷ ks) h = (tt, kept-stand n ks h.1)
  kept-stand n (made i entries ∷ ks) h = ((create-stands i h.0.0, h.0.0), kept-stand n ks h.1)

  -- every state that has bytes stands for one of the machine's
  pub fits-placed : (l : Located) → Fits P l → Placed P l
  fits-placed l h = record { here = statement-stands l.position h.position; cells = kept-stand (length l.cells) l.cells h.cells }
