-- The steps of a walk over records, for every walk: where a statement's clauses and its bodies stand (`above`, `below`), and what is left
-- of clauses and of bodies in a loop (`ClausesLeft`, `BodiesLeft`), with whatever the walk says of them: P. Assumes nothing.
use Prim.Native.Nat.{ℕ, ◌+◌, ◌-◌, ◌<◌}
use mathlib.Core.Path.{◌≡◌, sym, ap, ◌∙◌, subst}
use mathlib.Core.List.{List, [], ◌∷◌}
use native.Mathlib.Omega.{arith}
use lib.ListN.{length, drop}
use Rattle.syntax.specs.Context.{Context}
use Rattle.syntax.specs.declared.names.Identifier.{Identifier}
use Rattle.model.specs.Syntax.{Stmt, Clauses, end, clause}
use Rattle.image_spec.specs.Parse.{each}
use Rattle.image_spec.specs.Records.{Record, clause'}
use Rattle.image_spec.specs.Kinds.{kind_of, clauses_of, bodies}
use Rattle.image_spec.specs.Shape.{flatten, flatten_clauses}
use Rattle.image_places_spec.specs.Views.{record_of, clauses_in, bodies_of}
use Rattle.image_places_spec.specs.Places.{stmt_at, clauses_at, bodies_at, StmtStands, ClausesStand, BodiesStand}
use Rattle.image_places_spec.proofs.PlaceLaws.{stmt_is, clauses-are, bodies-are, head-within, stmt-parts, clause-parts, body-parts}

-- ── a statement ──

-- what follows the record r of the statement t at i: first the clauses
pub record Above (d : ℕ) (rs : List Record) (i n : ℕ) (t : Stmt) (cs : Clauses) : Type 0 where
  pub positive : 0 < d
  pub clauses : ClausesStand (d - 1) n rs (i + 1) cs
  pub are_clauses : cs ≡ clauses_in t

-- .. and from `next` the bodies
pub record Below (d : ℕ) (rs : List Record) (i n m next : ℕ) (t : Stmt) (r : Record) (cs : Clauses) (ts : List Stmt) : Type 0 where
  pub positive : 0 < d
  pub bodies : BodiesStand (d - 1) m rs next ts
  pub size : i + length (flatten t) ≡ next + length (each flatten ts)
  pub clauses_size : next ≡ i + 1 + length (flatten_clauses cs)
  pub is_record : r ≡ record_of t
  pub are_clauses : cs ≡ clauses_in t
  pub are_bodies : ts ≡ bodies_of t

module _ (d : ℕ) (rs : List Record) (i : ℕ) (h : StmtStands d rs i (stmt_at d rs i)) where
  pub head-inside : i < length rs
  head-inside = head-within rs i (record_of (stmt_at d rs i)) (stmt-parts h).head

  module _ (r : Record) (is_record : r ≡ record_of (stmt_at d rs i)) where
    -- the clauses, as many as the record says
    stand : (n : ℕ) → n ≡ clauses_of r → ClausesStand (d - 1) n rs (i + 1) (clauses_in (stmt_at d rs i))
    stand n e = subst (λ (z : ℕ). ClausesStand (d - 1) z rs (i + 1) (clauses_in (stmt_at d rs i))) (sym (e ∙ ap clauses_of is_record)) (stmt-parts h).clauses

    pub above : (n : ℕ) → n ≡ clauses_of r → Above d rs i n (stmt_at d rs i) (clauses_at (d - 1) n rs (i + 1))
    above n e =
        let c = stand n e in
        record { positive = (stmt-parts h).positive; clauses = subst (ClausesStand (d - 1) n rs (i + 1)) (sym (clauses-are c)) c; are_clauses = clauses-are c }

    pub below : (n m next : ℕ) → n ≡ clauses_of r → m ≡ bodies (kind_of r) → next ≡ i + 1 + length (flatten_clauses (clauses_at (d - 1) n rs (i + 1)))
        → Below d rs i n m next (stmt_at d rs i) r (clauses_at (d - 1) n rs (i + 1)) (bodies_at (d - 1) m rs next)
    below n m next e q k =
        let t = stmt_at d rs i in
        let p = stmt-parts h in
        let cs : clauses_at (d - 1) n rs (i + 1) ≡ clauses_in t = clauses-are (stand n e) in
        let at : next ≡ i + 1 + length (flatten_clauses (clauses_in t)) = k ∙ ap (λ (z : Clauses). i + 1 + length (flatten_clauses z)) cs in
        let b : BodiesStand (d - 1) m rs next (bodies_of t) = subst (λ (z : ℕ). BodiesStand (d - 1) z rs next (bodies_of t)) (sym (q ∙ ap (λ (z : Record). bodies (kind_of z)) is_record))
        (subst (λ (z : ℕ). BodiesStand (d - 1) (bodies (kind_of (record_of t))) rs z (bodies_of t)) (sym at) p.bodies) in
        let ts = bodies-are b in
        record {
          positive = p.positive;
          bodies = subst (BodiesStand (d - 1) m rs next) (sym ts) b;
          size = omega (arith, p.size, at, ap (λ (z : List Stmt). length (each flatten z)) ts);
          clauses_size = k;
          is_record = is_record;
          are_clauses = cs;
          are_bodies = ts;
        }

-- what is so of a statement by its record, its clauses and its bodies
pub by-view : {d : ℕ} {rs : List Record} {i n m next : ℕ} {t : Stmt} {r : Record} {cs : Clauses} {ts : List Stmt} → Below d rs i n m next t r cs ts
    → (Q : Record → Clauses → List Stmt → Type 0) → Q (record_of t) (clauses_in t) (bodies_of t) → Q r cs ts
by-view {t = t} {r = r} {cs = cs} {ts = ts} b Q x =
    subst (λ (z : List Stmt). Q r cs z) (sym b.are_bodies)
    (subst (λ (z : Clauses). Q r z (bodies_of t)) (sym b.are_clauses)
    (subst (λ (z : Record). Q z (clauses_in t) (bodies_of t)) (sym b.is_record) x))

-- ── what is left of clauses ──

-- `left` clauses from `here` on, that end at `place`
pub record ClausesLeft (d : ℕ) (rs : List Record) (place left here : ℕ) (P : Clauses → Type 0) : Type 0 where
  pub rest : Clauses
  pub stand : ClausesStand d left rs here rest
  pub size : place ≡ here + length (flatten_clauses rest)
  pub holds : P rest

-- the first of them, and those behind it
pub record ClauseNext (d : ℕ) (rs : List Record) (place left here : ℕ) (P : Clauses → Type 0) : Type 0 where
  pub name : Identifier
  pub context : Context
  pub rest : Clauses
  pub holds : P (clause name context (stmt_at d rs (here + 1)) rest)
  pub inside : here < length rs
  pub head : drop here rs ≡ clause' name context ∷ drop (here + 1) rs
  pub body : StmtStands d rs (here + 1) (stmt_at d rs (here + 1))
  pub stand : ClausesStand d (left - 1) rs (here + 1 + length (flatten (stmt_at d rs (here + 1)))) rest
  pub size : place ≡ here + 1 + length (flatten (stmt_at d rs (here + 1))) + length (flatten_clauses rest)

module _ {d : ℕ} {rs : List Record} {place left here : ℕ} {P : Clauses → Type 0} where
  pub clause-next : ClausesLeft d rs place left here P → 0 < left → ClauseNext d rs place left here P
  clause-next l h = go l.rest l.stand l.size l.holds
    where
      go : (cs : Clauses) → ClausesStand d left rs here cs → place ≡ here + length (flatten_clauses cs) → P cs → ClauseNext d rs place left here P
      go end s z k = absurd (omega (arith, s.count))
      go (clause x Γ body cs) s z k =
          let p = clause-parts x Γ body cs s in
          let i : stmt_at d rs (here + 1) ≡ body = stmt_is p.body in
          record {
            name = x;
            context = Γ;
            rest = cs;
            holds = subst (λ (w : Stmt). P (clause x Γ w cs)) (sym i) k;
            inside = head-within rs here (clause' x Γ) p.head;
            head = p.head;
            body = subst (StmtStands d rs (here + 1)) (sym i) p.body;
            stand = subst (λ (w : Stmt). ClausesStand d (left - 1) rs (here + 1 + length (flatten w)) cs) (sym i) p.rest;
            size = omega (arith, z, p.size, ap (λ (w : Stmt). length (flatten w)) i);
          }

  -- behind the first
  pub clause-turn : (n : ClauseNext d rs place left here P) {next : ℕ} {Q : Clauses → Type 0} → next ≡ here + 1 + length (flatten (stmt_at d rs (here + 1))) → Q n.rest
      → ClausesLeft d rs place (left - 1) next Q
  clause-turn n e q = record { rest = n.rest; stand = subst (λ (w : ℕ). ClausesStand d (left - 1) rs w n.rest) (sym e) n.stand; size = omega (arith, n.size, e); holds = q }

  pub clauses-end : ClausesLeft d rs place left here P → left ≡ 0 → (here ≡ place) × P end
  unfolding flatten
  clauses-end l h = go l.rest l.stand l.size l.holds
    where
      go : (cs : Clauses) → ClausesStand d left rs here cs → place ≡ here + length (flatten_clauses cs) → P cs → (here ≡ place) × P end
      go end s z k = (omega (arith, z), k)
      go (clause x Γ body cs) s z k = absurd (omega (arith, s.count))

-- ── what is left of bodies ──

pub record BodiesLeft (d : ℕ) (rs : List Record) (place left here : ℕ) (P : List Stmt → Type 0) : Type 0 where
  pub rest : List Stmt
  pub stand : BodiesStand d left rs here rest
  pub size : place ≡ here + length (each flatten rest)
  pub holds : P rest

pub record BodyNext (d : ℕ) (rs : List Record) (place left here : ℕ) (P : List Stmt → Type 0) : Type 0 where
  pub rest : List Stmt
  pub holds : P (stmt_at d rs here ∷ rest)
  pub body : StmtStands d rs here (stmt_at d rs here)
  pub stand : BodiesStand d (left - 1) rs (here + length (flatten (stmt_at d rs here))) rest
  pub size : place ≡ here + length (flatten (stmt_at d rs here)) + length (each flatten rest)

module _ {d : ℕ} {rs : List Record} {place left here : ℕ} {P : List Stmt → Type 0} where
  pub body-next : BodiesLeft d rs place left here P → 0 < left → BodyNext d rs place left here P
  body-next l h = go l.rest l.stand l.size l.holds
    where
      go : (ts : List Stmt) → BodiesStand d left rs here ts → place ≡ here + length (each flatten ts) → P ts → BodyNext d rs place left here P
      go [] s z k = absurd (omega (arith, s.count))
      go (t ∷ ts) s z k =
          let p = body-parts t ts s in
          let i : stmt_at d rs here ≡ t = stmt_is p.first in
          record {
            rest = ts;
            holds = subst (λ (w : Stmt). P (w ∷ ts)) (sym i) k;
            body = subst (StmtStands d rs here) (sym i) p.first;
            stand = subst (λ (w : Stmt). BodiesStand d (left - 1) rs (here + length (flatten w)) ts) (sym i) p.rest;
            size = omega (arith, z, p.size, ap (λ (w : Stmt). length (flatten w)) i);
          }

  pub body-turn : (n : BodyNext d rs place left here P) {next : ℕ} {Q : List Stmt → Type 0} → next ≡ here + length (flatten (stmt_at d rs here)) → Q n.rest
      → BodiesLeft d rs place (left - 1) next Q
  body-turn n e q = record { rest = n.rest; stand = subst (λ (w : ℕ). BodiesStand d (left - 1) rs w n.rest) (sym e) n.stand; size = omega (arith, n.size, e); holds = q }

  pub bodies-end : BodiesLeft d rs place left here P → left ≡ 0 → (here ≡ place) × P []
  bodies-end l h = go l.rest l.stand l.size l.holds
    where
      go : (ts : List Stmt) → BodiesStand d left rs here ts → place ≡ here + length (each flatten ts) → P ts → (here ≡ place) × P []
      go [] s z k = (omega (arith, z), k)
      go (t ∷ ts) s z k = absurd (omega (arith, s.count))
