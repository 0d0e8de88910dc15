-- What stands at a place is what is read there, and its parts stand behind it: one law for statements, one for clauses, one for bodies,
-- for every walk. Assumes nothing.
use Prim.Native.Nat.{ℕ, ◌+◌, ◌-◌, ◌<◌}
use mathlib.Core.Path.{◌≡◌, sym, ap, ◌∙◌, subst}
use mathlib.Core.List.{List, [], ◌∷◌, ◌++◌, append_assoc}
use native.Mathlib.Omega.{arith}
use lib.ListN.{length, drop, length-append, length-drop}
use lib.Seq.{drop-drop, drop-append_seam}
use Rattle.syntax.specs.Context.{Context}
use Rattle.syntax.specs.declared.names.Identifier.{Identifier}
use Rattle.model.specs.Syntax.{Stmt, Clauses, end, clause}
use Rattle.model.specs.Sizes.{depth}
use Rattle.image_spec.specs.Parse.{each}
use Rattle.image_spec.specs.Records.{Record, clause'}
use Rattle.image_spec.specs.Kinds.{kind_of, clauses_of, bodies}
use Rattle.image_spec.specs.Shape.{flatten, flatten_clauses}
use Rattle.image_spec.proofs.ParseLaws.{times_exact}
use Rattle.image_spec.proofs.ShapeLaws.{stmt_exact, clauses_exact}
use Rattle.image_places_spec.specs.Views.{record_of, clauses_in, bodies_of}
use Rattle.image_places_spec.specs.Places.{stmt_at, clauses_at, bodies_at, Begins, StmtStands, ClausesStand, BodiesStand}
use Rattle.image_places_spec.proofs.ViewLaws.{flatten-view, clauses-counted, bodies-counted, shallower}

-- ── what stands there is what is read there ──

pub stmt_is : {d : ℕ} {rs : List Record} {i : ℕ} {t : Stmt} → StmtStands d rs i t → stmt_at d rs i ≡ t
unfolding stmt_at
stmt_is {d} {rs} {i} {t} h = rw (h.begins.split, (stmt_exact d).left t h.shallow h.begins.rest)

pub clauses-are : {d n : ℕ} {rs : List Record} {i : ℕ} {cs : Clauses} → ClausesStand d n rs i cs → clauses_at d n rs i ≡ cs
unfolding clauses_at
clauses-are {d} {n} {rs} {i} {cs} h = rw (h.begins.split, (clauses_exact d (stmt_exact d) n).left cs (h.count, h.shallow) h.begins.rest)

pub bodies-are : {d n : ℕ} {rs : List Record} {i : ℕ} {ts : List Stmt} → BodiesStand d n rs i ts → bodies_at d n rs i ≡ ts
unfolding bodies_at
bodies-are {d} {n} {rs} {i} {ts} h = rw (h.begins.split, (times_exact (stmt_exact d) n).left ts (h.count, h.shallow) h.begins.rest)

-- ── the parts of what stands there ──

module _ {A : Type 0} {rs : List A} {i : ℕ} where
  pub begins-left : (a b : List A) → Begins rs i (a ++ b) → Begins rs i a
  begins-left a b h = record { rest = b ++ h.rest; split = h.split ∙ append_assoc a b h.rest }

  pub begins-right : (a b : List A) → Begins rs i (a ++ b) → Begins rs (i + length a) b
  begins-right a b h = record {
    rest = h.rest;
    split = sym (drop-drop (length a) i rs) ∙ ap (drop (length a)) (h.split ∙ append_assoc a b h.rest) ∙ drop-append_seam a (b ++ h.rest);
  }

  -- the first, and what follows it
  pub begins-head : (r : A) (b : List A) → Begins rs i (r ∷ b) → drop i rs ≡ r ∷ drop (i + 1) rs
  unfolding begins-right
  begins-head r b h = h.split ∙ ap (λ (l : List A). r ∷ l) (sym (begins-right (r ∷ []) b h).split)

-- a record that stands somewhere is there
pub head-within : {A : Type 0} (rs : List A) (i : ℕ) (r : A) → drop i rs ≡ r ∷ drop (i + 1) rs → i < length rs
head-within rs i r e = omega (arith, ap length e, length-drop i rs)

pub record StmtParts (d : ℕ) (rs : List Record) (i : ℕ) (t : Stmt) : Type 0 where
  pub positive : 0 < d
  pub head : drop i rs ≡ record_of t ∷ drop (i + 1) rs
  pub clauses : ClausesStand (d - 1) (clauses_of (record_of t)) rs (i + 1) (clauses_in t)
  pub bodies : BodiesStand (d - 1) (bodies (kind_of (record_of t))) rs (i + 1 + length (flatten_clauses (clauses_in t))) (bodies_of t)
  pub size : length (flatten t) ≡ 1 + length (flatten_clauses (clauses_in t)) + length (each flatten (bodies_of t))

pub stmt-parts : {d : ℕ} {rs : List Record} {i : ℕ} {t : Stmt} → StmtStands d rs i t → StmtParts d rs i t
stmt-parts {d} {rs} {i} {t} h =
    let b : Begins rs i (record_of t ∷ (flatten_clauses (clauses_in t) ++ each flatten (bodies_of t))) = subst (Begins rs i) (flatten-view t) h.begins in
    let a = begins-right (record_of t ∷ []) (flatten_clauses (clauses_in t) ++ each flatten (bodies_of t)) b in
    let s = shallower d t h.shallow in
    record {
      positive = s.positive;
      head = begins-head (record_of t) _ b;
      clauses = record { begins = begins-left (flatten_clauses (clauses_in t)) (each flatten (bodies_of t)) a; shallow = s.clauses; count = clauses-counted t };
      bodies = record { begins = begins-right (flatten_clauses (clauses_in t)) (each flatten (bodies_of t)) a; shallow = s.bodies; count = bodies-counted t };
      size = ap length (flatten-view t) ∙ omega (arith, length-append (flatten_clauses (clauses_in t)) (each flatten (bodies_of t)));
    }

pub record ClauseParts (d n : ℕ) (rs : List Record) (i : ℕ) (x : Identifier) (Γ : Context) (t : Stmt) (cs : Clauses) : Type 0 where
  pub positive : 0 < n
  pub head : drop i rs ≡ clause' x Γ ∷ drop (i + 1) rs
  pub body : StmtStands d rs (i + 1) t
  pub rest : ClausesStand d (n - 1) rs (i + 1 + length (flatten t)) cs
  pub size : length (flatten_clauses (clause x Γ t cs)) ≡ 1 + length (flatten t) + length (flatten_clauses cs)

pub clause-parts : {d n : ℕ} {rs : List Record} {i : ℕ} (x : Identifier) (Γ : Context) (body : Stmt) (rest : Clauses)
    → ClausesStand d n rs i (clause x Γ body rest) → ClauseParts d n rs i x Γ body rest
unfolding flatten depth
clause-parts {d} {n} {rs} {i} x Γ body rest h =
    let b : Begins rs i (clause' x Γ ∷ (flatten body ++ flatten_clauses rest)) = h.begins in
    let a = begins-right (clause' x Γ ∷ []) (flatten body ++ flatten_clauses rest) b in
    record {
      positive = omega (arith, h.count);
      head = begins-head (clause' x Γ) _ b;
      body = record { begins = begins-left (flatten body) (flatten_clauses rest) a; shallow = omega (arith, h.shallow) };
      rest = record { begins = begins-right (flatten body) (flatten_clauses rest) a; shallow = omega (arith, h.shallow); count = omega (arith, h.count) };
      size = omega (arith, length-append (flatten body) (flatten_clauses rest));
    }

pub no-clauses : {d n : ℕ} {rs : List Record} {i : ℕ} → ClausesStand d n rs i end → n ≡ 0
no-clauses h = sym h.count

pub record BodyParts (d n : ℕ) (rs : List Record) (i : ℕ) (t : Stmt) (ts : List Stmt) : Type 0 where
  pub positive : 0 < n
  pub first : StmtStands d rs i t
  pub rest : BodiesStand d (n - 1) rs (i + length (flatten t)) ts
  pub size : length (each flatten (t ∷ ts)) ≡ length (flatten t) + length (each flatten ts)

pub body-parts : {d n : ℕ} {rs : List Record} {i : ℕ} (t : Stmt) (ts : List Stmt) → BodiesStand d n rs i (t ∷ ts) → BodyParts d n rs i t ts
body-parts {d} {n} {rs} {i} t ts h = record {
  positive = omega (arith, h.count);
  first = record { begins = begins-left (flatten t) (each flatten ts) h.begins; shallow = h.shallow.0 };
  rest = record { begins = begins-right (flatten t) (each flatten ts) h.begins; shallow = h.shallow.1; count = omega (arith, h.count) };
  size = length-append (flatten t) (each flatten ts);
}
