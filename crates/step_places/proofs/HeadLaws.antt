-- Clauses are heads of kind 11; the first of several heads, and those behind it. Assumes nothing.
use Prim.Native.Nat.{ℕ, suc, ◌+◌, ◌-◌, ◌≤◌}
use mathlib.Core.Path.{◌≡◌, refl, ap, subst}
use mathlib.Core.List.{List, [], ◌∷◌, ◌++◌}
use native.Mathlib.Omega.{arith}
use lib.ListN.{length, drop}
use Rattle.model.specs.Syntax.{Clauses, end, clause, Def}
use Rattle.model.specs.Sizes.{depth, depth_clauses, count_clauses}
use Rattle.image_spec.specs.Parse.{each, All}
use Rattle.image_spec.specs.Records.{Record, clause'}
use Rattle.image_spec.specs.Shape.{flatten, flatten_clauses}
use Rattle.image_places_spec.specs.Places.{Begins, StmtStands, ClausesStand}
use Rattle.image_places_spec.proofs.PlaceLaws.{begins-left, begins-right, begins-head}
use Rattle.step_places.specs.Heads.{head_record, flatten_head, heads_in, HeadsStand}

-- ---- clauses

pub heads-flatten : (cs : Clauses) → flatten_clauses cs ≡ each (flatten_head 11) (heads_in cs)
unfolding flatten heads_in
heads-flatten end = refl
heads-flatten (clause x Γ body rest) = ap (λ (l : List Record). clause' x Γ ∷ (flatten body ++ l)) (heads-flatten rest)

pub heads-count : (cs : Clauses) → length (heads_in cs) ≡ count_clauses cs
unfolding heads_in
heads-count end = refl
heads-count (clause x Γ body rest) = ap suc (heads-count rest)

heads-shallow : (d : ℕ) (cs : Clauses) → depth_clauses cs ≤ d → All (λ (e : Def). depth e.body ≤ d) (heads_in cs)
unfolding heads_in depth
heads-shallow d end h = tt
heads-shallow d (clause x Γ body rest) h = (omega arith, heads-shallow d rest (omega arith))

pub clauses-heads : {d n : ℕ} {rs : List Record} {i : ℕ} {cs : Clauses} → ClausesStand d n rs i cs → HeadsStand 11 d n rs i (heads_in cs)
clauses-heads {d} {n} {rs} {i} {cs} s = record {
  begins = subst (Begins rs i) (heads-flatten cs) s.begins;
  shallow = heads-shallow d cs s.shallow;
  count = omega (arith, heads-count cs, s.count);
}

-- ---- the first head, and the others

pub record HeadParts (kind d n : ℕ) (rs : List Record) (i : ℕ) (e : Def) (es : List Def) : Type 0 where
  pub head : drop i rs ≡ head_record kind e.name e.context ∷ drop (i + 1) rs
  pub body : StmtStands d rs (i + 1) e.body
  pub rest : HeadsStand kind d (n - 1) rs (i + 1 + length (flatten e.body)) es

pub head-parts : {kind d n : ℕ} {rs : List Record} {i : ℕ} (e : Def) (es : List Def) → HeadsStand kind d n rs i (e ∷ es) → HeadParts kind d n rs i e es
head-parts {kind} {d} {n} {rs} {i} e es h =
    let r = head_record kind e.name e.context in
    let a = begins-right (r ∷ []) (flatten e.body ++ each (flatten_head kind) es) h.begins in
    record {
      head = begins-head r _ h.begins;
      body = record { begins = begins-left (flatten e.body) (each (flatten_head kind) es) a; shallow = h.shallow.0 };
      rest = record { begins = begins-right (flatten e.body) (each (flatten_head kind) es) a; shallow = h.shallow.1; count = omega (arith, h.count) };
    }
