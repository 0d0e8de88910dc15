-- For callers: the place to which the code hops is that of the next statement; and what it means that a search found something, or nothing.
-- Assumes nothing.
use Prim.Native.Nat.{ℕ, ◌+◌, ◌-◌}
use mathlib.Core.Path.{◌≡◌, refl, sym, ap, ◌∙◌, subst}
use mathlib.Core.List.{List, [], ◌∷◌}
use mathlib.Core.Option.{Option, none, some}
use native.Mathlib.Omega.{arith}
use lib.ListN.{length, drop}
use Rattle.syntax.specs.Context.{Context}
use Rattle.syntax.specs.declared.names.Identifier.{Identifier}
use Rattle.syntax.specs.declared.ifc.IfSort.{IfSort}
use Rattle.model.specs.Syntax.{Stmt, IfC, Clauses, end}
use Rattle.image_spec.specs.Records.{Record}
use Rattle.image_spec.specs.Kinds.{kind_of, clauses_of, bodies}
use Rattle.image_spec.specs.Shape.{flatten, flatten_clauses}
use Rattle.std.specs.Prelude as code
use Rattle.std.specs.Prelude.{Some, None}
use Rattle.image_places_spec.specs.Views.{record_of, clauses_in, bodies_of}
use Rattle.image_places_spec.specs.Places.{StmtStands, ClausesStand, BodiesStand}
use Rattle.image_places_spec.proofs.PlaceLaws.{stmt-parts, body-parts}
use Rattle.image_read_parts.specs.Standing.{head_of}
use Rattle.step_spec.specs.Located.{bodies_place, first_of, second_place}
use Rattle.step_places.specs.Heads.{head_record}
use Rattle.step_places.specs.Ends.{statement, hops, Ends, Hopped}
use Rattle.step_places.specs.Searches.{Finds, absent, found}
use Rattle.step_places.proofs.EndLaws.{hops-clauses}

-- the bodies of a statement without clauses begin behind its record
pub first-place : (i : ℕ) (t : Stmt) → clauses_in t ≡ end → i + 1 ≡ bodies_place i t
unfolding flatten
first-place i t e = omega (arith, ap (λ (cs : Clauses). length (flatten_clauses cs)) e)

module _ {rs : List Record} {ends : List ℕ} (h : Ends rs ends) where
  -- behind n clauses
  pub clauses-behind : {d n i r : ℕ} {cs : Clauses} → ClausesStand d n rs i cs → Hopped ends n i r → r ≡ i + length (flatten_clauses cs)
  clauses-behind {cs = cs} s p = p.is ∙ hops-clauses h cs (omega arith) s

  -- behind one statement
  pub body-behind : {d i r : ℕ} {t : Stmt} → StmtStands d rs i t → Hopped ends 1 i r → r ≡ i + length (flatten t)
  unfolding hops
  body-behind {i = i} {t = t} s p = p.is ∙ h.end i (flatten t) (omega arith) (statement t) s.begins

  -- the bodies of the statement at i begin behind its clauses
  pub bodies-place : {d n i r : ℕ} {t : Stmt} → StmtStands d rs i t → n ≡ clauses_of (record_of t) → Hopped ends n (i + 1) r → r ≡ bodies_place i t
  bodies-place {i = i} {r} {t} s e p = clauses-behind (stmt-parts s).clauses (subst (λ (k : ℕ). Hopped ends k (i + 1) r) e p)

  -- .. and the second behind the first
  pub second-place : {d i from r : ℕ} {t : Stmt} (one : Stmt) (ts : List Stmt) → bodies_of t ≡ one ∷ ts → StmtStands d rs i t → from ≡ bodies_place i t → Hopped ends 1 from r
      → r ≡ second_place i t
  second-place {d} {i} {from} {r} {t} one ts e s q p =
      let b = subst (BodiesStand (d - 1) (bodies (kind_of (record_of t))) rs (bodies_place i t)) e (stmt-parts s).bodies in
      body-behind (body-parts one ts b).first (subst (λ (k : ℕ). Hopped ends 1 k r) q p) ∙ ap (λ (z : List Stmt). bodies_place i t + length (flatten (first_of z))) (sym e)

  -- an IfC's else branch
  pub else_place : {d i r : ℕ} (sort : IfSort) (fst : Identifier) (snd : Option Identifier) (thenc elsec : Stmt) → StmtStands d rs i (IfC sort fst snd thenc elsec) → Hopped ends 1 (i + 1) r
      → r ≡ second_place i (IfC sort fst snd thenc elsec)
  else_place {i = i} sort fst snd thenc elsec s p = second-place thenc (elsec ∷ []) refl s (first-place i (IfC sort fst snd thenc elsec) refl) p

-- what was found: its head is at j, its body behind it
pub record FoundAt {A : Type 0} (context_of : A → Context) (body_of : A → Stmt) (kind d : ℕ) (rs : List Record) (place : ℕ) (o : Option A) (j : ℕ) : Type 0 where
  pub what : A
  pub is : o ≡ some what
  pub name : Identifier
  pub head : head_of (drop j rs) ≡ head_record kind name (context_of what)
  pub body : StmtStands d rs (j + 1) (body_of what)
  pub next : j + 1 ≡ place

module _ {A : Type 0} {context_of : A → Context} {body_of : A → Stmt} {kind d : ℕ} {rs : List Record} {place : ℕ} where
  pub found_at : {o : Option A} {r : code.Option ℕ} (j : ℕ) → r ≡ Some j → Finds context_of body_of kind d rs place o r → FoundAt context_of body_of kind d rs place o j
  found_at j e absent = let z : ◌≡◌ {A = ℕ} 0 1 = cc in absurd (omega arith)
  found_at j e (found {a = a} {j = i} x h b p) =
      let z : i ≡ j = cc in
      subst (FoundAt context_of body_of kind d rs place (some a)) z (record { what = a; is = refl; name = x; head = h; body = b; next = p })

  pub none_found : {o : Option A} {r : code.Option ℕ} → r ≡ None → Finds context_of body_of kind d rs place o r → o ≡ none
  none_found e absent = refl
  none_found e (found x h b p) = let z : ◌≡◌ {A = ℕ} 0 1 = cc in absurd (omega arith)
