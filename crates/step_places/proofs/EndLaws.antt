-- Hops over the table of ends: over statements, clauses and definitions in a row, and over all that follows a record; the table as it is filled.
-- Assumes nothing.
use Prim.Native.Nat.{ℕ, suc, ◌+◌, ◌-◌, ◌≤◌, ◌<◌, ◌^◌}
use mathlib.Core.Path.{◌≡◌, refl, sym, ap, ◌∙◌, subst}
use mathlib.Core.Bool.{Bool, true, false, cond}
use mathlib.Core.List.{List, [], ◌∷◌}
use native.Mathlib.Omega.{arith}
use borrow.Author.Tests.{eqb-true, eqb-false}
use lib.Dec.{eqb}
use lib.ListN.{length, drop, get_or, set, length-append, length-drop, length-set, get_or-eq_default}
use lib.Seq.{drop-cons, get_or-set_same, get_or-set_other}
use Rattle.model.specs.Syntax.{Stmt, Clauses, Def}
use Rattle.model.specs.Sizes.{depth}
use Rattle.image_spec.specs.Parse.{each}
use Rattle.image_spec.specs.Records.{Record, definition, clause'}
use Rattle.image_spec.specs.Kinds.{kind_of, clauses_of, bodies}
use Rattle.image_spec.specs.Shape.{flatten, flatten_clauses}
use Rattle.image_read_parts.specs.Standing.{head_of}
use Rattle.image_places_spec.specs.Views.{record_of, clauses_in, bodies_of}
use Rattle.image_places_spec.specs.Places.{Begins, StmtStands, ClausesStand, BodiesStand}
use Rattle.image_places_spec.proofs.ViewLaws.{flatten-view}
use Rattle.image_places_spec.proofs.PlaceLaws.{begins-left, begins-right, begins-head, stmt-parts}
use Rattle.step_places.specs.Heads.{head_record, flatten_head, heads_in}
use Rattle.step_places.specs.Ends.{Part, statement, headed, behind, hops, EndsFrom, Ends, Hopped}
use Rattle.step_places.proofs.HeadLaws.{heads-flatten, heads-count}

-- ---- hops

-- what the code reads: an entry of the table
pub behind-there : (ends : List ℕ) (i : ℕ) → i < length ends → get_or ends i 0 ≡ hops ends 1 i
unfolding hops
behind-there ends i h = cc (drop-cons ends i 0 h, drop-cons ends i i h)

pub behind-past : (ends : List ℕ) (i : ℕ) → length ends ≤ i → i ≡ hops ends 1 i
unfolding hops
behind-past ends i h = sym (get_or-eq_default ends i h)

-- what is left of n hops from `from` behind the first k, from `here` on
pub record HopsLeft (ends : List ℕ) (n from k here : ℕ) : Type 0 where
  pub same : hops ends n from ≡ hops ends (n - k) here
  pub small : from < 2 ^ 32 → here < 2 ^ 32

module _ {ends : List ℕ} {n from : ℕ} where
  pub hops-start : HopsLeft ends n from 0 from
  hops-start = let z : n ≡ n - 0 = omega arith in record { same = ap (λ (m : ℕ). hops ends m from) z; small = λ h. h }

  pub hops-turn : {k here next : ℕ} → HopsLeft ends n from k here → k < n → Hopped ends 1 here next → HopsLeft ends n from (k + 1) next
  unfolding hops
  hops-turn {k} {here} {next} l h r =
      let z : n - k ≡ suc (n - (k + 1)) = omega arith in
      record { same = l.same ∙ (ap (λ (m : ℕ). hops ends m here) z ∙ ap (hops ends (n - (k + 1))) (sym r.is)); small = λ f. r.small (l.small f) }

  pub hops-done : {k here : ℕ} → HopsLeft ends n from k here → n ≤ k → Hopped ends n from here
  unfolding hops
  hops-done {k} {here} l h = let z : n - k ≡ 0 = omega arith in record { is = sym (l.same ∙ ap (λ (m : ℕ). hops ends m here) z); small = l.small }

-- over parts in a row
hops-each : {from : ℕ} {rs : List Record} {ends : List ℕ} {A : Type 0} (records : A → List Record) → ((a : A) → Part (records a)) → (l : List A) (i : ℕ)
    → EndsFrom from rs ends → from ≤ i → Begins rs i (each records l) → hops ends (length l) i ≡ i + length (each records l)
unfolding hops
hops-each records part [] i h f b = omega arith
hops-each {ends = ends} records part (a ∷ l) i h f b =
    ap (hops ends (length l)) (h.end i (records a) f (part a) (begins-left (records a) (each records l) b))
    ∙ (hops-each records part l (i + length (records a)) h (omega arith) (begins-right (records a) (each records l) b)
    ∙ omega (arith, length-append (records a) (each records l)))

module _ {from : ℕ} {rs : List Record} {ends : List ℕ} (h : EndsFrom from rs ends) where
  pub hops-clauses : {d n i : ℕ} (cs : Clauses) → from ≤ i → ClausesStand d n rs i cs → hops ends n i ≡ i + length (flatten_clauses cs)
  hops-clauses {n = n} {i = i} cs f s =
      ap (λ (k : ℕ). hops ends k i) (sym (heads-count cs ∙ s.count))
      ∙ (hops-each (flatten_head 11) (headed 11) (heads_in cs) i h f (subst (Begins rs i) (heads-flatten cs) s.begins)
      ∙ ap (λ (l : List Record). i + length l) (sym (heads-flatten cs)))

  pub hops-bodies : {d n i : ℕ} (ts : List Stmt) → from ≤ i → BodiesStand d n rs i ts → hops ends n i ≡ i + length (each flatten ts)
  hops-bodies {n = n} {i = i} ts f s = ap (λ (k : ℕ). hops ends k i) (sym s.count) ∙ hops-each flatten statement ts i h f s.begins

-- ---- what follows a record

-- behind the clauses and then the bodies that follow a record, the first of which begins at i
abbrev hops_behind : (ends : List ℕ) → Record → ℕ → ℕ
hops_behind ends r i = hops ends (bodies (kind_of r)) (hops ends (clauses_of r) i)

module _ {rs : List Record} {ends : List ℕ} (i : ℕ) (h : EndsFrom (i + 1) rs ends) where
  hops-statement : (t : Stmt) → Begins rs i (flatten t) → hops_behind ends (head_of (drop i rs)) (i + 1) ≡ i + length (flatten t)
  hops-statement t b =
      let s : StmtStands (depth t) rs i t = record { begins = b; shallow = omega arith } in
      let p = stmt-parts s in
      ap (λ (l : List Record). hops_behind ends (head_of l) (i + 1)) p.head
      ∙ (ap (hops ends (bodies (kind_of (record_of t)))) (hops-clauses h (clauses_in t) (omega arith) p.clauses)
      ∙ (hops-bodies h (bodies_of t) (omega arith) p.bodies ∙ omega (arith, p.size)))

  hops-head : (kind : ℕ) (e : Def) → Begins rs i (flatten_head kind e) → hops_behind ends (head_of (drop i rs)) (i + 1) ≡ i + length (flatten_head kind e)
  unfolding hops
  hops-head k e b =
      let r = head_record k e.name e.context in
      ap (λ (l : List Record). hops_behind ends (head_of l) (i + 1)) (begins-head r (flatten e.body) b)
      ∙ (one (eqb k 1) ∙ (h.end (i + 1) (flatten e.body) (omega arith) (statement e.body) (begins-right (r ∷ []) (flatten e.body) b) ∙ omega arith))
    where
      one : (t : Bool) → hops_behind ends (cond t (definition e.name e.context) (clause' e.name e.context)) (i + 1) ≡ behind ends (i + 1)
      one true = refl
      one false = refl

  hops-part : {part : List Record} → Part part → Begins rs i part → hops_behind ends (head_of (drop i rs)) (i + 1) ≡ i + length part
  hops-part (statement t) b = hops-statement t b
  hops-part (headed k e) b = hops-head k e b

-- ---- the table as it is filled

part_some : {part : List Record} → Part part → 0 < length part
part_some (statement t) = omega (arith, ap length (flatten-view t))
part_some (headed k e) = omega arith

-- a part is inside the records
pub part-inside : {rs part : List Record} {i : ℕ} → Part part → Begins rs i part → i + length part ≤ length rs
part-inside {rs} {part} {i} p b = omega (arith, part_some p, sym (length-drop i rs) ∙ (ap length b.split ∙ length-append part b.rest))

-- one more part, before the others
ends_more : {rs : List Record} {ends : List ℕ} (i : ℕ) → i < length ends → EndsFrom (i + 1) rs ends → EndsFrom i rs (set ends i (hops_behind ends (head_of (drop i rs)) (i + 1)))
ends_more {rs} {ends} i n h = record { end = λ j part f p b. go j part f p b (eqb j i) refl }
  where
    e : ℕ
    e = hops_behind ends (head_of (drop i rs)) (i + 1)

    go : (j : ℕ) (part : List Record) → i ≤ j → Part part → Begins rs j part → (t : Bool) → eqb j i ≡ t → behind (set ends i e) j ≡ j + length part
    go j part f p b true q =
        let k : j ≡ i = eqb-true j i q in
        ap (behind (set ends i e)) k ∙ (get_or-set_same ends i e i n ∙ (hops-part i h p (subst (λ (z : ℕ). Begins rs z part) k b) ∙ omega arith))
    go j part f p b false q = let k = eqb-false j i q in get_or-set_other ends i j e j k ∙ h.end j part (omega arith) p b

-- the table before its filling, and when the places from i on are filled
pub record Filled (rs : List Record) (before now : List ℕ) (i : ℕ) : Type 0 where
  pub within : i ≤ length rs
  pub room : length rs ≤ length now
  pub same : length now ≡ length before
  pub right : EndsFrom i rs now

module _ {rs : List Record} {before : List ℕ} where
  pub filled_none : (n : ℕ) → length rs ≡ n → n ≤ length before → Filled rs before before n
  filled_none n e h = record { within = omega arith; room = omega arith; same = refl; right = record { end = λ i part f p b. absurd (omega (arith, part_some p, part-inside p b)) } }

  -- a, b and v are what the code has behind the clauses, behind the bodies, and stores
  pub filled_more : {now : List ℕ} (i n m a b v : ℕ) → 0 < i → n ≡ clauses_of (head_of (drop (i - 1) rs)) → m ≡ bodies (kind_of (head_of (drop (i - 1) rs)))
      → Hopped now n (i - 1 + 1) a → Hopped now m a b → v ≡ b → Filled rs before now i → Filled rs before (set now (i - 1) v) (i - 1)
  filled_more {now} i n m a b v h en em ea eb ev f =
      let k : i ≡ i - 1 + 1 = omega arith in
      let r = head_of (drop (i - 1) rs) in
      let e : hops_behind now r (i - 1 + 1) ≡ v = cc in
      record {
        within = omega (arith, f.within);
        room = rw length-set f.room;
        same = rw length-set f.same;
        right = subst (λ (z : ℕ). EndsFrom (i - 1) rs (set now (i - 1) z)) e (ends_more (i - 1) (omega (arith, f.within, f.room)) (subst (λ (z : ℕ). EndsFrom z rs now) k f.right));
      }

  pub filled_all : {now : List ℕ} (i : ℕ) → i ≡ 0 → Filled rs before now i → Ends rs now
  filled_all {now} i e f = subst (λ (z : ℕ). EndsFrom z rs now) e f.right
