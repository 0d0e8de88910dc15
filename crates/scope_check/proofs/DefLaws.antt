-- The steps over definitions: what is left of them in a loop (`DefsLeft`), with whatever the loop says of them: P; and how deep they are.
-- (The walk over them: DefWalks.antt.) Assumes nothing.
use Prim.Native.Nat.{ℕ, ◌+◌, ◌-◌, ◌≤◌, ◌<◌, max}
use mathlib.Core.Path.{◌≡◌, refl, sym, ap, ◌∙◌, subst}
use mathlib.Core.Bool.{Bool, true, false, ◌&&◌}
use mathlib.Core.List.{List, [], ◌∷◌, ◌++◌}
use native.Mathlib.Omega.{arith}
use borrow.Author.Tests.{le-leb, lt-leb, leb-true, leb-false}
use lib.Dec.{leb}
use lib.ListN.{length, drop, length-append, length-drop}
use Rattle.syntax.specs.Context.{Context}
use Rattle.syntax.specs.declared.names.Identifier.{Identifier}
use Rattle.model.specs.Syntax.{Stmt, Def}
use Rattle.model.specs.Sizes.{depth, depth_defs}
use Rattle.image_spec.specs.Parse.{Parsed, refused, got}
use Rattle.image_spec.specs.Records.{Record, definition}
use Rattle.image_spec.specs.Kinds.{kind_of}
use Rattle.image_spec.specs.Shape.{flatten, flatten_defs, stmt}
use Rattle.image_spec.proofs.ParseLaws.{Sound, one-read}
use Rattle.image_spec.proofs.ShapeLaws.{stmt_exact}
use Rattle.image_fields.specs.Found.{found_in, stop}
use Rattle.std.specs.Prelude.{Some, None}
use Rattle.image_read_parts.specs.Standing.{head_of}
use Rattle.image_places_spec.specs.Places.{stmt_at, Begins, StmtStands}
use Rattle.image_places_spec.proofs.ViewLaws.{flatten-view}
use Rattle.image_places_spec.proofs.PlaceLaws.{stmt_is, begins-left, begins-right, begins-head, head-within}
use Rattle.scope_spec.proofs.FlatLaws.{leb_max}
use Rattle.scope_check.specs.Definitions.{DefsStand}

-- ── the first definition, and the others ──

pub record DefParts (d n : ℕ) (rs : List Record) (i : ℕ) (e : Def) (es : List Def) : Type 0 where
  pub head : drop i rs ≡ definition e.name e.context ∷ drop (i + 1) rs
  pub body : StmtStands d rs (i + 1) e.body
  pub rest : DefsStand d (n - 1) rs (i + 1 + length (flatten e.body)) es

pub def-parts : {d n : ℕ} {rs : List Record} {i : ℕ} (e : Def) (es : List Def) → DefsStand d n rs i (e ∷ es) → DefParts d n rs i e es
unfolding flatten_defs
def-parts {d} {n} {rs} {i} e es h =
    let r = definition e.name e.context in
    let a = begins-right (r ∷ []) (flatten e.body ++ flatten_defs es) h.begins in
    record {
      head = begins-head r _ h.begins;
      body = record { begins = begins-left (flatten e.body) (flatten_defs es) a; shallow = h.shallow.0 };
      rest = record { begins = begins-right (flatten e.body) (flatten_defs es) a; shallow = h.shallow.1; count = omega (arith, h.count) };
    }

-- ── what is left of definitions ──

pub record DefsLeft (d : ℕ) (rs : List Record) (left here : ℕ) (P : List Def → Type 0) : Type 0 where
  pub rest : List Def
  pub stand : DefsStand d left rs here rest
  pub holds : P rest

-- the number that is left, as a loop that counts up says it
pub recount : {d : ℕ} {rs : List Record} {left more here : ℕ} {P : List Def → Type 0} → left ≡ more → DefsLeft d rs left here P → DefsLeft d rs more here P
recount {d} {rs} {here = here} {P = P} e = subst (λ (n : ℕ). DefsLeft d rs n here P) e

-- the definition of this name and these parameters
abbrev pub def_of : Identifier → Context → Stmt → Def
def_of x Γ t = record { name = x; context = Γ; body = t }

-- the first of them, and those behind it
pub record DefNext (d : ℕ) (rs : List Record) (left here : ℕ) (P : List Def → Type 0) : Type 0 where
  pub name : Identifier
  pub context : Context
  pub rest : List Def
  pub holds : P (def_of name context (stmt_at d rs (here + 1)) ∷ rest)
  pub inside : here < length rs
  pub head : drop here rs ≡ definition name context ∷ drop (here + 1) rs
  pub body : StmtStands d rs (here + 1) (stmt_at d rs (here + 1))
  pub stand : DefsStand d (left - 1) rs (here + 1 + length (flatten (stmt_at d rs (here + 1)))) rest

module _ {d : ℕ} {rs : List Record} {left here : ℕ} {P : List Def → Type 0} where
  pub def-next : DefsLeft d rs left here P → 0 < left → DefNext d rs left here P
  def-next l h = go l.rest l.stand l.holds
    where
      go : (es : List Def) → DefsStand d left rs here es → P es → DefNext d rs left here P
      go [] s k = absurd (omega (arith, s.count))
      go (e ∷ es) s k =
          let p = def-parts e es s in
          let i : stmt_at d rs (here + 1) ≡ e.body = stmt_is p.body in
          record {
            name = e.name;
            context = e.context;
            rest = es;
            holds = subst (λ (w : Stmt). P (def_of e.name e.context w ∷ es)) (sym i) k;
            inside = head-within rs here (definition e.name e.context) p.head;
            head = p.head;
            body = subst (StmtStands d rs (here + 1)) (sym i) p.body;
            stand = subst (λ (w : Stmt). DefsStand d (left - 1) rs (here + 1 + length (flatten w)) es) (sym i) p.rest;
          }

  pub def-turn : (n : DefNext d rs left here P) {next : ℕ} {Q : List Def → Type 0} → next ≡ here + 1 + length (flatten (stmt_at d rs (here + 1))) → Q n.rest
      → DefsLeft d rs (left - 1) next Q
  def-turn n e q = record { rest = n.rest; stand = subst (λ (w : ℕ). DefsStand d (left - 1) rs w n.rest) (sym e) n.stand; holds = q }

  pub def-kind : DefNext d rs left here P → kind_of (head_of (drop here rs)) ≡ 1
  def-kind n = ap (λ (l : List Record). kind_of (head_of l)) n.head

  pub defs-end : DefsLeft d rs left here P → left ≡ 0 → P []
  defs-end l h = go l.rest l.stand l.holds
    where
      go : (es : List Def) → DefsStand d left rs here es → P es → P []
      go [] s k = k
      go (e ∷ es) s k = absurd (omega (arith, s.count))

-- ── where the walk of question 5 stops, at a smaller depth ──

module _ (d : ℕ) (rs : List Record) (i : ℕ) (t : Stmt) (b : Begins rs i (flatten t)) where
  inside : (i < length rs) × (length rs ≡ i + length (flatten t) + length b.rest)
  inside =
      let n = ap length (flatten-view t) in
      let k = sym (length-drop i rs) ∙ (ap length b.split ∙ length-append (flatten t) b.rest) in
      (omega arith, omega arith)

  pub stop-shallow : depth t ≤ d → stop (stmt d) rs i ≡ Some (i + length (flatten t))
  unfolding stop
  stop-shallow h =
      let k = inside in
      let a : i ≤ length rs = omega (arith, k.0) in
      let e : length rs - length b.rest ≡ i + length (flatten t) = omega (arith, k.1) in
      rw (le-leb _ _ a, b.split, (stmt_exact d).left t h b.rest) (ap Some e)

  pub stop-deep : d < depth t → stop (stmt d) rs i ≡ None
  unfolding stop
  stop-deep h =
      let k = inside in
      let a : i ≤ length rs = omega (arith, k.0) in
      rw (le-leb _ _ a) (go (stmt d (drop i rs)) ((stmt_exact d).right (drop i rs)))
    where
      go : (p : Parsed Record Stmt) → Sound flatten (λ (z : Stmt). depth z ≤ d) (drop i rs) p → found_in (length rs) p ≡ None
      go refused q = refl
      go (got u m) (one-read o e) =
          let y : stmt (depth t) (drop i rs) ≡ got t b.rest = ap (stmt (depth t)) b.split ∙ (stmt_exact (depth t)).left t (omega arith) b.rest in
          let z : stmt (depth t) (drop i rs) ≡ got u m = ap (stmt (depth t)) e ∙ (stmt_exact (depth t)).left u (omega arith) m in
          let x : t ≡ u = cc (y, z) in
          absurd (omega (arith, ap depth x))

-- ── the depth of what is left ──

pub record Shallow (whole : Bool) (es : List Def) : Type 0 where
  pub same : whole ≡ leb (depth_defs es) 64

-- a depth within the limit does not decide
deeper : (a b : ℕ) → a ≤ 64 → leb (max a b) 64 ≡ leb b 64
deeper a b h = leb_max a b 64 ∙ ap (λ (t : Bool). t && leb b 64) (le-leb a 64 h)

module _ {rs : List Record} {whole : Bool} {left at : ℕ} (n : DefNext 128 rs left at (Shallow whole)) where
  -- the walk that goes 64 deep came through the first definition
  pub depth-turn : (next : ℕ) → stop (stmt 64) rs (at + 1) ≡ Some next → DefsLeft 128 rs (left - 1) next (Shallow whole)
  depth-turn next q = go (leb (depth body) 64) refl
    where
      body : Stmt
      body = stmt_at 128 rs (at + 1)

      go : (t : Bool) → leb (depth body) 64 ≡ t → DefsLeft 128 rs (left - 1) next (Shallow whole)
      go true f =
          let a = leb-true (depth body) 64 f in
          let e : at + 1 + length (flatten body) ≡ next = cc (stop-shallow 64 rs (at + 1) body n.body.begins a, q) in
          def-turn n (sym e) (record { same = n.holds.same ∙ deeper (depth body) (depth_defs n.rest) a })
      go false f = let z : ◌≡◌ {A = ℕ} 0 1 = cc (stop-deep 64 rs (at + 1) body n.body.begins (leb-false (depth body) 64 f), q) in absurd (omega arith)

  -- .. or did not
  pub depth-no : stop (stmt 64) rs (at + 1) ≡ None → whole ≡ false
  depth-no q = go (leb (depth body) 64) refl
    where
      body : Stmt
      body = stmt_at 128 rs (at + 1)

      go : (t : Bool) → leb (depth body) 64 ≡ t → whole ≡ false
      go true f = let z : ◌≡◌ {A = ℕ} 0 1 = cc (stop-shallow 64 rs (at + 1) body n.body.begins (leb-true (depth body) 64 f), q) in absurd (omega arith)
      go false f = n.holds.same ∙ lt-leb (max (depth body) (depth_defs n.rest)) 64 (omega (arith, leb-false (depth body) 64 f))
