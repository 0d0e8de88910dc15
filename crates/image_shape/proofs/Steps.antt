-- The steps of the walk: a statement is its record, then its clauses, then its bodies; a program its definitions. Assumes nothing.
use Rattle.std.specs.Option.{option_eq}
use Rattle.std.specs.Prelude.{Option, Some, None, option_and_then}
use Prim.Native.Nat.{ℕ, zero, suc, ◌+◌, ◌-◌, ◌≤◌}
use mathlib.Core.List.{List, [], ◌∷◌}
use mathlib.Core.Bool.{Bool, true, false, cond}
use mathlib.Core.Logic.{◌⊎◌, inl, inr, ⊎_elim}
use mathlib.Core.Path.{◌≡◌, refl, ap, sym, ◌∙◌, subst}
use native.Mathlib.Omega.{arith}
use borrow.Author.Tests.{le-leb, eqb-true, eqb-false, eq-eqb, ne_eqb}
use lib.Dec.{eqb}
use lib.ListN.{length, drop, length-append}
use Rattle.image_spec.specs.Parse.{Parsed, refused, got, Parser, both, times, whole}
use Rattle.image_spec.specs.Records.{Record, definition, substitute, call, let', switch, create, invoke, literal, op, ifc, clause', print, exit}
use Rattle.image_spec.specs.Kinds.{kind_of, clauses_of, bodies}
use Rattle.image_fields.specs.Found.{found_in, stop}
use Rattle.model.specs.Syntax.{Stmt, end}
use Rattle.image_spec.specs.Shape.{flatten, clause_head, definition_head, clauses, step, stmt, one_def, max_depth, definitions}
use Rattle.image_spec.specs.Image.{is_some}
use Rattle.image_spec.proofs.ParseLaws.{Sound, none_read, one-read, Exact}
use Rattle.image_spec.proofs.ShapeLaws.{stmt_exact, clauses_exact, clause_head_exact, definition_head_exact, definition_exact, definitions_exact, Within as Depth}
use Rattle.image_fields.proofs.Stops.{stop-via, stop-both, stop_none, stop-times, stop-within, found-via, never-stops, onward, alike, kept}
use Rattle.image_kinds.specs.Codes.{code_of}
use Rattle.image_shape.specs.Nodes.{node_of, parts_of, parts_at}
use Rattle.image_shape.specs.declared.Node.{Node}
use Rattle.image_shape.specs.declared.Parts.{Parts}
use Rattle.image_shape.proofs.Heads.{place, at_record, at-end}

abbrev follows : ℕ → Node → Parts
follows i n = record { clauses = n.clauses; bodies = bodies (code_of n.kind); next = i + 1 }

-- the bodies and the clauses of a statement, with p for their statements
module _ (d : ℕ) (p : Parser Record Stmt) (x : Exact flatten (Depth d) p) (rs : List Record) where
  past-bodies : ℕ → ℕ → Option ℕ
  past-bodies n at = stop (times n p) rs at

  past-clauses : ℕ → ℕ → Option ℕ
  past-clauses n at = stop (clauses p n) rs at

  no-bodies : (at : ℕ) → at ≤ length rs → past-bodies 0 at ≡ Some at
  unfolding past-bodies
  no-bodies at h = stop_none [] rs at h

  one-body : (at : ℕ) → past-bodies 1 at ≡ stop p rs at
  unfolding past-bodies
  one-body at = stop-times x 0 rs at ∙ kept (past-bodies 0) _ (λ end e. no-bodies end (stop-within p rs at end e))

  two-bodies : (at : ℕ) → past-bodies 2 at ≡ option_and_then (stop p rs) (stop p rs at)
  unfolding past-bodies
  two-bodies at = stop-times x 1 rs at ∙ alike _ _ one-body _

  no-clauses : (at : ℕ) → at ≤ length rs → past-clauses 0 at ≡ Some at
  unfolding past-clauses clauses
  no-clauses at h = stop_none end rs at h

  no-bodies-after : (n at : ℕ) → option_and_then (past-bodies 0) (past-clauses n at) ≡ past-clauses n at
  unfolding past-clauses
  no-bodies-after n at = kept (past-bodies 0) _ (λ end e. no-bodies end (stop-within (clauses p n) rs at end e))

  -- a clause, its body, and then the others
  pub clauses-more : (n at : ℕ) → stop (clauses p (suc n)) rs at ≡ option_and_then (stop (clauses p n) rs) (option_and_then (stop p rs) (stop clause_head rs at))
  unfolding clauses
  clauses-more n at =
      stop-via _ (both clause_head (both p (clauses p n))) rs at
      ∙ (stop-both (both p (clauses p n)) clause_head_exact rs at ∙ onward _ _ _ (stop-both (clauses p n) x rs) _)

  after : (i : ℕ) (r : Record) → i + 1 ≤ length rs → drop i rs ≡ r ∷ drop (i + 1) rs → (kind_of r ≡ 1 → ⊥) → (kind_of r ≡ 11 → ⊥)
      → stop (step p) rs i ≡ option_and_then (past-bodies (bodies (kind_of r))) (past-clauses (clauses_of r) (i + 1))
  unfolding step past-clauses past-bodies
  after i (definition j bs) h l a b = absurd (a refl)
  after i (substitute ps) h l a b = at_record (step p) p rs i (substitute ps) h l (λ n m. found-via _ n (p m)) ∙ (sym (one-body (i + 1)) ∙ ap (option_and_then (past-bodies 1)) (sym (no-clauses (i + 1) h)))
  after i (call j bs) h l a b = at_record {B = ℕ} (step p) (λ m. got 0 m) rs i (call j bs) h l (λ n m. refl) ∙ (stop_none {A = ℕ} 0 rs (i + 1) h ∙ (sym (no-clauses (i + 1) h) ∙ sym (no-bodies-after 0 (i + 1))))
  after i (let' v ty o2 bs) h l a b = at_record (step p) p rs i (let' v ty o2 bs) h l (λ n m. found-via _ n (p m)) ∙ (sym (one-body (i + 1)) ∙ ap (option_and_then (past-bodies 1)) (sym (no-clauses (i + 1) h)))
  after i (switch v ty q) h l a b = at_record (step p) (clauses p q) rs i (switch v ty q) h l (λ n m. found-via _ n (clauses p q m)) ∙ sym (no-bodies-after q (i + 1))
  after i (create v ty o4 q) h l a b = at_record (step p) (both (clauses p q) p) rs i (create v ty o4 q) h l (λ n m. found-via _ n (both (clauses p q) p m)) ∙ (stop-both p (clauses_exact d x q) rs (i + 1) ∙ sym (alike _ _ one-body _))
  after i (invoke v o2 ty bs) h l a b = at_record {B = ℕ} (step p) (λ m. got 0 m) rs i (invoke v o2 ty bs) h l (λ n m. refl) ∙ (stop_none {A = ℕ} 0 rs (i + 1) h ∙ (sym (no-clauses (i + 1) h) ∙ sym (no-bodies-after 0 (i + 1))))
  after i (literal q v) h l a b = at_record (step p) p rs i (literal q v) h l (λ n m. found-via _ n (p m)) ∙ (sym (one-body (i + 1)) ∙ ap (option_and_then (past-bodies 1)) (sym (no-clauses (i + 1) h)))
  after i (op o3 o1 o2 v) h l a b = at_record (step p) p rs i (op o3 o1 o2 v) h l (λ n m. found-via _ n (p m)) ∙ (sym (one-body (i + 1)) ∙ ap (option_and_then (past-bodies 1)) (sym (no-clauses (i + 1) h)))
  after i (ifc u o3 o2) h l a b =
      at_record (step p) (both p p) rs i (ifc u o3 o2) h l (λ n m. found-via _ n (both p p m))
      ∙ (stop-both p x rs (i + 1) ∙ (sym (two-bodies (i + 1)) ∙ ap (option_and_then (past-bodies 2)) (sym (no-clauses (i + 1) h))))
  after i (clause' x bs) h l a b = absurd (b refl)
  after i (print q v) h l a b = at_record (step p) p rs i (print q v) h l (λ n m. found-via _ n (p m)) ∙ (sym (one-body (i + 1)) ∙ ap (option_and_then (past-bodies 1)) (sym (no-clauses (i + 1) h)))
  after i (exit v) h l a b = at_record {B = ℕ} (step p) (λ m. got 0 m) rs i (exit v) h l (λ n m. refl) ∙ (stop_none {A = ℕ} 0 rs (i + 1) h ∙ (sym (no-clauses (i + 1) h) ∙ sym (no-bodies-after 0 (i + 1))))

  never : (i : ℕ) (r : Record) → i + 1 ≤ length rs → drop i rs ≡ r ∷ drop (i + 1) rs → (kind_of r ≡ 1) ⊎ (kind_of r ≡ 11) → stop (step p) rs i ≡ None
  unfolding step
  never i (definition j bs) h l a = at_record {B = ℕ} (step p) (λ m. refused) rs i (definition j bs) h l (λ n m. refl) ∙ never-stops Record ℕ rs (i + 1)
  never i (substitute ps) h l a = absurd (⊎_elim (λ e. omega arith) (λ e. omega arith) a)
  never i (call j bs) h l a = absurd (⊎_elim (λ e. omega arith) (λ e. omega arith) a)
  never i (let' v ty o2 bs) h l a = absurd (⊎_elim (λ e. omega arith) (λ e. omega arith) a)
  never i (switch v ty q) h l a = absurd (⊎_elim (λ e. omega arith) (λ e. omega arith) a)
  never i (create v ty o4 q) h l a = absurd (⊎_elim (λ e. omega arith) (λ e. omega arith) a)
  never i (invoke v o2 ty bs) h l a = absurd (⊎_elim (λ e. omega arith) (λ e. omega arith) a)
  never i (literal q v) h l a = absurd (⊎_elim (λ e. omega arith) (λ e. omega arith) a)
  never i (op o3 o1 o2 v) h l a = absurd (⊎_elim (λ e. omega arith) (λ e. omega arith) a)
  never i (ifc u o3 o2) h l a = absurd (⊎_elim (λ e. omega arith) (λ e. omega arith) a)
  never i (clause' x bs) h l a = at_record {B = ℕ} (step p) (λ m. refused) rs i (clause' x bs) h l (λ n m. refl) ∙ never-stops Record ℕ rs (i + 1)
  never i (print q v) h l a = absurd (⊎_elim (λ e. omega arith) (λ e. omega arith) a)
  never i (exit v) h l a = absurd (⊎_elim (λ e. omega arith) (λ e. omega arith) a)

module _ (rs : List Record) where
  pub stmt_zero : (d i : ℕ) → d ≡ 0 → stop (stmt d) rs i ≡ None
  unfolding stmt
  stmt_zero d i e = rw e (never-stops Record Stmt rs i)

  pub stmt-end : (d i : ℕ) → node_of (drop i rs) ≡ None → stop (stmt d) rs i ≡ None
  unfolding stmt step
  stmt-end zero i h = stmt_zero 0 i refl
  stmt-end (suc d) i h = at-end (step (stmt d)) rs i refl h

  pub stmt-never : (d i : ℕ) (n : Node) → node_of (drop i rs) ≡ Some n → (code_of n.kind ≡ 1) ⊎ (code_of n.kind ≡ 11) → stop (stmt d) rs i ≡ None
  unfolding stmt
  stmt-never zero i n h e = stmt_zero 0 i refl
  stmt-never (suc d) i n h e =
      let v = place rs i n h in
      never d (stmt d) (stmt_exact d) rs i v.head v.fits v.list (subst (λ z. (z ≡ 1) ⊎ (z ≡ 11)) v.kind e)

  -- the clauses and the bodies that follow a statement's record
  pub stmt_node : (d i : ℕ) (n : Node) → node_of (drop i rs) ≡ Some n → (d ≡ 0 → ⊥) → (code_of n.kind ≡ 1 → ⊥) → (code_of n.kind ≡ 11 → ⊥)
      → stop (stmt d) rs i ≡ option_and_then (stop (times (bodies (code_of n.kind)) (stmt (d - 1))) rs) (stop (clauses (stmt (d - 1)) n.clauses) rs (i + 1))
  unfolding stmt past-clauses past-bodies
  stmt_node zero i n h z a b = absurd (z refl)
  stmt_node (suc d) i n h z a b =
      let v = place rs i n h in
      let e : suc d - 1 ≡ d = omega arith in
      after d (stmt d) (stmt_exact d) rs i v.head v.fits v.list (λ q. a (v.kind ∙ q)) (λ q. b (v.kind ∙ q)) ∙ cc (e, v.kind, v.count)

  -- a statement by its parts
  pub parts-missing : (d i : ℕ) → parts_at rs i ≡ None → stop (stmt d) rs i ≡ None
  unfolding parts_at
  parts-missing d i h = go (node_of (drop i rs)) refl h
    where
      some : (n : Node) → node_of (drop i rs) ≡ Some n → (t : Bool) → eqb (code_of n.kind) 1 ≡ t → (u : Bool) → eqb (code_of n.kind) 11 ≡ u
          → cond t None (cond u None (Some (follows i n))) ≡ None → stop (stmt d) rs i ≡ None
      some n e true x u y h = stmt-never d i n e (inl (eqb-true (code_of n.kind) 1 x))
      some n e false x true y h = stmt-never d i n e (inr (eqb-true (code_of n.kind) 11 y))
      some n e false x false y h = absurd (cc)

      go : (o : Option Node) → node_of (drop i rs) ≡ o → parts_of i o ≡ None → stop (stmt d) rs i ≡ None
      go None e h = stmt-end d i e
      go (Some n) e h = some n e (eqb (code_of n.kind) 1) refl (eqb (code_of n.kind) 11) refl h

  pub parts-follow : (d i : ℕ) (v : Parts) → (d ≡ 0 → ⊥) → parts_at rs i ≡ Some v
      → (v.next ≤ length rs) × (stop (stmt d) rs i ≡ option_and_then (stop (times v.bodies (stmt (d - 1))) rs) (stop (clauses (stmt (d - 1)) v.clauses) rs v.next))
  unfolding parts_at
  parts-follow d i v z h = go (node_of (drop i rs)) refl h
    where
      found : Parts → Type 0
      found v = (v.next ≤ length rs) × (stop (stmt d) rs i ≡ option_and_then (stop (times v.bodies (stmt (d - 1))) rs) (stop (clauses (stmt (d - 1)) v.clauses) rs v.next))

      some : (n : Node) → node_of (drop i rs) ≡ Some n → (t : Bool) → eqb (code_of n.kind) 1 ≡ t → (u : Bool) → eqb (code_of n.kind) 11 ≡ u
          → cond t None (cond u None (Some (follows i n))) ≡ Some v → found v
      some n e true x u y h = absurd (cc)
      some n e false x true y h = absurd (cc)
      some n e false x false y h =
          let q : follows i n ≡ v = cc in
          subst found q ((place rs i n e).fits, stmt_node d i n e z (eqb-false (code_of n.kind) 1 x) (eqb-false (code_of n.kind) 11 y))

      go : (o : Option Node) → node_of (drop i rs) ≡ o → parts_of i o ≡ Some v → found v
      go None e h = absurd (cc)
      go (Some n) e h = some n e (eqb (code_of n.kind) 1) refl (eqb (code_of n.kind) 11) refl h

  pub parts-of : (i : ℕ) (n : Node) → node_of (drop i rs) ≡ Some n → (code_of n.kind ≡ 1 → ⊥) → (code_of n.kind ≡ 11 → ⊥)
      → parts_at rs i ≡ Some (record { clauses = n.clauses; bodies = bodies (code_of n.kind); next = i + 1 })
  unfolding parts_at
  parts-of i n h a b = rw (h, ne_eqb (code_of n.kind) 1 a, ne_eqb (code_of n.kind) 11 b)

  pub parts-other : (i : ℕ) (n : Node) → node_of (drop i rs) ≡ Some n → (code_of n.kind ≡ 1) ⊎ (code_of n.kind ≡ 11) → parts_at rs i ≡ None
  unfolding parts_at
  parts-other i n h a = rw h (⊎_elim (λ (q : code_of n.kind ≡ 1). rw (eq-eqb (code_of n.kind) 1 q)) (λ (q : code_of n.kind ≡ 11). rw (eq-eqb (code_of n.kind) 11 q) (same (eqb (code_of n.kind) 1))) a)
    where
      same : (t : Bool) → cond {A = Option Parts} t None None ≡ None
      same true = refl
      same false = refl

  pub parts-end : (i : ℕ) → node_of (drop i rs) ≡ None → parts_at rs i ≡ None
  unfolding parts_at
  parts-end i e = rw e

pub clauses_none : (p : Parser Record Stmt) (rs : List Record) (at : ℕ) → at ≤ length rs → stop (clauses p 0) rs at ≡ Some at
unfolding clauses
clauses_none p rs at h = stop_none end rs at h

definition-once : (rs : List Record) (at : ℕ) → stop one_def rs at ≡ option_and_then (stop (stmt max_depth) rs) (stop definition_head rs at)
unfolding one_def
definition-once rs at = stop-via _ (both definition_head (stmt max_depth)) rs at ∙ stop-both (stmt max_depth) definition_head_exact rs at

-- the definitions of a program
pub definition-more : (n : ℕ) (rs : List Record) (at : ℕ)
    → stop (times (suc n) one_def) rs at ≡ option_and_then (stop (times n one_def) rs) (option_and_then (stop (stmt max_depth) rs) (stop definition_head rs at))
definition-more n rs at = stop-times definition_exact n rs at ∙ ap (option_and_then (stop (times n one_def) rs)) (definition-once rs at)

found-whole : {A : Type 0} {e : A → List Record} {P : A → Type 0} (l : List Record) {r : Parsed Record A} → Sound e P l r
    → is_some (whole r) ≡ option_eq eqb (found_in (length l) r) (Some (length l))
found-whole l none_read = refl
found-whole l (one-read {a = a} {m = []} pa ea) = let k : length l - 0 ≡ length l = omega arith in sym (eq-eqb _ _ k)
found-whole {e = e} l (one-read {a = a} {m = r ∷ m} pa ea) =
    let n = ap length ea ∙ length-append (e a) (r ∷ m) in
    let k : length l - suc (length m) ≡ length l → ⊥ = omega arith in
    sym (ne_eqb _ _ k)

-- a program is its definitions, and nothing more
pub program-ends : (D : ℕ) (rs : List Record) → is_some (definitions D rs) ≡ option_eq eqb (stop (times D one_def) rs 0) (Some (length rs))
unfolding definitions stop
program-ends D rs =
    let z : 0 ≤ length rs = omega arith in
    rw (le-leb _ _ z) (found-whole rs ((definitions_exact D).right rs))
