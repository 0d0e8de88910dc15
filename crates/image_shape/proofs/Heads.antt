-- A record at a place of a list: its kind decides what the walk reads there. Assumes nothing.
use Rattle.std.specs.Prelude.{Some, None}
use Prim.Native.Nat.{ℕ, ◌+◌, ◌-◌, ◌≤◌}
use mathlib.Core.List.{List, [], ◌∷◌}
use mathlib.Core.Bool.{Bool, true, false, cond}
use mathlib.Core.Path.{◌≡◌, refl, ap, sym, ◌∙◌}
use mathlib.Core.Logic.{◌⊎◌, inl, inr}
use native.Mathlib.Omega.{arith}
use borrow.Author.Tests.{le-leb, ne_eqb}
use lib.Dec.{leb, eqb}
use lib.ListN.{length, drop, get_or, length-drop}
use lib.Seq.{drop-drop}
use Rattle.image_spec.specs.Parse.{refused, got, Parser}
use Rattle.image_spec.specs.Records.{Record, definition, substitute, call, let', switch, create, invoke, literal, op, ifc, clause', print, exit}
use Rattle.image_spec.specs.Kinds.{kind_of, clauses_of}
use Rattle.image_fields.specs.Found.{found_in, stop}
use Rattle.image_spec.specs.Shape.{clause_head, definition_head}
use Rattle.image_fields.proofs.Stops.{stop_none, never-stops}
use Rattle.image_directory.specs.Slots.{records_in, Ready}
use Rattle.image_directory.specs.declared.Frame.{Frame}
use Rattle.image_directory.specs.declared.Slot.{Slot}
use Rattle.image_directory.proofs.Places.{records-length, Spot}
use Rattle.image_kinds.specs.Codes.{code_of, named_kind}
use Rattle.image_kinds.specs.declared.kinds.Kind.{Kind}
use Rattle.image_kinds.specs.declared.kinds.Kind.TheVariants.{Switch, Create}
use Rattle.image_kinds.proofs.KindNames.{kind-code, code-kind, same_code}
use Rattle.image_shape.specs.Nodes.{node_of, IsHead, head_parser}
use Rattle.image_shape.specs.declared.Node.{Node}

abbrev node : Kind → ℕ → Node
node k c = record { kind = k; clauses = c }

-- the node of the record at a place of an image, by its kind
pub spot_node : {g : Frame} {s : List ℕ} {i : ℕ} {v : Slot} → Spot g s i v → (k : Kind) → code_of k ≡ get_or s v.offset 0
    → node_of (drop i (records_in g s))
    ≡ Some (record { kind = k; clauses = cond (eqb (code_of k) 5) (get_or s (v.offset + v.size - 1) 0) (cond (eqb (code_of k) 6) (get_or s (v.offset + v.size - 1) 0) 0) })
spot_node {s = s} {v = v} t k e =
    ap node_of t.list ∙ (ap (λ k. Some (node k (clauses_of t.head))) (sym (code-kind k t.head (e ∙ t.says.kind))) ∙ ap (λ c. Some (node k c)) (rw (← e) at t.says.count))

-- .. of a Switch or a Create, and of any other
pub spot_counted : {g : Frame} {s : List ℕ} {i : ℕ} {v : Slot} → Spot g s i v → (k : Kind) → code_of k ≡ get_or s v.offset 0 → (k ≡ Switch) ⊎ (k ≡ Create)
    → node_of (drop i (records_in g s)) ≡ Some (record { kind = k; clauses = get_or s (v.offset + v.size - 1) 0 })
spot_counted t k e (inl q) = spot_node t k e ∙ rw q refl
spot_counted t k e (inr q) = spot_node t k e ∙ rw q refl

pub spot_plain : {g : Frame} {s : List ℕ} {i : ℕ} {v : Slot} → Spot g s i v → (k : Kind) → code_of k ≡ get_or s v.offset 0 → (k ≡ Switch → ⊥) → (k ≡ Create → ⊥)
    → node_of (drop i (records_in g s)) ≡ Some (record { kind = k; clauses = 0 })
spot_plain t k e a b = spot_node t k e ∙ rw (ne_eqb (code_of k) 5 (λ q. a (same_code k Switch q)), ne_eqb (code_of k) 6 (λ q. b (same_code k Create q))) refl

-- what a list has at a place
pub record Place (rs : List Record) (i : ℕ) (n : Node) : Type 0 where
  pub head : Record
  pub fits : i + 1 ≤ length rs
  pub list : drop i rs ≡ head ∷ drop (i + 1) rs
  pub kind : code_of n.kind ≡ kind_of head
  pub count : n.clauses ≡ clauses_of head

pub place : (rs : List Record) (i : ℕ) (n : Node) → node_of (drop i rs) ≡ Some n → Place rs i n
place rs i n h = go (drop i rs) refl h
  where
    go : (l : List Record) → drop i rs ≡ l → node_of l ≡ Some n → Place rs i n
    go [] e h = absurd (cc)
    go (r ∷ l) e h =
        let q : node (named_kind r) (clauses_of r) ≡ n = cc in
        record {
          head = r;
          fits = omega (arith, sym (length-drop i rs) ∙ ap length e);
          list = e ∙ ap (λ z. r ∷ z) (sym (ap (drop 1) e) ∙ drop-drop 1 i rs);
          kind = ap (λ (x : Node). code_of x.kind) (sym q) ∙ kind-code r;
          count = ap (λ (x : Node). x.clauses) (sym q);
        }

-- a parser that reads the record at i and goes on as q
pub at_record : {A B : Type 0} (p : Parser Record A) (q : Parser Record B) (rs : List Record) (i : ℕ) (r : Record) → i + 1 ≤ length rs
    → drop i rs ≡ r ∷ drop (i + 1) rs → ((n : ℕ) (l : List Record) → found_in n (p (r ∷ l)) ≡ found_in n (q l)) → stop p rs i ≡ stop q rs (i + 1)
unfolding stop
at_record p q rs i r h e f =
    let a : i ≤ length rs = omega arith in
    rw (le-leb _ _ a, le-leb _ _ h, e, f (length rs) (drop (i + 1) rs))

pub at-end : {A : Type 0} (p : Parser Record A) (rs : List Record) (i : ℕ) → p [] ≡ refused → node_of (drop i rs) ≡ None → stop p rs i ≡ None
unfolding stop
at-end p rs i e h = go (drop i rs) refl h (leb i (length rs))
  where
    go : (l : List Record) → drop i rs ≡ l → node_of l ≡ None → (t : Bool) → cond t (found_in (length rs) (p (drop i rs))) None ≡ None
    go [] q h true = rw (q, e)
    go [] q h false = refl
    go (r ∷ l) q h t = absurd (cc)

clause-yes : (r : Record) → kind_of r ≡ 11 → (n : ℕ) (l : List Record) → found_in n (clause_head (r ∷ l)) ≡ found_in {A = ℕ} n (got 0 l)
clause-yes (definition i bs) h n l = absurd (omega arith)
clause-yes (substitute ps) h n l = absurd (omega arith)
clause-yes (call i bs) h n l = absurd (omega arith)
clause-yes (let' v t g bs) h n l = absurd (omega arith)
clause-yes (switch v t m) h n l = absurd (omega arith)
clause-yes (create v t e m) h n l = absurd (omega arith)
clause-yes (invoke v g t bs) h n l = absurd (omega arith)
clause-yes (literal m v) h n l = absurd (omega arith)
clause-yes (op f o g v) h n l = absurd (omega arith)
clause-yes (ifc c f g) h n l = absurd (omega arith)
clause-yes (clause' x bs) h n l = refl
clause-yes (print m v) h n l = absurd (omega arith)
clause-yes (exit v) h n l = absurd (omega arith)

clause_not : (r : Record) → (kind_of r ≡ 11 → ⊥) → (n : ℕ) (l : List Record) → found_in n (clause_head (r ∷ l)) ≡ found_in {X = Record} {A = ℕ} n refused
clause_not (definition i bs) h n l = refl
clause_not (substitute ps) h n l = refl
clause_not (call i bs) h n l = refl
clause_not (let' v t g bs) h n l = refl
clause_not (switch v t m) h n l = refl
clause_not (create v t e m) h n l = refl
clause_not (invoke v g t bs) h n l = refl
clause_not (literal m v) h n l = refl
clause_not (op f o g v) h n l = refl
clause_not (ifc c f g) h n l = refl
clause_not (clause' x bs) h n l = absurd (h refl)
clause_not (print m v) h n l = refl
clause_not (exit v) h n l = refl

definition-yes : (r : Record) → kind_of r ≡ 1 → (n : ℕ) (l : List Record) → found_in n (definition_head (r ∷ l)) ≡ found_in {A = ℕ} n (got 0 l)
definition-yes (definition i bs) h n l = refl
definition-yes (substitute ps) h n l = absurd (omega arith)
definition-yes (call i bs) h n l = absurd (omega arith)
definition-yes (let' v t g bs) h n l = absurd (omega arith)
definition-yes (switch v t m) h n l = absurd (omega arith)
definition-yes (create v t e m) h n l = absurd (omega arith)
definition-yes (invoke v g t bs) h n l = absurd (omega arith)
definition-yes (literal m v) h n l = absurd (omega arith)
definition-yes (op f o g v) h n l = absurd (omega arith)
definition-yes (ifc c f g) h n l = absurd (omega arith)
definition-yes (clause' x bs) h n l = absurd (omega arith)
definition-yes (print m v) h n l = absurd (omega arith)
definition-yes (exit v) h n l = absurd (omega arith)

definition_not : (r : Record) → (kind_of r ≡ 1 → ⊥) → (n : ℕ) (l : List Record) → found_in n (definition_head (r ∷ l)) ≡ found_in {X = Record} {A = ℕ} n refused
definition_not (definition i bs) h n l = absurd (h refl)
definition_not (substitute ps) h n l = refl
definition_not (call i bs) h n l = refl
definition_not (let' v t g bs) h n l = refl
definition_not (switch v t m) h n l = refl
definition_not (create v t e m) h n l = refl
definition_not (invoke v g t bs) h n l = refl
definition_not (literal m v) h n l = refl
definition_not (op f o g v) h n l = refl
definition_not (ifc c f g) h n l = refl
definition_not (clause' x bs) h n l = refl
definition_not (print m v) h n l = refl
definition_not (exit v) h n l = refl

-- by a record's kind: the head that is looked for, or not
head-yes : (k : ℕ) → IsHead k → (r : Record) → kind_of r ≡ k → (n : ℕ) (l : List Record) → found_in n (head_parser k (r ∷ l)) ≡ found_in {A = ℕ} n (got 0 l)
head-yes k (inl e) r h = rw e (definition-yes r (h ∙ e))
head-yes k (inr e) r h = rw e (clause-yes r (h ∙ e))

head_not : (k : ℕ) → IsHead k → (r : Record) → (kind_of r ≡ k → ⊥) → (n : ℕ) (l : List Record) → found_in n (head_parser k (r ∷ l)) ≡ found_in {X = Record} {A = ℕ} n refused
head_not k (inl e) r h = rw e (definition_not r (λ q. h (q ∙ sym e)))
head_not k (inr e) r h = rw e (clause_not r (λ q. h (q ∙ sym e)))

head-empty : (k : ℕ) → IsHead k → head_parser k [] ≡ refused
head-empty k (inl e) = rw e refl
head-empty k (inr e) = rw e refl

module _ (w : ℕ) (o : IsHead w) (rs : List Record) (i : ℕ) where
  pub head-here : (n : Node) → node_of (drop i rs) ≡ Some n → code_of n.kind ≡ w → stop (head_parser w) rs i ≡ Some (i + 1)
  head-here n h e =
      let v = place rs i n h in
      at_record {B = ℕ} (head_parser w) (λ l. got 0 l) rs i v.head v.fits v.list (head-yes w o v.head (sym v.kind ∙ e)) ∙ stop_none {A = ℕ} 0 rs (i + 1) v.fits

  pub head-other : (n : Node) → node_of (drop i rs) ≡ Some n → (code_of n.kind ≡ w → ⊥) → stop (head_parser w) rs i ≡ None
  head-other n h e =
      let v = place rs i n h in
      at_record {B = ℕ} (head_parser w) (λ l. refused) rs i v.head v.fits v.list (head_not w o v.head (λ q. e (v.kind ∙ q))) ∙ never-stops Record ℕ rs (i + 1)

  pub head-end : node_of (drop i rs) ≡ None → stop (head_parser w) rs i ≡ None
  head-end h = at-end (head_parser w) rs i (head-empty w o) h

-- there are few records, and a place with one is small
pub place-few : (g : Frame) (s : List ℕ) (i : ℕ) (n : Node) → Ready g s → node_of (drop i (records_in g s)) ≡ Some n → i + 1 ≤ 4000
place-few g s i n h e = omega (arith, (place (records_in g s) i n e).fits, records-length g s h, h.few)
