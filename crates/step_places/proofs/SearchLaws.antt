-- Searching heads by name or by number: the turn of the loop, and what is found of clauses and definitions. Assumes nothing.
use Prim.Native.Nat.{ℕ, zero, suc, ◌+◌, ◌-◌, ◌≤◌, ◌<◌}
use mathlib.Core.Path.{◌≡◌, refl, sym, ap, ◌∙◌, subst}
use mathlib.Core.Bool.{Bool, true, false, ◌&&◌, cond, false≢true}
use mathlib.Core.List.{List, [], ◌∷◌}
use mathlib.Core.Logic.{inl, inr}
use mathlib.Core.Option.{Option, none, some}
use native.Mathlib.Omega.{arith}
use borrow.Author.Tests.{eqb-true, eq-eqb}
use lib.Dec.{eqb}
use lib.ListN.{length, drop, length-drop}
use Rattle.syntax.specs.Context.{Context}
use Rattle.syntax.specs.Names.{same_name}
use Rattle.syntax.specs.declared.names.Name.{Name}
use Rattle.syntax.specs.declared.names.Identifier.{Identifier}
use Rattle.model.specs.Syntax.{Stmt, Clauses, end, clause, Def}
use Rattle.model.specs.Machine.{nth, find_def, find_clause_lem}
use Rattle.image_spec.specs.Parse.{each}
use Rattle.image_spec.specs.Records.{Record, definition, clause'}
use Rattle.image_spec.specs.Kinds.{kind_of}
use Rattle.image_spec.specs.Shape.{flatten, flatten_defs}
use Rattle.image_spec.proofs.DirectoryLaws.{and_left}
use Rattle.std.specs.Prelude as code
use Rattle.std.specs.Prelude.{Some, None}
use Rattle.image_places_spec.proofs.PlaceLaws.{begins-left}
use Rattle.image_directory.specs.declared.Frame.{Frame}
use Rattle.image_directory.specs.Slots.{Ready, records_in}
use Rattle.image_directory.proofs.Places.{records-length}
use Rattle.image_shape.specs.Nodes.{IsHead}
use Rattle.image_read_parts.specs.Standing.{head_of}
use Rattle.image_read_nodes.specs.Nodes as nodes
use Rattle.image_read_parts.specs.Indexed.{At}
use Rattle.scope_check.specs.Definitions.{DefsStand}
use Rattle.step_spec.specs.Located.{clause_place, label_place, definition_place}
use Rattle.step_places.specs.Heads.{head_record, flatten_head, heads_in, HeadsStand}
use Rattle.step_places.specs.Ends.{statement, headed, behind, hops, Ends, Hopped}
use Rattle.step_places.specs.Searches.{name_of, is_named_lem, Finds, absent, found, FindsDef, PlaceOf, FindsHead, FindsClause, FindsLabel, FindsDefinition}
use Rattle.step_places.proofs.HeadLaws.{clauses-heads, head-parts}
use Rattle.step_places.proofs.EndLaws.{part-inside}

-- ---- clauses as heads

abbrev as_clause : Option Def → Option (Context × Stmt)
as_clause none = none
as_clause (some e) = some (e.context, e.body)

heads_find : (f : Name) (cs : Clauses) → as_clause (find_def f (heads_in cs)) ≡ find_clause_lem f cs
unfolding heads_in
heads_find f end = refl
heads_find f (clause x Γ body rest) = go (same_name f x.name) (heads_find f rest)
  where
    go : (b : Bool) → as_clause (find_def f (heads_in rest)) ≡ find_clause_lem f rest
        → as_clause (cond b (some (record { name = x; context = Γ; body = body })) (find_def f (heads_in rest))) ≡ cond b (some (Γ, body)) (find_clause_lem f rest)
    go true e = refl
    go false e = e

heads-place : (f : Name) (cs : Clauses) (i : ℕ) → label_place f (heads_in cs) i ≡ clause_place f cs i
unfolding heads_in label_place clause_place
heads-place f end i = refl
heads-place f (clause x Γ body rest) i = ap (cond (same_name f x.name) (i + 1)) (heads-place f rest (i + 1 + length (flatten body)))

as_clause_lem : {kind d : ℕ} {rs : List Record} {place : ℕ} {o : Option Def} {r : code.Option ℕ} → FindsDef kind d rs place o r → Finds (λ c. c.0) (λ c. c.1) kind d rs place (as_clause o) r
as_clause_lem absent = absent
as_clause_lem (found x h b p) = found x h b p

-- ---- heads

head-kind : (kind : ℕ) (x : Identifier) (Γ : Context) → IsHead kind → kind_of (head_record kind x Γ) ≡ kind
head-kind k x Γ (inl e) = rw e refl
head-kind k x Γ (inr e) = rw e refl

head-name : (kind : ℕ) (x : Identifier) (Γ : Context) → nodes.first_of (head_record kind x Γ) ≡ x
head-name k x Γ = go (eqb k 1)
  where
    go : (b : Bool) → nodes.first_of (cond b (definition x Γ) (clause' x Γ)) ≡ x
    go true = refl
    go false = refl

-- a head that stands is named as the code asks
head-named : (kind : ℕ) (f : Name) (x : Identifier) (Γ : Context) (l m : List Record) → IsHead kind → l ≡ head_record kind x Γ ∷ m → is_named_lem kind f l ≡ same_name f x.name
head-named kind f x Γ l m k h =
    ap (is_named_lem kind f) h
    ∙ (ap (λ (b : Bool). b && same_name f (nodes.first_of (head_record kind x Γ)).name) (eq-eqb _ kind (head-kind kind x Γ k))
    ∙ ap (λ (y : Identifier). same_name f y.name) (head-name kind x Γ))

-- what is named so is of that kind, of every image
named-at : (g : Frame) (s : List ℕ) (kind : ℕ) (f : Name) (i : ℕ) → Ready g s → is_named_lem kind f (drop i (records_in g s)) ≡ true → At g s i kind
named-at g s kind f i h e = go (drop i (records_in g s)) refl e
  where
    go : (rs : List Record) → drop i (records_in g s) ≡ rs → is_named_lem kind f rs ≡ true → At g s i kind
    go [] q t = absurd (false≢true t)
    go (r ∷ rs) q t = record {
      inside = omega (arith, records-length g s h, length-drop i (records_in g s), ap length q);
      kind = ap (λ (l : List Record). kind_of (head_of l)) q ∙ eqb-true _ kind (and_left _ _ t);
    }

-- the first head's end is where the second begins
head-next : {kind d n : ℕ} {rs : List Record} {ends : List ℕ} {i : ℕ} (e : Def) (es : List Def) → Ends rs ends → HeadsStand kind d n rs i (e ∷ es)
    → behind ends i ≡ i + 1 + length (flatten e.body)
head-next {kind} {i = i} e es t h =
    t.end i (flatten_head kind e) (omega arith) (headed kind e) (begins-left (flatten_head kind e) (each (flatten_head kind) es) h.begins) ∙ omega arith

-- ---- by name

-- the answer is right for the n heads from i on
abbrev pub RightFor : (g : Frame) (s : List ℕ) (kind f n i : ℕ) → code.Option ℕ → Type 0
RightFor g s kind f n i r = (d : ℕ) (es : List Def) → HeadsStand kind d n (records_in g s) i es → FindsDef kind d (records_in g s) (label_place (name_of f) es i) (find_def (name_of f) es) r

-- of the n heads from i on, those behind the first k, from `here` on, are left: what is right for these is right for all
pub record Searching (g : Frame) (s : List ℕ) (kind f n i k here : ℕ) : Type 0 where
  pub enough : (r : code.Option ℕ) → RightFor g s kind f (n - k) here r → RightFor g s kind f n i r

module _ (g : Frame) (s : List ℕ) (kind f : ℕ) where
  -- none is left
  right_end : {left here : ℕ} → left ≡ 0 → RightFor g s kind f left here None
  right_end z d [] h = absent
  right_end z d (e ∷ es) h = absurd (omega (arith, h.count))

  -- b is what the code says of the name of the head at `here`
  module _ (left here : ℕ) (b : Bool) (k : IsHead kind) (some_left : 0 < left) (said : b ≡ is_named_lem kind (name_of f) (drop here (records_in g s))) where
    name_is : {d n : ℕ} (e : Def) (es : List Def) → HeadsStand kind d n (records_in g s) here (e ∷ es) → same_name (name_of f) e.name.name ≡ b
    name_is e es h = sym (said ∙ head-named kind (name_of f) e.name e.context (drop here (records_in g s)) (drop (here + 1) (records_in g s)) k (head-parts e es h).head)

    right-here : b ≡ true → RightFor g s kind f left here (Some here)
    unfolding label_place
    right-here q d [] h = absurd (omega (arith, h.count))
    right-here q d (e ∷ es) h = let p = head-parts e es h in rw (name_is e es h, q) (found e.name (ap head_of p.head) p.body refl)

    right-next : {ends : List ℕ} {next : ℕ} (r : code.Option ℕ) → b ≡ false → Ends (records_in g s) ends → next ≡ behind ends here → RightFor g s kind f (left - 1) next r → RightFor g s kind f left here r
    unfolding label_place
    right-next r q t p w d [] h = absurd (omega (arith, h.count))
    right-next {next = next} r q t p w d (e ∷ es) h =
        let z : next ≡ here + 1 + length (flatten e.body) = p ∙ head-next e es t h in
        rw (name_is e es h, q, ← z) (w d es (subst (λ (j : ℕ). HeadsStand kind d (left - 1) (records_in g s) j es) (sym z) (head-parts e es h).rest))

-- ---- by number

-- behind k heads is the head at place k
head-nth : {kind d n : ℕ} {rs : List Record} {ends : List ℕ} (k i : ℕ) (es : List Def) → Ends rs ends → k < n → HeadsStand kind d n rs i es
    → FindsDef kind d rs (definition_place k es i) (nth k es) (Some (hops ends k i))
unfolding hops definition_place
head-nth k i [] t h s = absurd (omega (arith, s.count))
head-nth zero i (e ∷ es) t h s = let p = head-parts e es s in found e.name (ap head_of p.head) p.body refl
head-nth {kind = kind} {d = d} {n = n} {rs = rs} {ends = ends} (suc k) i (e ∷ es) t h s =
    let p = head-parts e es s in
    rw (head-next e es t s) (head-nth {kind = kind} {d = d} {n = n - 1} {rs = rs} {ends = ends} k (i + 1 + length (flatten e.body)) es t (omega arith) p.rest)

nth_past : (k : ℕ) (es : List Def) → length es ≤ k → nth k es ≡ none
nth_past k [] h = refl
nth_past zero (e ∷ es) h = absurd (omega arith)
nth_past (suc k) (e ∷ es) h = nth_past k es (omega arith)

-- ---- of the image that the code searches

defs-heads : {d n : ℕ} {rs : List Record} {i : ℕ} {es : List Def} → DefsStand d n rs i es → HeadsStand 1 d n rs i es
unfolding flatten_defs
defs-heads h = record { begins = h.begins; shallow = h.shallow; count = h.count }

module _ {g : Frame} {s : List ℕ} where
  pub place_none : (kind : ℕ) → PlaceOf g s kind None
  place_none kind j q = let w : ◌≡◌ {A = ℕ} 0 1 = cc in absurd (omega arith)

  place_at : (kind here : ℕ) → At g s here kind → PlaceOf g s kind (Some here)
  place_at kind here a j q = let z : here ≡ j = cc in subst (λ (w : ℕ). At g s w kind) z a

  -- what was found is there
  found-there : {d place j : ℕ} {o : Option Def} → Ready g s → FindsDef 1 d (records_in g s) place o (Some j) → At g s j 1
  found-there {j = j} h (found {a = e} x r b p) = record { inside = omega (arith, records-length g s h, part-inside (statement e.body) b.begins); kind = ap kind_of r }

  pub search_start : {kind f : ℕ} (n i : ℕ) → Searching g s kind f n i 0 i
  search_start {kind} {f} n i = let z : n - 0 ≡ n = omega arith in record { enough = λ r h. subst (λ (m : ℕ). RightFor g s kind f m i r) z h }

  module _ {kind f n i k here : ℕ} (l : Searching g s kind f n i k here) where
    pub search_absent : n ≤ k → FindsHead g s kind n i f None
    search_absent h = record { at = place_none kind; finds = l.enough None (right_end g s kind f (omega arith)) }

    module _ {b : Bool} (head : IsHead kind) (some_left : k < n) (said : b ≡ is_named_lem kind (name_of f) (drop here (records_in g s))) where
      pub search_found : b ≡ true → Ready g s → FindsHead g s kind n i f (Some here)
      search_found q ready = record {
        at = place_at kind here (named-at g s kind (name_of f) here ready (sym said ∙ q));
        finds = l.enough (Some here) (right-here g s kind f (n - k) here b head (omega arith) said q);
      }

      pub search_next : {ends : List ℕ} {next : ℕ} → b ≡ false → Ends (records_in g s) ends → Hopped ends 1 here next → Searching g s kind f n i (k + 1) next
      unfolding hops
      search_next {next = next} q t p =
          let z : n - (k + 1) ≡ n - k - 1 = omega arith in
          record { enough = λ r w. l.enough r (right-next g s kind f (n - k) here b head (omega arith) said r q t p.is (subst (λ (m : ℕ). RightFor g s kind f m next r) z w)) }

  pub label-found : {n f : ℕ} {r : code.Option ℕ} → FindsHead g s 1 n 0 f r → FindsLabel g s n f r
  label-found a = record { at = a.at; finds = λ d es h. a.finds d es (defs-heads h) }

  pub clause-found : {n i tag : ℕ} {r : code.Option ℕ} → FindsHead g s 11 n i tag r → FindsClause g s n i tag r
  clause-found {n} {i} {tag} {r} a = record {
    at = a.at;
    finds = λ d cs h. rw (← heads-place (name_of tag) cs i, ← heads_find (name_of tag) cs) (as_clause_lem (a.finds d (heads_in cs) (clauses-heads h)));
  }

  module _ {ends : List ℕ} {n k here : ℕ} (ready : Ready g s) (t : Ends (records_in g s) ends) (h : k < n) (p : Hopped ends k 0 here) where
    definition-finds : (d : ℕ) (es : List Def) → DefsStand d n (records_in g s) 0 es → FindsDef 1 d (records_in g s) (definition_place k es 0) (nth k es) (Some here)
    definition-finds d es w = rw p.is (head-nth k 0 es t h (defs-heads w))

    pub definition-found : At g s here 1 → FindsDefinition g s n k (Some here)
    definition-found a = record { at = place_at 1 here a; finds = definition-finds }

    pub definition-missing : (At g s here 1 → ⊥) → FindsDefinition g s n k None
    definition-missing a = record { at = place_none 1; finds = λ d es w. absurd (a (found-there ready (definition-finds d es w))) }

  pub definition-past : {n k : ℕ} → n ≤ k → FindsDefinition g s n k None
  definition-past {n} {k} h = record { at = place_none 1; finds = λ d es w. rw (nth_past k es (omega (arith, w.count))) absent }
