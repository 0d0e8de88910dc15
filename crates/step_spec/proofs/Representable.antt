-- What a machine's state holds has bytes, if what the program's records hold has: numbers of IDs, tags, integers, outside numbers and cells.
-- The parts that steps are made of; the steps are in proofs/SourceKeeps.antt and proofs/LinearKeeps.antt. Assumes nothing.
use Prim.Native.Nat.{ℕ, zero, suc, ◌-◌, ◌^◌, ◌≤◌, ◌<◌}
use mathlib.Core.Path.{◌≡◌, refl, subst}
use mathlib.Core.Bool.{Bool, true, false, cond}
use mathlib.Core.List.{List, [], ◌∷◌, ◌++◌}
use mathlib.Core.Option.{Option, none, some}
use native.Mathlib.Omega.{arith}
use lib.ListN.{length, length-append}
use lib.IntN.{ℤ}
use mir.Syntax.{w64}
use mir.Val.{SFits}
use Rattle.syntax.specs.Names.{same_name, same_var_id}
use Rattle.syntax.specs.Context.{Context, ids}
use Rattle.syntax.specs.declared.names.Name.{Name}
use Rattle.syntax.specs.declared.names.VarId.{VarId}
use Rattle.syntax.specs.declared.names.Identifier.{Identifier}
use Rattle.syntax.specs.declared.context.ContextBinding.{ContextBinding}
use Rattle.model.specs.Syntax.{Stmt, Clauses, end, clause, Def}
use Rattle.model.specs.Lists.{lookup, lookups, both, zip}
use Rattle.model.specs.Machine.{Value, int, cell, outside, Entries, values, Cell, xtor, closure, Cells, State, at, ended, Event, Literal', Op', IfC', Let'}
use Rattle.model.specs.Machine.{Create', Switch', Invoke', Call', Outside', PrintI64', Exit', Outcome, shows, silent, halts, stops, or_halt, nth, pair_up}
use Rattle.model.specs.Machine.{and_first, find_def, find_clause_lem, as_int, matched, as_xtor, out, clo, as_closure, invoked}
use Rattle.model.specs.Linear.{last_of, first, last_value_lem, targets}
use Rattle.image_spec.specs.Parse.{each, All}
use Rattle.image_spec.specs.Fields.{IdentifierOk, BindingOk, PairOk}
use Rattle.image_spec.specs.Records.{RecordOk}
use Rattle.image_spec.specs.Shape.{flatten, flatten_clauses, flatten_def}
use Rattle.step_spec.specs.Located.{cells_of}
use Rattle.step_spec.specs.Store.{ValueFits, EntryFits}
use Rattle.step_spec.proofs.Lists.{all-++, all_left, all_right, all_drop, all-at, all_weaker, nth_inside}

-- ── values and entries, where there are n cells ──

pub value-later : {n : ℕ} (m : ℕ) (v : Value) → n ≤ m → ValueFits n v → ValueFits m v
value-later m (int z) l h = h
value-later m (cell k) l h = omega arith
value-later m (outside k) l h = h

abbrev pub IdFits : VarId → Type 0
IdFits x = x.0 < 256 ^ 4

module _ (n : ℕ) where
  pub values-fit : (l : Entries) → All (EntryFits n) l → All (ValueFits n) (values l)
  values-fit [] h = tt
  values-fit (e ∷ l) h = (h.0.1, values-fit l h.1)

  pub lookup-fits : (x : VarId) (l : Entries) (v : Value) → All (EntryFits n) l → lookup x l ≡ some v → ValueFits n v
  lookup-fits x [] v h e = let z : ◌≡◌ {A = ℕ} 0 1 = cc in absurd (omega arith)
  lookup-fits x (p ∷ l) v h e = go (same_var_id x p.0) e (λ f. lookup-fits x l v h.1 f)
    where
      go : (b : Bool) → cond b (some p.1) (lookup x l) ≡ some v → (lookup x l ≡ some v → ValueFits n v) → ValueFits n v
      go true f k = let q : p.1 ≡ v = cc in subst (ValueFits n) q h.0.1
      go false f k = k f

  pub lookups-fit : (xs : List VarId) (l : Entries) (vs : List Value) → All (EntryFits n) l → lookups xs l ≡ some vs → All (ValueFits n) vs
  lookups-fit [] l vs h e = let q : [] ≡ vs = cc in subst (All (ValueFits n)) q tt
  lookups-fit (x ∷ xs) l vs h e = go (lookup x l) (lookups xs l) refl refl e (λ us f. lookups-fit xs l us h f)
    where
      go : (a : Option Value) (b : Option (List Value)) → lookup x l ≡ a → lookups xs l ≡ b → both a b ≡ some vs
          → ((us : List Value) → lookups xs l ≡ some us → All (ValueFits n) us) → All (ValueFits n) vs
      go none b p q f k = let z : ◌≡◌ {A = ℕ} 0 1 = cc in absurd (omega arith)
      go (some v) none p q f k = let z : ◌≡◌ {A = ℕ} 0 1 = cc in absurd (omega arith)
      go (some v) (some us) p q f k = let r : v ∷ us ≡ vs = cc in subst (All (ValueFits n)) r (lookup-fits x l v h p, k us q)

  pub paired-fit : (xs : List VarId) (vs : List Value) (l : Entries) → All IdFits xs → All (ValueFits n) vs → pair_up xs vs ≡ some l → All (EntryFits n) l
  paired-fit [] [] l g h e = let q : [] ≡ l = cc in subst (All (EntryFits n)) q tt
  paired-fit [] (v ∷ vs) l g h e = let z : ◌≡◌ {A = ℕ} 0 1 = cc in absurd (omega arith)
  paired-fit (x ∷ xs) [] l g h e = let z : ◌≡◌ {A = ℕ} 0 1 = cc in absurd (omega arith)
  paired-fit (x ∷ xs) (v ∷ vs) l g h e = go (pair_up xs vs) refl e (λ m f. paired-fit xs vs m g.1 h.1 f)
    where
      go : (o : Option Entries) → pair_up xs vs ≡ o → and_first x v o ≡ some l → ((m : Entries) → pair_up xs vs ≡ some m → All (EntryFits n) m) → All (EntryFits n) l
      go none p f k = let z : ◌≡◌ {A = ℕ} 0 1 = cc in absurd (omega arith)
      go (some m) p f k = let q : (x, v) ∷ m ≡ l = cc in subst (All (EntryFits n)) q ((g.0, h.0), k m p)

  pub zipped-fit : (xs : List VarId) (vs : List Value) → All IdFits xs → All (ValueFits n) vs → All (EntryFits n) (zip xs vs)
  zipped-fit [] vs g h = tt
  zipped-fit (x ∷ xs) [] g h = tt
  zipped-fit (x ∷ xs) (v ∷ vs) g h = ((g.0, h.0), zipped-fit xs vs g.1 h.1)

  pub last_fits : (l : Entries) (v : Value) → All (EntryFits n) l → last_value_lem l ≡ some v → ValueFits n v
  last_fits l v h e = go (values (last_of 1 l)) (values-fit (last_of 1 l) (all_drop (EntryFits n) (length l - 1) l h)) e
    where
      go : (vs : List Value) → All (ValueFits n) vs → first vs ≡ some v → ValueFits n v
      go [] k f = let z : ◌≡◌ {A = ℕ} 0 1 = cc in absurd (omega arith)
      go (u ∷ vs) k f = let q : u ≡ v = cc in subst (ValueFits n) q k.0

  pub int-fits : (v : Value) (z : ℤ) → ValueFits n v → as_int v ≡ some z → SFits w64 z
  int-fits (int y) z h e = let q : y ≡ z = cc in subst (SFits w64) q h
  int-fits (cell k) z h e = let y : ◌≡◌ {A = ℕ} 0 1 = cc in absurd (omega arith)
  int-fits (outside k) z h e = let y : ◌≡◌ {A = ℕ} 0 1 = cc in absurd (omega arith)

-- ── events ──

-- an event whose numbers have bytes, where there are n cells after its step
abbrev pub EventHolds : (n : ℕ) → Event → Type 0
EventHolds n (Literal' z) = SFits w64 z
EventHolds n (Op' z) = SFits w64 z
EventHolds n (IfC' b) = Unit {0}
EventHolds n (Let' k tag) = (tag.0 < 256 ^ 2) × (k < n)
EventHolds n (Create' k) = k < n
EventHolds n (Switch' k tag) = (tag.0 < 256 ^ 2) × (k < n)
EventHolds n (Invoke' k tag) = (tag.0 < 256 ^ 2) × (k < n)
EventHolds n (Call' f) = f.0 < 256 ^ 2
EventHolds n (Outside' m tag args) = (tag.0 < 256 ^ 2) × (m < 256) × All (ValueFits n) args
EventHolds n (PrintI64' newline z) = SFits w64 z
EventHolds n (Exit' v) = ValueFits n v

pub event-later : (n m : ℕ) → n ≤ m → (e : Event) → EventHolds n e → EventHolds m e
event-later n m l (Literal' z) h = h
event-later n m l (Op' z) h = h
event-later n m l (IfC' b) h = h
event-later n m l (Let' k tag) h = (h.0, omega (arith, h.1))
event-later n m l (Create' k) h = omega (arith, h)
event-later n m l (Switch' k tag) h = (h.0, omega (arith, h.1))
event-later n m l (Invoke' k tag) h = (h.0, omega (arith, h.1))
event-later n m l (Call' f) h = h
event-later n m l (Outside' k tag args) h = (h.0, h.1, all_weaker (ValueFits n) (ValueFits m) args (λ v f. value-later m v l f) h.2)
event-later n m l (PrintI64' newline z) h = h
event-later n m l (Exit' v) h = value-later m v l h

-- the number of a cell that a step makes
pub new-number : (K : Cells) (c : Cell) → length K < length (K ++ (c ∷ []))
new-number K c = omega (arith, length-append K (c ∷ []))

-- ── what the records hold, with IDs of w bytes, at most four ──

module _ (w : ℕ) (narrow : 256 ^ w ≤ 256 ^ 4) where
  abbrev pub StmtOk : Stmt → Type 0
  StmtOk t = All (RecordOk w) (flatten t)

  abbrev pub ClausesOk : Clauses → Type 0
  ClausesOk cs = All (RecordOk w) (flatten_clauses cs)

  pub id-fits : (x : Identifier) → IdentifierOk w x → IdFits x.id
  id-fits x h = omega (arith, h.1)

  pub ids-fit : (Γ : Context) → All (BindingOk w) Γ → All IdFits (ids Γ)
  ids-fit [] h = tt
  ids-fit (b ∷ Γ) h = (id-fits b.var h.0.0, ids-fit Γ h.1)

  pub targets-fit : (ps : List (ContextBinding × Identifier)) → All (PairOk w) ps → All IdFits (targets ps)
  targets-fit [] h = tt
  targets-fit (p ∷ ps) h = (id-fits p.0.var h.0.0.0, targets-fit ps h.1)

  pub clause-ok : (tag : Name) (cs : Clauses) (c : Context × Stmt) → ClausesOk cs → find_clause_lem tag cs ≡ some c → All (BindingOk w) c.0 × StmtOk c.1
  unfolding flatten RecordOk
  clause-ok tag end c h e = let z : ◌≡◌ {A = ℕ} 0 1 = cc in absurd (omega arith)
  clause-ok tag (clause x Γ body rest) c h e =
      go (same_name tag x.name) e (h.0.1.1, all_left (RecordOk w) (flatten body) (flatten_clauses rest) h.1)
      (λ f. clause-ok tag rest c (all_right (RecordOk w) (flatten body) (flatten_clauses rest) h.1) f)
    where
      go : (b : Bool) → cond b (some (Γ, body)) (find_clause_lem tag rest) ≡ some c → All (BindingOk w) Γ × StmtOk body
          → (find_clause_lem tag rest ≡ some c → All (BindingOk w) c.0 × StmtOk c.1) → All (BindingOk w) c.0 × StmtOk c.1
      go true f k m = subst (λ (o : Option (Context × Stmt)). elim o as (λ _. Type 0) [ none ↦ Unit {0} | some d ↦ All (BindingOk w) d.0 × StmtOk d.1 ]) f k
      go false f k m = m f

  abbrev pub DefsOk : List Def → Type 0
  DefsOk ds = All (RecordOk w) (each flatten_def ds)

  pub def-ok : (f : Name) (ds : List Def) (d : Def) → DefsOk ds → find_def f ds ≡ some d → All (BindingOk w) d.context × StmtOk d.body
  unfolding RecordOk
  def-ok f [] d h e = let z : ◌≡◌ {A = ℕ} 0 1 = cc in absurd (omega arith)
  def-ok f (x ∷ ds) d h e =
      go (same_name f x.name.name) e (h.0.1.1, all_left (RecordOk w) (flatten x.body) (each flatten_def ds) h.1)
      (λ k. def-ok f ds d (all_right (RecordOk w) (flatten x.body) (each flatten_def ds) h.1) k)
    where
      go : (b : Bool) → cond b (some x) (find_def f ds) ≡ some d → All (BindingOk w) x.context × StmtOk x.body
          → (find_def f ds ≡ some d → All (BindingOk w) d.context × StmtOk d.body) → All (BindingOk w) d.context × StmtOk d.body
      go true k m r = let q : x ≡ d = cc in subst (λ (z : Def). All (BindingOk w) z.context × StmtOk z.body) q m
      go false k m r = r k

  pub nth_ok : (i : ℕ) (ds : List Def) (d : Def) → DefsOk ds → nth i ds ≡ some d → All (BindingOk w) d.context × StmtOk d.body
  unfolding RecordOk
  nth_ok zero [] d h e = let z : ◌≡◌ {A = ℕ} 0 1 = cc in absurd (omega arith)
  nth_ok (suc i) [] d h e = let z : ◌≡◌ {A = ℕ} 0 1 = cc in absurd (omega arith)
  nth_ok zero (x ∷ ds) d h e =
      let q : x ≡ d = cc in
      subst (λ (z : Def). All (BindingOk w) z.context × StmtOk z.body) q (h.0.1.1, all_left (RecordOk w) (flatten x.body) (each flatten_def ds) h.1)
  nth_ok (suc i) (x ∷ ds) d h e = nth_ok i ds d (all_right (RecordOk w) (flatten x.body) (each flatten_def ds) h.1) e

  -- ── states ──

  abbrev pub CellFits : (n : ℕ) → Cell → Type 0
  CellFits n (xtor tag fields) = (tag.0 < 256 ^ 2) × All (ValueFits n) fields
  CellFits n (closure l cs) = All (EntryFits n) l × ClausesOk cs

  pub record Holds (n : ℕ) (t : Stmt) (l : Entries) (K : Cells) : Type 0 where
    pub stmt : StmtOk t
    pub entries : All (EntryFits n) l
    pub cells : All (CellFits n) K

  abbrev pub StateFits : State → Type 0
  StateFits (at t l K) = Holds (length K) t l K
  StateFits (ended t l K) = Holds (length K) t l K

  pub data Keeps : Outcome → Type 0 where
    keeps-shows : {e : Event} {s : State} → EventHolds (length (cells_of s)) e → StateFits s → Keeps (shows e s)
    keeps-silent : {s : State} → StateFits s → Keeps (silent s)
    keeps-halts : Keeps halts
    keeps-stops : Keeps stops

  pub or_keeps : {A : Type 0} (o : Option A) (k : A → Outcome) → ((a : A) → o ≡ some a → Keeps (k a)) → Keeps (or_halt o k)
  or_keeps none k h = keeps-halts
  or_keeps (some a) k h = h a refl

  -- what a Switch finds
  pub record Matched (n : ℕ) (K : Cells) (x : ℕ × Name × List Value) : Type 0 where
    pub number : x.0 < length K
    pub tag : x.1.0 < 256 ^ 2
    pub fields : All (ValueFits n) x.2

  pub matched-fits : (n : ℕ) (K : Cells) (v : Value) (x : ℕ × Name × List Value) → All (CellFits n) K → matched K v ≡ some x → Matched n K x
  matched-fits n K (int z) x h e = let y : ◌≡◌ {A = ℕ} 0 1 = cc in absurd (omega arith)
  matched-fits n K (cell i) x h e = go (nth i K) refl e
    where
      go : (o : Option Cell) → nth i K ≡ o → as_xtor i o ≡ some x → Matched n K x
      go none p f = let y : ◌≡◌ {A = ℕ} 0 1 = cc in absurd (omega arith)
      go (some (xtor tag fields)) p f =
          let c = all-at (CellFits n) K i (xtor tag fields) h p in
          subst (λ (o : Option (ℕ × Name × List Value)). elim o as (λ _. Type 0) [ none ↦ Unit {0} | some y ↦ Matched n K y ]) f
          (record { number = nth_inside i K (xtor tag fields) p; tag = c.0; fields = c.1 })
      go (some (closure l cs)) p f = let y : ◌≡◌ {A = ℕ} 0 1 = cc in absurd (omega arith)
  matched-fits n K (outside m) x h e = let y : ◌≡◌ {A = ℕ} 0 1 = cc in absurd (omega arith)

  pub invoked-fits : (n : ℕ) (K : Cells) (v : Value) (i : ℕ) (l : Entries) (cs : Clauses) → All (CellFits n) K → invoked K v ≡ some (clo i l cs) → All (EntryFits n) l × ClausesOk cs × (i < length K)
  invoked-fits n K (int z) i l cs h e = let y : ◌≡◌ {A = ℕ} 0 1 = cc in absurd (omega arith)
  invoked-fits n K (cell j) i l cs h e = go (nth j K) refl e
    where
      go : (o : Option Cell) → nth j K ≡ o → as_closure j o ≡ some (clo i l cs) → All (EntryFits n) l × ClausesOk cs × (i < length K)
      go none p f = let y : ◌≡◌ {A = ℕ} 0 1 = cc in absurd (omega arith)
      go (some (xtor tag fields)) p f = let y : ◌≡◌ {A = ℕ} 0 1 = cc in absurd (omega arith)
      go (some (closure m ds)) p f =
          let a : m ≡ l = cc in
          let b : ds ≡ cs = cc in
          let k = all-at (CellFits n) K j (closure m ds) h p in
          let q : j ≡ i = cc in
          (subst (All (EntryFits n)) a k.0, subst ClausesOk b k.1, omega (arith, nth_inside j K (closure m ds) p, q))
  invoked-fits n K (outside m) i l cs h e = let y : ◌≡◌ {A = ℕ} 0 1 = cc in absurd (omega arith)

  pub out-fits : (n : ℕ) (K : Cells) (v : Value) (m : ℕ) → ValueFits n v → invoked K v ≡ some (out m) → m < 256
  out-fits n K (int z) m h e = let y : ◌≡◌ {A = ℕ} 0 1 = cc in absurd (omega arith)
  out-fits n K (cell j) m h e = go (nth j K) e
    where
      go : (o : Option Cell) → as_closure j o ≡ some (out m) → m < 256
      go none f = let y : ◌≡◌ {A = ℕ} 0 1 = cc in absurd (omega arith)
      go (some (xtor tag fields)) f = let y : ◌≡◌ {A = ℕ} 0 1 = cc in absurd (omega arith)
      go (some (closure l cs)) f = let y : ◌≡◌ {A = ℕ} 0 1 = cc in absurd (omega arith)
  out-fits n K (outside k) m h e = let q : k ≡ m = cc in subst (λ (z : ℕ). z < 256) q h

  -- one cell more
  pub entry-later : (n : ℕ) (l : Entries) → All (EntryFits n) l → All (EntryFits (suc n)) l
  entry-later n l h = all_weaker (EntryFits n) (EntryFits (suc n)) l (λ e f. (f.0, value-later (suc n) e.1 (omega arith) f.1)) h

  pub values-later : (n : ℕ) (vs : List Value) → All (ValueFits n) vs → All (ValueFits (suc n)) vs
  values-later n vs h = all_weaker (ValueFits n) (ValueFits (suc n)) vs (λ v f. value-later (suc n) v (omega arith) f) h

  cell-later : (n : ℕ) (c : Cell) → CellFits n c → CellFits (suc n) c
  cell-later n (xtor tag fields) h = (h.0, values-later n fields h.1)
  cell-later n (closure l cs) h = (entry-later n l h.0, h.1)

  pub cells-later : (n : ℕ) (K : Cells) → All (CellFits n) K → All (CellFits (suc n)) K
  cells-later n K h = all_weaker (CellFits n) (CellFits (suc n)) K (cell-later n) h

  -- the state after a step that makes cell c
  pub one_more : (t : Stmt) (l : Entries) (K : Cells) (c : Cell) → StmtOk t → All (EntryFits (suc (length K))) l → All (CellFits (length K)) K → CellFits (suc (length K)) c
      → StateFits (at t l (K ++ (c ∷ [])))
  one_more t l K c s h k o =
      let e : suc (length K) ≡ length (K ++ (c ∷ [])) = omega (arith, length-append K (c ∷ [])) in
      subst (λ (n : ℕ). Holds n t l (K ++ (c ∷ []))) e (record { stmt = s; entries = h; cells = all-++ (CellFits (suc (length K))) K (c ∷ []) (cells-later (length K) K k) (o, tt) })

  pub branch-ok : (b : Bool) (thenc elsec : Stmt) → All (RecordOk w) (flatten thenc ++ flatten elsec) → StmtOk (cond b thenc elsec)
  branch-ok true thenc elsec h = all_left (RecordOk w) (flatten thenc) (flatten elsec) h
  branch-ok false thenc elsec h = all_right (RecordOk w) (flatten thenc) (flatten elsec) h
