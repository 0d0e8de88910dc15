-- The linear machine's steps keep the IDs of its list distinct: `linear-stays-distinct`, and of its stepper `located-stays-distinct`. Assumes nothing.
use Prim.Native.Nat.{ℕ, zero, suc, ◌-◌}
use mathlib.Core.Path.{◌≡◌, refl, sym, ap, ◌∙◌}
use mathlib.Core.Bool.{Bool, true, false, false≢true}
use mathlib.Core.List.{List, [], ◌∷◌, ◌++◌, map, map-append}
use mathlib.Core.Option.{Option, none, some, none-ne-some}
use lib.ListN.{length, take, length-map}
use Rattle.syntax.specs.Context.{ids}
use Rattle.syntax.specs.Sets.{distinct}
use Rattle.syntax.specs.declared.names.Name.{Name}
use Rattle.syntax.specs.declared.names.VarId.{VarId}
use Rattle.syntax.specs.declared.names.Identifier.{Identifier}
use Rattle.syntax.specs.declared.context.ContextBinding.{ContextBinding}
use Rattle.model.specs.Syntax.{Stmt, Substitute, Call, Let, Switch, Create, Invoke, Literal, Op, IfC, PrintI64, Exit, Prog}
use Rattle.model.specs.Lists.{lookup, both, lookups, zip}
use Rattle.model.specs.Integers.{eval_op}
use Rattle.model.specs.Machine.{Value, Entries, keys, values, Cells, State, at, ended, Event, Outcome, shows, silent, halts, stops, or_halt, pair_up, find_def}
use Rattle.model.specs.Machine.{find_clause_lem, as_int, second, matched, Target, out, clo, invoked}
use Rattle.model.specs.Linear.{before_last, ends_in_lem, present, sources, targets, in_order_lem, stop_unless, shows_unless_twice, last_value_lem, linear_enter_lem, linear_work, linear_step_lem}
use Rattle.model.proofs.Alist.{firsts-zip}
use Rattle.image_spec.proofs.DirectoryLaws.{and_left, and_right}
use Rattle.step_spec.specs.Located.{linear_machine, Located, Stepped, stmt_in, cell_in, state_of, project, entries_of, moved, unless_stopped, follow, located_step}

-- no ID stands twice in the list after this
abbrev pub DistinctAfter : Outcome → Type 0
DistinctAfter (shows e s) = distinct (keys (entries_of s)) ≡ true
DistinctAfter (silent s) = distinct (keys (entries_of s)) ≡ true
DistinctAfter halts = Unit {0}
DistinctAfter stops = Unit {0}

or_distinct : {A : Type 0} (o : Option A) (k : A → Outcome) → ((a : A) → o ≡ some a → DistinctAfter (k a)) → DistinctAfter (or_halt o k)
or_distinct none k h = tt
or_distinct (some a) k h = h a refl

unless-distinct : (b : Bool) (o : Outcome) → (b ≡ true → DistinctAfter o) → DistinctAfter (stop_unless b o)
unless-distinct true o h = h refl
unless-distinct false o h = tt

-- the IDs that a definition or clause brings are asked for
once : (e : Event) (t : Stmt) (ε : Entries) (K : Cells) → DistinctAfter (shows_unless_twice e t ε K)
once e t ε K = unless-distinct (distinct (keys ε)) (shows e (at t ε K)) (λ h. h)

-- ── the IDs of a list that a step makes ──

-- as many values as IDs were looked up
lookups-length : (xs : List VarId) (ε : Entries) (vs : List Value) → lookups xs ε ≡ some vs → length xs ≡ length vs
lookups-length [] ε vs e = let q : [] ≡ vs = cc e in ap length q
lookups-length (x ∷ xs) ε vs e = go (lookup x ε) (lookups xs ε) (λ ws. lookups-length xs ε ws) e
  where
    go : (o : Option Value) (p : Option (List Value)) → ((ws : List Value) → p ≡ some ws → length xs ≡ length ws) → both o p ≡ some vs → suc (length xs) ≡ length vs
    go none p h e = absurd (none-ne-some _ e)
    go (some v) none h e = absurd (none-ne-some _ e)
    go (some v) (some ws) h e = let q : v ∷ ws ≡ vs = cc e in ap suc (h ws refl) ∙ ap length q

-- Substitute: its targets
substituted : (ps : List (ContextBinding × Identifier)) (ε : Entries) (vs : List Value) → lookups (sources ps) ε ≡ some vs → keys (zip (targets ps) vs) ≡ targets ps
substituted ps ε vs e = firsts-zip (targets ps) vs (length-map ps _ ∙ (sym (length-map ps _) ∙ lookups-length (sources ps) ε vs e))

pub take-keys : (n : ℕ) (ε : Entries) → keys (take n ε) ≡ take n (keys ε)
take-keys zero ε = refl
take-keys (suc n) [] = refl
take-keys (suc n) (e ∷ ε) = ap (λ (l : List VarId). e.0 ∷ l) (take-keys n ε)

-- Let, Create: those before the last k, and one more
replaced-keys : (k : ℕ) (ε : Entries) (x : VarId) (v : Value) → keys (before_last k ε ++ ((x, v) ∷ [])) ≡ before_last k (keys ε) ++ (x ∷ [])
replaced-keys k ε x v =
    let n : length ε - k ≡ length (keys ε) - k = ap (λ (n : ℕ). n - k) (sym (length-map ε _)) in
    map-append _ (before_last k ε) ((x, v) ∷ []) ∙ ap (λ (l : List VarId). l ++ (x ∷ [])) (take-keys (length ε - k) ε ∙ ap (λ (n : ℕ). take n (keys ε)) n)

-- Literal, Op: all, and one more
added-keys : (ε : Entries) (x : VarId) (v : Value) → keys (ε ++ ((x, v) ∷ [])) ≡ keys ε ++ (x ∷ [])
added-keys ε x v = map-append _ ε ((x, v) ∷ [])

-- ── the steps ──

enters : (end : State) (tag : Name) (args : List Value) (K : Cells) (g : Target) → distinct (keys (entries_of end)) ≡ true → DistinctAfter (linear_enter_lem end tag args K g)
unfolding linear_enter_lem
enters end tag args K (out n) d = d
enters end tag args K (clo j η cs) d = or_distinct (find_clause_lem tag cs) _ λ c _. or_distinct (pair_up (ids c.0) args) _ λ new _. once _ c.1 (new ++ η) K

works : (P : Prog) (t : Stmt) (ε : Entries) (K : Cells) → distinct (keys ε) ≡ true → in_order_lem t (keys ε) ≡ true → DistinctAfter (linear_work P t ε K)
unfolding linear_work in_order_lem
works P (Substitute ps next) ε K d i =
    or_distinct (lookups (sources ps) ε) _ λ vs e.
    ap distinct (substituted ps ε vs e) ∙ and_left (distinct (targets ps)) (present (sources ps) (keys ε)) i
works P (Call label args) ε K d i = or_distinct (find_def label.name P.defs) _ λ f _. or_distinct (pair_up (ids f.context) (values ε)) _ λ ε' _. once _ f.body ε' K
works P (Let var ty tag args next) ε K d i =
    ap distinct (replaced-keys (length args) ε var.id _) ∙ and_right (ends_in_lem (ids args) (keys ε)) (distinct (before_last (length args) (keys ε) ++ (var.id ∷ []))) i
works P (Switch var ty cs) ε K d i =
    or_distinct (last_value_lem ε) _ λ v _.
    or_distinct (matched K v) _ λ x _.
    or_distinct (find_clause_lem x.1 cs) _ λ c _.
    or_distinct (pair_up (ids c.0) x.2) _ λ new _.
    once _ c.1 (before_last 1 ε ++ new) K
works P (Create var ty none cs next) ε K d i = absurd (false≢true i)
works P (Create var ty (some env) cs next) ε K d i =
    ap distinct (replaced-keys (length env) ε var.id _) ∙ and_right (ends_in_lem (ids env) (keys ε)) (distinct (before_last (length env) (keys ε) ++ (var.id ∷ []))) i
works P (Invoke var tag ty args) ε K d i =
    or_distinct (last_value_lem ε) _ λ v _.
    or_distinct (invoked K v) _ λ g _.
    enters (ended (Invoke var tag ty args) ε K) tag.name (values (before_last 1 ε)) K g d
works P (Literal lit var next) ε K d i = ap distinct (added-keys ε var.id _) ∙ i
works P (Op fst op snd var next) ε K d i =
    or_distinct (lookup fst.id ε) _ λ a _.
    or_distinct (lookup snd.id ε) _ λ b _.
    or_distinct (as_int a) _ λ x _.
    or_distinct (as_int b) _ λ y _.
    or_distinct (eval_op op x y) _ λ z _.
    ap distinct (added-keys ε var.id _) ∙ and_right (present (fst.id ∷ snd.id ∷ []) (keys ε)) (distinct (keys ε ++ (var.id ∷ []))) i
works P (IfC sort fst snd thenc elsec) ε K d i =
    or_distinct (lookup fst.id ε) _ λ a _.
    or_distinct (second snd ε) _ λ b _.
    or_distinct (as_int a) _ λ x _.
    or_distinct (as_int b) _ λ y _.
    d
works P (PrintI64 newline var next) ε K d i = or_distinct (lookup var.id ε) _ λ v _. or_distinct (as_int v) _ λ z _. d
works P (Exit var) ε K d i = or_distinct (lookup var.id ε) _ λ v _. d

pub linear-stays-distinct : (P : Prog) (s : State) → distinct (keys (entries_of s)) ≡ true → DistinctAfter (linear_step_lem P s)
unfolding linear_step_lem
linear-stays-distinct P (at t ε K) d = unless-distinct (in_order_lem t (keys ε)) (linear_work P t ε K) (works P t ε K d)
linear-stays-distinct P (ended t ε K) d = tt

-- .. and so do the steps of its stepper
pub located-stays-distinct : (P : Prog) (l : Located) (r : Stepped) → located_step linear_machine P l ≡ some r → distinct (keys l.environment) ≡ true → distinct (keys r.1.environment) ≡ true
unfolding located_step project moved
located-stays-distinct P l r e d = go l.has_stopped (linear_step_lem P (project P l)) (linear-stays-distinct P (project P l) (same l.has_ended d)) e
  where
    same : (b : Bool) → distinct (keys l.environment) ≡ true → distinct (keys (entries_of (state_of b (stmt_in P l.position) l.environment (map (cell_in P) l.cells)))) ≡ true
    same true d = d
    same false d = d

    go : (b : Bool) (o : Outcome) → DistinctAfter o → unless_stopped b (follow linear_machine P l o) ≡ some r → distinct (keys r.1.environment) ≡ true
    go true o a e = absurd (none-ne-some _ e)
    go false (shows v s) a e = let q : (some v, moved linear_machine P l (some v) s) ≡ r = cc e in ap (λ (z : Stepped). distinct (keys z.1.environment)) (sym q) ∙ a
    go false (silent s) a e = let q : (none, moved linear_machine P l none s) ≡ r = cc e in ap (λ (z : Stepped). distinct (keys z.1.environment)) (sym q) ∙ a
    go false halts a e = absurd (none-ne-some _ e)
    go false stops a e = absurd (none-ne-some _ e)
