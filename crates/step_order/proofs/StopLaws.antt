-- When the linear machine stops at the state that a store is read as: because of the statement's own IDs, or of those that a Call, a Switch or an
-- Invoke brings. Assumes nothing.
use Prim.Native.Nat.{ℕ, ◌+◌, ◌-◌, ◌<◌}
use mathlib.Core.Path.{◌≡◌, refl, sym, ap, ap₂, ◌∙◌, subst}
use mathlib.Core.Bool.{Bool, true, false}
use mathlib.Core.List.{List, [], ◌++◌, map, append-nil}
use mathlib.Core.Option.{Option, some}
use native.Mathlib.Omega.{arith}
use borrow.Author.Tests.{eqb-true, eqb-false}
use lib.Dec.{eqb}
use lib.ListN.{length, take, drop, length-map}
use lib.Seq.{length-take-le}
use Rattle.syntax.specs.Context.{Context}
use Rattle.syntax.specs.declared.names.Name.{Name}
use Rattle.syntax.specs.declared.names.VarId.{VarId}
use Rattle.syntax.specs.declared.names.Identifier.{Identifier}
use Rattle.syntax.specs.declared.types.Ty.{Ty}
use Rattle.model.specs.Syntax.{Stmt, Clauses, Def, Prog}
use Rattle.model.specs.Lists.{lookup, lookups}
use Rattle.model.specs.Integers.{eval_op}
use Rattle.model.specs.Machine.{Value, outside, Entries, keys, values, Cells, ended, Outcome, or_halt, find_def, find_clause_lem, as_int, second, matched, invoked, Target, Call', Switch', Invoke'}
use Rattle.model.specs.Linear.{before_last, sources, in_order_lem, stop_unless, last_value_lem, linear_enter_lem, linear_work, linear_step_lem}
use Rattle.image_spec.specs.Records.{Record, call, switch, invoke}
use Rattle.image_spec.specs.Kinds.{kind_of, clauses_of}
use Rattle.image_spec.specs.Shape.{max_depth}
use Rattle.std.specs.Prelude as code
use Rattle.image_places_spec.specs.Views.{record_of, clauses_in}
use Rattle.image_places_spec.specs.Places.{ClausesStand}
use Rattle.image_places_spec.proofs.PlaceLaws.{stmt-parts}
use Rattle.image_kinds.specs.Codes.{code_of}
use Rattle.image_kinds.specs.declared.kinds.Kind.{Kind}
use Rattle.image_kinds.specs.declared.kinds.Kind.TheVariants.{Call, Switch, Invoke}
use Rattle.image_kinds.proofs.KindNames.{same_code}
use Rattle.image_directory.specs.Slots as image
use Rattle.image_directory.specs.Slots.{Ready}
use Rattle.image_directory.specs.declared.Frame.{Frame}
use Rattle.image_read_parts.specs.Standing.{head_of}
use Rattle.image_read_parts.specs.Parts.{list_of}
use Rattle.image_read_nodes.specs.Nodes.{first_of}
use Rattle.image_read_parts.specs.Indexed.{record_at, At}
use Rattle.pass_records.proofs.ListPlaces.{at-made}
use Rattle.step_slots.specs.Slots.{Slot, value_slot}
use Rattle.step_spec.specs.Located.{Machine, source_machine, Located, records_in, stmt_in, cell_in, state_of, project, is_stop, clause_place, label_place}
use Rattle.step_spec.specs.Store.{place_of}
use Rattle.step_spec.proofs.NeverStops.{source-never-stops, or_goes}
use Rattle.step_spec.proofs.StaysDistinct.{take-keys}
use Rattle.step_spec.proofs.Standing.{Stands}
use Rattle.step_header.specs.declared.Header.{Header}
use Rattle.step_header.specs.Headers.{entries_in}
use Rattle.step_places.specs.Searches.{name_of, Finds, FindsDef, FindsLabel}
use Rattle.step_rows.specs.declared.row.Row.{Row}
use Rattle.step_rows.specs.Rows.{ids_of, slot_id}
use Rattle.step_rows.proofs.RowLaws.{ids-length}
use Rattle.step_rule.specs.Rules.{ImageOf, Stored, Reads}
use Rattle.step_rule.proofs.Views.{viewed, environment-count}
use Rattle.step_rule.proofs.Statements.{Is, is_substitute, is_call, is_let, is_switch, is_create_lem, is_invoke, is_literal, is_op, is_ifc, is_print, is_exit, here, placed}
use Rattle.step_cells.specs.Cells.{Cell}
use Rattle.step_cells.proofs.CellLaws as cells
use Rattle.step_cells.proofs.CellLaws.{OfLet, OfCreate, Meets, cells_of, lacks_halts, matched_let, invoked-create, is_outside, no_let, no_target}
use Rattle.step_cells.proofs.CreateLaws.{created}
use Rattle.step_order.specs.Orderly.{IsFront}
use Rattle.step_tags.specs.Tags.{tag_in}
use Rattle.step_order.specs.Stopping.{last_cell_lem, ClauseOf, work_at, step_at}
use Rattle.step_entries.specs.Named.{last_slot}
use Rattle.step_order.proofs.InOrderLaws.{entries-keys}
use Rattle.step_order.proofs.ListLaws.{front_ids}
use Rattle.step_order.proofs.PartLaws.{last_meets}
use Rattle.step_order.proofs.EnterLaws.{entering, Enters}

-- the source machine never stops: what is said of stores with it holds before it is known whether the linear machine stops
pub reads-stored : {P : Prog} {store : List ℕ} {h : Header} {l : Located} → Reads P store h l → l.has_ended ≡ false → l.has_stopped ≡ false → Stored source_machine P store h l
reads-stored {P} {l = l} o e s = record { read = o.read; heads = o.heads; goes_on = e; going = s; goes = source-never-stops P (project P l) }

-- ---- the statement's own IDs

module _ (P : Prog) (l : Located) (e : l.has_ended ≡ false) {a : Bool} (q : a ≡ in_order_lem (stmt_in P l.position) (keys l.environment)) where
  abbrev ordered : Bool → Bool
  ordered b = is_stop (stop_unless b (work_at P l))

  step_is : is_stop (step_at P l) ≡ ordered a
  unfolding project linear_step_lem
  step_is =
      ap (λ (b : Bool). is_stop (linear_step_lem P (state_of b (stmt_in P l.position) l.environment (map (cell_in P) l.cells)))) e
      ∙ ap ordered (sym q)

  pub in_order-stops : {b : Bool} → a ≡ true → b ≡ is_stop (work_at P l) → b ≡ is_stop (step_at P l)
  in_order-stops t r = r ∙ sym (step_is ∙ ap ordered t)

  pub out-of_order_stops : a ≡ false → true ≡ is_stop (step_at P l)
  out-of_order_stops f = sym (step_is ∙ ap ordered f)

-- ---- statements that bring no IDs of others

no_stop : (P : Prog) {t : Stmt} {r : Record} → Is t r → (kind_of r ≡ 3 → ⊥) → (kind_of r ≡ 5 → ⊥) → (kind_of r ≡ 7 → ⊥) → (ε : Entries) (K : Cells) → is_stop (linear_work P t ε K) ≡ false
unfolding linear_work
no_stop P (is_substitute {ps = ps} next) a b c ε K = or_goes (lookups (sources ps) ε) _ λ vs. refl
no_stop P is_call a b c ε K = absurd (a refl)
no_stop P (is_let next) a b c ε K = refl
no_stop P (is_switch cs) a b c ε K = absurd (b refl)
no_stop P (is_create_lem cs next) a b c ε K = refl
no_stop P is_invoke a b c ε K = absurd (c refl)
no_stop P (is_literal next) a b c ε K = refl
no_stop P (is_op {fst = fst} {o = o} {snd = snd} next) a b c ε K =
    or_goes (lookup fst.id ε) _ λ a. or_goes (lookup snd.id ε) _ λ b. or_goes (as_int a) _ λ x. or_goes (as_int b) _ λ y. or_goes (eval_op o x y) _ λ z. refl
no_stop P (is_ifc {fst = fst} {snd = snd} thenc elsec) a b c ε K =
    or_goes (lookup fst.id ε) _ λ a. or_goes (second snd ε) _ λ b. or_goes (as_int a) _ λ x. or_goes (as_int b) _ λ y. refl
no_stop P (is_print {var = var} next) a b c ε K = or_goes (lookup var.id ε) _ λ v. or_goes (as_int v) _ λ z. refl
no_stop P (is_exit {var = var}) a b c ε K = or_goes (lookup var.id ε) _ λ v. refl

-- ---- what a search answers, of the program

module _ {P : Prog} {frame : Frame} {definitions : ℕ} {bytes : List ℕ} (p : ImageOf P frame definitions bytes) where
  abbrev rs : List Record
  rs = image.records_in frame bytes

  label-finds : (x : Identifier) {n : ℕ} {f : code.Option ℕ} → n ≡ x.name.0 → FindsLabel frame bytes definitions n f
      → FindsDef 1 max_depth rs (label_place x.name P.defs 0) (find_def x.name P.defs) f
  label-finds x {f = f} e w =
      subst (λ (n : ℕ). FindsDef 1 max_depth rs (label_place (name_of n) P.defs 0) (find_def (name_of n) P.defs) f) e
      (w.finds max_depth P.defs record { begins = record { rest = []; split = p.records ∙ sym (append-nil (records_in P)) }; shallow = p.shallow; count = p.count })

  clauses-stand : (i : ℕ) → Stands P i → ClausesStand (max_depth - 1) (clauses_of (record_at frame bytes i)) rs (i + 1) (clauses_in (stmt_in P i))
  clauses-stand i s =
      let parts = stmt-parts s in
      let is : record_at frame bytes i ≡ record_of (stmt_in P i) = ap (λ (rs : List Record). head_of (drop i rs)) p.records ∙ ap head_of parts.head in
      rw (is, p.records) parts.clauses

  clause-finds : {i j n : ℕ} {tag : Name} {f : code.Option ℕ} → Stands P i → i < frame.count → j ≡ i → n ≡ tag.0 → ClauseOf frame bytes j n f
      → Finds (λ c. c.0) (λ c. c.1) 11 (max_depth - 1) rs (clause_place tag (clauses_in (stmt_in P i)) (i + 1)) (find_clause_lem tag (clauses_in (stmt_in P i))) f
  clause-finds {i} {j} {n} {tag} {f} s h e k w =
      let c : ClauseOf frame bytes i tag.0 f = subst (λ (m : ℕ). ClauseOf frame bytes i m f) k (subst (λ (m : ℕ). ClauseOf frame bytes m n f) e w) in
      (c.finds h).finds (max_depth - 1) (clauses_in (stmt_in P i)) (clauses-stand i s)

-- ---- the values: how many there are, the IDs of all but the last, and the last

module _ {M : Machine} {P : Prog} {store : List ℕ} {h : Header} {l : Located} (o : Stored M P store h l) where
  pub values-count : length (values l.environment) ≡ h.entries
  values-count = length-map l.environment (λ (e : VarId × Value). e.1) ∙ environment-count o

  pub fewer-values : length (values (before_last 1 l.environment)) ≡ h.entries - 1
  fewer-values =
      let ε = l.environment in
      length-map (before_last 1 ε) (λ (e : VarId × Value). e.1) ∙ (length-take-le (length ε - 1) ε (omega arith) ∙ ap (λ (n : ℕ). n - 1) (environment-count o))

  pub front-keys : {row others : Row} → ids_of row ≡ map slot_id (entries_in store h) → IsFront row 1 others → ids_of others ≡ keys (before_last 1 l.environment)
  front-keys {row} w e =
      let ε = l.environment in
      let ids : ids_of row ≡ keys ε = w ∙ entries-keys o in
      let n : row.places.len - 1 ≡ length ε - 1 = ap (λ (n : ℕ). n - 1) (sym (ids-length row.bytes.now row.places) ∙ (ap length ids ∙ length-map ε (λ (e : VarId × Value). e.0))) in
      front_ids e ∙ (ap₂ {C = List VarId} (λ (k : ℕ) (xs : List VarId). take k xs) n ids ∙ sym (take-keys (length ε - 1) ε))

  -- the last value is a Let's cell, or a Create's
  pub last_let : {c : Cell} → c ≡ last_cell_lem store h → c.sort ≡ 3 → OfLet P store h l (last_value_lem l.environment) c
  last_let q s = cells.is_let (last_meets o q) s

  pub last-create : {c : Cell} → c ≡ last_cell_lem store h → c.sort ≡ 4 → OfCreate P store h l (last_value_lem l.environment) c
  last-create q s = cells.is_create_lem (last_meets o q) s

-- as many fields as the cell of a Let is said to hold
pub fields-count : {P : Prog} {store : List ℕ} {h : Header} {l : Located} {v : Option Value} {c : Cell} (w : OfLet P store h l v c) → length w.fields ≡ c.len
fields-count {l = l} w = sym (w.holds.count ∙ length-map w.fields (value_slot (place_of l.cells) 0))

-- ---- the rules that enter

-- Switch: at the cell that it matched, and at the value v
abbrev matching : Entries → Cells → Clauses → ℕ × Name × List Value → Outcome
matching ε K cs x = entering (λ c. c.0) (λ c. c.1) (find_clause_lem x.1 cs) x.2 (Switch' x.0 x.1) (λ new. before_last 1 ε ++ new) K

abbrev switching : Entries → Cells → Clauses → Value → Outcome
switching ε K cs v = or_halt (matched K v) (matching ε K cs)

-- Invoke: at its target, and at the value v
abbrev aiming : Stmt → Entries → Cells → Name → Target → Outcome
aiming t ε K tag w = linear_enter_lem (ended t ε K) tag (values (before_last 1 ε)) K w

abbrev invoking : Stmt → Entries → Cells → Name → Value → Outcome
invoking t ε K tag v = or_halt (invoked K v) (aiming t ε K tag)

module _ (P : Prog) (ε : Entries) (K : Cells) where
  call_work : {t : Stmt} {x : Identifier} {Γ : Context} → Is t (call x Γ)
      → linear_work P t ε K ≡ entering (λ d. d.context) (λ d. d.body) (find_def x.name P.defs) (values ε) (Call' x.name) (λ new. new) K
  unfolding linear_work
  call_work is_call = refl

  switch_work : {t : Stmt} {v : Identifier} {ty : Ty} {n : ℕ} → Is t (switch v ty n) → linear_work P t ε K ≡ or_halt (last_value_lem ε) (switching ε K (clauses_in t))
  unfolding linear_work
  switch_work (is_switch cs) = refl

  invoke_work : {t : Stmt} {v g : Identifier} {ty : Ty} {Γ : Context} → Is t (invoke v g ty Γ) → linear_work P t ε K ≡ or_halt (last_value_lem ε) (invoking t ε K g.name)
  unfolding linear_work
  invoke_work is_invoke = refl

module _ {M : Machine} {P : Prog} {frame : Frame} {definitions : ℕ} {bytes store : List ℕ} {h : Header} {l : Located} (p : ImageOf P frame definitions bytes) (o : Stored M P store h l) where
  abbrev t : Stmt
  t = stmt_in P l.position

  abbrev ε : Entries
  ε = l.environment

  abbrev r : Record
  r = record_at frame bytes h.position

  pub others-go : (k : Kind) → At frame bytes h.position (code_of k) → (k ≡ Call → ⊥) → (k ≡ Switch → ⊥) → (k ≡ Invoke → ⊥) → false ≡ is_stop (work_at P l)
  others-go k a c s i = sym (no_stop P (here p o r refl) (other Call c) (other Switch s) (other Invoke i) ε (cells_of P l))
    where
      other : (j : Kind) → (k ≡ j → ⊥) → kind_of r ≡ code_of j → ⊥
      other j n e = n (same_code k j (sym a.kind ∙ e))

  -- Call
  pub call_enters : At frame bytes h.position 3 → (x : Identifier) → x ≡ first_of r → {n : ℕ} {f : code.Option ℕ} → n ≡ x.name.0
      → FindsLabel frame bytes definitions n f → Enters frame bytes f (values ε) (λ new. new) (is_stop (work_at P l))
  call_enters a x q e w = record {
    A = Def;
    context_of = λ d. d.context;
    body_of = λ d. d.body;
    kind = 1;
    depth = max_depth;
    body = label_place x.name P.defs 0;
    what = find_def x.name P.defs;
    event = Call' x.name;
    cells = cells_of P l;
    finds = label-finds p x e w;
    stops = ap is_stop (call_work P ε (cells_of P l) (subst (λ (y : Identifier). Is t (call y (list_of r))) (sym q) (here p o (call (first_of r) (list_of r)) (at-made 3 a))));
  }

  module _ {c : Cell} (q : c ≡ last_cell_lem store h) where
    abbrev u : Slot
    u = last_slot (entries_in store h)

    m : Meets P store h l (last_value_lem ε) u c
    m = last_meets o q

    -- Switch
    module _ (a : At frame bytes h.position 5) where
      switches : work_at P l ≡ or_halt (last_value_lem ε) (switching ε (cells_of P l) (clauses_in t))
      switches = switch_work P ε (cells_of P l) (here p o _ (at-made 5 a))

      pub switch-goes : (c.sort ≡ 3 → ⊥) → false ≡ is_stop (work_at P l)
      switch-goes n = sym (ap is_stop (switches ∙ lacks_halts (no_let m n) (switching ε (cells_of P l) (clauses_in t)) (λ v e. ap (λ z. or_halt z (matching ε (cells_of P l) (clauses_in t))) e)))

      pub switch-enters : (w : OfLet P store h l (last_value_lem ε) c) → {j : ℕ} {f : code.Option ℕ} → j ≡ h.position → ClauseOf frame bytes j c.id f
          → Enters frame bytes f w.fields (λ new. before_last 1 ε ++ new) (is_stop (work_at P l))
      switch-enters w e k = record {
        A = Context × Stmt;
        context_of = λ c. c.0;
        body_of = λ c. c.1;
        kind = 11;
        depth = max_depth - 1;
        body = clause_place (name_of c.id) (clauses_in t) (l.position + 1);
        what = find_clause_lem (name_of c.id) (clauses_in t);
        event = Switch' c.number (name_of c.id);
        cells = cells_of P l;
        finds = clause-finds p (placed p o).here (omega (arith, a.inside, (viewed o).position)) (e ∙ (viewed o).position) refl k;
        stops = ap is_stop (switches ∙ (ap (λ z. or_halt z (switching ε (cells_of P l) (clauses_in t))) w.is ∙ ap (λ z. or_halt z (matching ε (cells_of P l) (clauses_in t))) (matched_let w)));
      }

    -- Invoke
    module _ (a : At frame bytes h.position 7) where
      invokes : {x : Identifier} → x ≡ tag_in r → work_at P l ≡ or_halt (last_value_lem ε) (invoking t ε (cells_of P l) x.name)
      invokes g =
          let e = at-made 7 a in
          invoke_work P ε (cells_of P l) (here p o _ e) ∙ ap (λ (y : Identifier). or_halt (last_value_lem ε) (invoking t ε (cells_of P l) y.name)) (sym (g ∙ ap tag_in e))

      -- an outside number
      outside-goes : (tag : Name) {n : ℕ} → last_value_lem ε ≡ some (outside n) → is_stop (or_halt (last_value_lem ε) (invoking t ε (cells_of P l) tag)) ≡ false
      unfolding linear_enter_lem
      outside-goes tag e = ap (λ z. is_stop (or_halt z (invoking t ε (cells_of P l) tag))) e

      pub invoke-goes : (c.sort ≡ 4 → ⊥) → false ≡ is_stop (work_at P l)
      invoke-goes n = sym (ap is_stop (invokes refl) ∙ go (eqb u.sort 2) refl)
        where
          tag : Name
          tag = (tag_in r).name

          go : (b : Bool) → eqb u.sort 2 ≡ b → is_stop (or_halt (last_value_lem ε) (invoking t ε (cells_of P l) tag)) ≡ false
          go true e = outside-goes tag (is_outside m (eqb-true u.sort 2 e))
          go false e = ap is_stop (lacks_halts (no_target m (eqb-false u.sort 2 e) n) (invoking t ε (cells_of P l) tag) (λ v e. ap (λ z. or_halt z (aiming t ε (cells_of P l) tag)) e))

      pub invoke-enters : Ready frame bytes → {x : Identifier} → x ≡ tag_in r → (w : OfCreate P store h l (last_value_lem ε) c) → {i n : ℕ} {f : code.Option ℕ} → i ≡ c.id → n ≡ x.name.0 → ClauseOf frame bytes i n f
          → Enters frame bytes f (values (before_last 1 ε)) (λ new. new ++ w.entries) (is_stop (work_at P l))
      unfolding linear_enter_lem
      invoke-enters ready {x} g w e k f =
          let made = created p o ready w in
          let cs = clauses_in (stmt_in P c.id) in
          record {
            A = Context × Stmt;
            context_of = λ c. c.0;
            body_of = λ c. c.1;
            kind = 11;
            depth = max_depth - 1;
            body = clause_place x.name cs (c.id + 1);
            what = find_clause_lem x.name cs;
            event = Invoke' c.number x.name;
            cells = cells_of P l;
            finds = clause-finds p made.stands made.at.inside e k f;
            stops = ap is_stop (invokes g
                ∙ (ap (λ z. or_halt z (invoking t ε (cells_of P l) x.name)) w.is ∙ ap (λ z. or_halt z (aiming t ε (cells_of P l) x.name)) (invoked-create w)));
          }
