-- The rows of a record's list, pairs and environment. Assumes nothing.
use Prim.Native.Nat.{ℕ, ◌+◌, ◌*◌, ◌≤◌, ◌<◌}
use mathlib.Core.Path.{◌≡◌, refl, sym, ap, ◌∙◌, subst}
use mathlib.Core.Bool.{true}
use mathlib.Core.List.{List, [], ◌∷◌, ◌++◌, append_assoc, append-nil, map}
use mathlib.Core.Option.{Option, none, some}
use native.Mathlib.Omega.{arith}
use lib.ListN.{length, drop, get_or, length-append, length-drop}
use lib.Seq.{drop-drop}
use Rattle.syntax.specs.Context.{Context, id_of, ids}
use Rattle.syntax.specs.declared.names.Identifier.{Identifier}
use Rattle.syntax.specs.declared.names.VarId.{VarId}
use Rattle.syntax.specs.declared.context.ContextBinding.{ContextBinding}
use Rattle.image_spec.specs.Parse.{each, All, field, mark, Marked}
use Rattle.image_spec.specs.Fields.{max_count, chirality_code_lem, identifier_bytes, type_bytes, binding_bytes, list_bytes, pair_bytes, BindingOk, ListOk, PairOk}
use Rattle.image_spec.specs.Records.{Record, definition, substitute, call, let', switch, create, invoke, literal, op, ifc, clause', print, exit, record_bytes, RecordOk}
use Rattle.image_spec.specs.Kinds.{kind_of, clauses_of, fixed, tail_bytes}
use Rattle.image_spec.proofs.FieldLaws.{binding-length, pair-length}
use Rattle.image_spec.proofs.KindLaws.{fixed_le, record_nonempty}
use Rattle.image_directory.specs.Slots.{Ready}
use Rattle.image_directory.specs.declared.Frame.{Frame}
use Rattle.image_read_parts.specs.Standing.{Stands}
use Rattle.image_read_parts.proofs.StandingLaws.{byte-run, stands_in, stands-room}
use Rattle.image_read_parts.specs.Indexed.{record_at, At}
use Rattle.image_read_nodes.proofs.TailLaws.{tail_from}
use Rattle.image_read_nodes.proofs.NodeLaws.{record_ok}
use Rattle.image_read_nodes.proofs.ListLaws.{list-stands}
use Rattle.image_read_nodes.specs.Nodes.{has_list}
use Rattle.image_read_parts.specs.Parts.{list_of}
use Rattle.syntax.proofs.Filters.{ids-length}
use Rattle.step_rows.proofs.RowLaws.{row-length}
use Rattle.step_rows.specs.declared.places.Places.{Places}
use Rattle.step_rows.specs.declared.row.Row.{Row}
use Rattle.std.specs.Prelude as code
use Rattle.std.specs.Prelude.{Some, None}
use Rattle.step_rows.specs.Rows.{ids_of}
use Rattle.step_rows.specs.Placing.{ids_from, ids_in, Inside}
use Rattle.step_rows.specs.RecordRows.{bytes_of, AnyBytes, pairs_of, environment_of, EnvironmentRow, absent, listed, counted_places_lem}
use Rattle.step_rows.proofs.ElementRows.{Written, each_row}

-- ---- a count and as many elements

module _ {A : Type 0} {e : A → List ℕ} {P : A → Type 0} {id : A → VarId} {stride offset w : ℕ} (t : Written e P id stride offset w) where
  each-length : (xs : List A) → length (each e xs) ≡ stride * length xs
  each-length [] = omega arith
  each-length (a ∷ xs) = length-append (e a) (each e xs) ∙ omega (arith, t.size a, each-length xs)

  pub counted-inside : {s : List ℕ} {at : ℕ} {xs : List A} → Stands (λ xs. length xs ∷ each e xs) (λ xs. (length xs ≤ max_count) × All P xs) s at xs → at < length s
  counted-inside h = omega (arith, stands-room {e = λ (xs : List A). length xs ∷ each e xs} (omega arith) h)

  pub counted-places : {s : List ℕ} {at : ℕ} {xs : List A} {row : Places} → Stands (λ xs. length xs ∷ each e xs) (λ xs. (length xs ≤ max_count) × All P xs) s at xs
      → w ≤ 4 → offset + w ≤ stride → row ≡ counted_places_lem s at stride offset w → Inside s row
  counted-places {s} {at} {xs} h small inside q =
      let n : get_or s at 0 ≡ length xs = byte-run s (each e xs ++ h.others) at (length xs) h.bytes in
      let m : stride * get_or s at 0 ≡ stride * length xs = ap (λ (z : ℕ). stride * z) n in
      subst (Inside s) (sym q) record {
        width = small;
        element = inside;
        room = omega (arith, m, each-length xs, stands-room {e = λ (xs : List A). length xs ∷ each e xs} (omega arith) h);
      }

  pub counted-row : {s : List ℕ} {at : ℕ} {xs : List A} {row : Places} → Stands (λ xs. length xs ∷ each e xs) (λ xs. (length xs ≤ max_count) × All P xs) s at xs
      → row ≡ counted_places_lem s at stride offset w → ids_in s row ≡ map id xs
  counted-row {s} {at} {xs} h q =
      let n : get_or s at 0 ≡ length xs = byte-run s (each e xs ++ h.others) at (length xs) h.bytes in
      let k : drop (at + 1) s ≡ each e xs ++ h.others = sym (drop-drop 1 at s) ∙ ap (drop 1) h.bytes in
      ap (ids_in s) q ∙ (ap (ids_from s stride w (at + 1 + offset)) n ∙ each_row t s (at + 1) xs h.others h.fits.1 k)

-- ---- bindings and pairs

module _ (w : ℕ) where
  pub binding-written : Written (binding_bytes w) (BindingOk w) id_of (6 + (w + w)) 2 w
  binding-written = record {
    size = binding-length w;
    front = λ b. field 2 b.var.name.0;
    back = λ b. (chirality_code_lem b.chi ∷ []) ++ type_bytes w b.ty;
    parts = λ b. append_assoc (field 2 b.var.name.0) (field w b.var.id.0) ((chirality_code_lem b.chi ∷ []) ++ type_bytes w b.ty);
    before = λ b. refl;
    below = λ b o. o.0.1;
  }

  pub target_written : Written (pair_bytes w) (PairOk w) (λ p. p.0.var.id) (8 + (w + (w + w))) 2 w
  target_written = record {
    size = pair-length w;
    front = λ p. field 2 p.0.var.name.0;
    back = λ p. (chirality_code_lem p.0.chi ∷ []) ++ type_bytes w p.0.ty ++ identifier_bytes w p.1;
    parts = λ p.
        let y = (chirality_code_lem p.0.chi ∷ []) ++ type_bytes w p.0.ty in
        let z = identifier_bytes w p.1 in
        append_assoc (identifier_bytes w p.0.var) y z ∙ append_assoc (field 2 p.0.var.name.0) (field w p.0.var.id.0) (y ++ z);
    before = λ p. refl;
    below = λ p o. o.0.0.1;
  }

  pub source-written : Written (pair_bytes w) (PairOk w) (λ p. p.1.id) (8 + (w + (w + w))) (8 + (w + w)) w
  source-written = record {
    size = pair-length w;
    front = λ p. binding_bytes w p.0 ++ field 2 p.1.name.0;
    back = λ p. [];
    parts = λ p.
        let x = binding_bytes w p.0 in
        let y = field 2 p.1.name.0 in
        let z = field w p.1.id.0 in
        ap (λ (l : List ℕ). x ++ (y ++ l)) (sym (append-nil z)) ∙ sym (append_assoc x y (z ++ []));
    before = λ p. length-append (binding_bytes w p.0) (field 2 p.1.name.0) ∙ omega (arith, binding-length w p.0);
    below = λ p o. o.1.1;
  }

  -- ---- the tails of a Substitute and of a Create

  pairs-tail : (r : Record) → kind_of r ≡ 2 → RecordOk w r
      → (tail_bytes w r ≡ length (pairs_of r) ∷ each (pair_bytes w) (pairs_of r)) × ((length (pairs_of r) ≤ max_count) × All (PairOk w) (pairs_of r))
  unfolding RecordOk
  pairs-tail (definition x Γ) a ok = absurd (omega arith)
  pairs-tail (substitute ps) a ok = (refl, ok)
  pairs-tail (call x Γ) a ok = absurd (omega arith)
  pairs-tail (let' v t h Γ) a ok = absurd (omega arith)
  pairs-tail (switch v t n) a ok = absurd (omega arith)
  pairs-tail (create v t e n) a ok = absurd (omega arith)
  pairs-tail (invoke v h t Γ) a ok = absurd (omega arith)
  pairs-tail (literal z v) a ok = absurd (omega arith)
  pairs-tail (op f o j v) a ok = absurd (omega arith)
  pairs-tail (ifc c f j) a ok = absurd (omega arith)
  pairs-tail (clause' x Γ) a ok = absurd (omega arith)
  pairs-tail (print n v) a ok = absurd (omega arith)
  pairs-tail (exit v) a ok = absurd (omega arith)

  environment-tail : (r : Record) → kind_of r ≡ 6 → RecordOk w r → (tail_bytes w r ≡ mark (list_bytes w) (environment_of r) ++ (clauses_of r ∷ [])) × Marked (ListOk w) (environment_of r)
  unfolding RecordOk
  environment-tail (definition x Γ) a ok = absurd (omega arith)
  environment-tail (substitute ps) a ok = absurd (omega arith)
  environment-tail (call x Γ) a ok = absurd (omega arith)
  environment-tail (let' v t h Γ) a ok = absurd (omega arith)
  environment-tail (switch v t n) a ok = absurd (omega arith)
  environment-tail (create v t e n) a ok = (refl, ok.1.1.0)
  environment-tail (invoke v h t Γ) a ok = absurd (omega arith)
  environment-tail (literal z v) a ok = absurd (omega arith)
  environment-tail (op f o j v) a ok = absurd (omega arith)
  environment-tail (ifc c f j) a ok = absurd (omega arith)
  environment-tail (clause' x Γ) a ok = absurd (omega arith)
  environment-tail (print n v) a ok = absurd (omega arith)
  environment-tail (exit v) a ok = absurd (omega arith)

  -- what stands where a Create's tail begins: a mark, and its environment's list if the mark is not 0
  pub data Environs (s : List ℕ) (at : ℕ) : Option Context → Type 0 where
    unmarked : at < length s → get_or s at 0 ≡ 0 → Environs s at none
    marked : {Γ : Context} → get_or s at 0 ≡ 1 → Stands (list_bytes w) (ListOk w) s (at + 1) Γ → Environs s at (some Γ)

  module _ {s : List ℕ} {at : ℕ} where
    pub environment-inside : {e : Option Context} → Environs s at e → at < length s
    environment-inside (unmarked r h) = r
    environment-inside (marked h t) = omega (arith, stands-room {e = list_bytes w} (omega arith) t)

    pub absent-row : {e : Option Context} → Environs s at e → get_or s at 0 ≡ 0 → EnvironmentRow None e
    absent-row (unmarked r h) z = absent
    absent-row (marked h t) z = absurd (omega arith)

    pub listed-room : {e : Option Context} → Environs s at e → (get_or s at 0 ≡ 0 → ⊥) → at + 1 < length s
    listed-room (unmarked r h) z = absurd (z h)
    listed-room (marked h t) z = omega (arith, stands-room {e = list_bytes w} (omega arith) t)

    pub listed-places : {e : Option Context} {row : Places} → Environs s at e → (get_or s at 0 ≡ 0 → ⊥) → w ≤ 4
        → row ≡ counted_places_lem s (at + 1) (6 + (w + w)) 2 w → Inside s row
    listed-places (unmarked r h) z n q = absurd (z h)
    listed-places (marked h t) z n q = counted-places binding-written t n (omega arith) q

  pub listed-row : {at : ℕ} {e : Option Context} {row : Row} → Environs row.bytes.now at e → (get_or row.bytes.now at 0 ≡ 0 → ⊥)
      → row.places ≡ counted_places_lem row.bytes.now (at + 1) (6 + (w + w)) 2 w → EnvironmentRow (Some row) e
  listed-row (unmarked r h) z q = absurd (z h)
  listed-row (marked h t) z q = listed (counted-row binding-written t q)

-- ---- the same, of the record at an index

module _ (g : Frame) (s : List ℕ) (i : ℕ) where
  module _ (k o : ℕ) (a : At g s i k) (t : Stands (record_bytes g.id) (RecordOk g.id) s o (record_at g s i)) where
    tail_le : fixed g.id k ≤ length (record_bytes g.id (record_at g s i))
    tail_le = subst (λ (z : ℕ). fixed g.id z ≤ length (record_bytes g.id (record_at g s i))) a.kind (fixed_le g.id (record_at g s i))

    pub tail-stands : Stands bytes_of AnyBytes s (o + fixed g.id k) (tail_bytes g.id (record_at g s i))
    tail-stands = stands_in tail_le t record { others = []; bytes = tail_from g.id k (record_at g s i) a.kind ∙ sym (append-nil (tail_bytes g.id (record_at g s i))); fits = tt }

    pub tail-inside : o + fixed g.id k ≤ length s
    tail-inside = omega (arith, tail_le, stands-room {e = record_bytes g.id} (record_nonempty g.id (record_at g s i)) t)

  module _ {at : ℕ} (t : Stands bytes_of AnyBytes s at (tail_bytes g.id (record_at g s i))) where
    pub pairs-there : Ready g s → At g s i 2
        → Stands (λ ps. length ps ∷ each (pair_bytes g.id) ps) (λ ps. (length ps ≤ max_count) × All (PairOk g.id) ps) s at (pairs_of (record_at g s i))
    pairs-there ready a =
        let p = pairs-tail g.id (record_at g s i) a.kind (record_ok g s i 2 ready a) in
        record { others = t.others; bytes = t.bytes ∙ ap (λ (l : List ℕ). l ++ t.others) p.0; fits = p.1 }

    pub environment-there : Ready g s → At g s i 6 → Environs g.id s at (environment_of (record_at g s i))
    environment-there ready a =
        let p = environment-tail g.id (record_at g s i) a.kind (record_ok g s i 6 ready a) in
        go (environment_of (record_at g s i)) (clauses_of (record_at g s i)) (t.bytes ∙ ap (λ (l : List ℕ). l ++ t.others) p.0) p.1
      where
        go : (e : Option Context) (n : ℕ) → drop at s ≡ (mark (list_bytes g.id) e ++ (n ∷ [])) ++ t.others → Marked (ListOk g.id) e → Environs g.id s at e
        go none n q ok = unmarked (omega (arith, length-drop at s, ap length q)) (byte-run s _ at 0 q)
        go (some Γ) n q ok = marked (byte-run s _ at 1 q) record {
          others = n ∷ t.others;
          bytes = sym (drop-drop 1 at s) ∙ (ap (drop 1) q ∙ append_assoc (list_bytes g.id Γ) (n ∷ []) t.others);
          fits = ok;
        }

-- ---- what the answer says of an environment

-- there is one, and these are its IDs
pub record Entered (row : Row) (e : Option Context) : Type 0 where
  pub context : Context
  pub is : e ≡ some context
  pub holds : ids_of row ≡ ids context

pub environment_none : {r : code.Option Row} {e : Option Context} → EnvironmentRow r e → r ≡ None → e ≡ none
environment_none absent q = refl
environment_none (listed h) q = cc

pub environment_some : {r : code.Option Row} {e : Option Context} {row : Row} → EnvironmentRow r e → r ≡ Some row → Entered row e
environment_some absent q = let z : ◌≡◌ {A = ℕ} 0 1 = cc (q) in absurd (omega arith)
environment_some {row = row} (listed {row = other} {Γ = Γ} h) q = let k : other ≡ row = cc (q) in record { context = Γ; is = refl; holds = subst (λ (z : Row). ids_of z ≡ ids Γ) k h }

-- a record's list has at most 128 bindings
pub list-short : (row : Row) {g : Frame} {s : List ℕ} {i k : ℕ} → Ready g s → At g s i k → has_list k ≡ true → ids_of row ≡ ids (list_of (record_at g s i)) → row.places.len ≤ max_count
list-short row {g} {s} {i} {k} ready a h r =
    let Γ = list_of (record_at g s i) in
    omega (arith, (list-stands g.id (record_at g s i) k a.kind h (record_ok g s i k ready a)).fits.0, row-length row r, ids-length Γ)
