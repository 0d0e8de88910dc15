-- The annotation of a record: where its clauses and its next stand, the sets that are marked there, and the reply. Assumes nothing.
use Prim.Native.Nat.{ℕ, zero, suc, ◌+◌, ◌*◌, ◌≤◌, ◌<◌}
use mathlib.Core.Path.{◌≡◌, refl, sym, ap, ◌∙◌, subst}
use mathlib.Core.Bool.{Bool, true, false, not, false≢true}
use mathlib.Core.List.{List, [], ◌∷◌, ◌++◌, append-nil}
use native.Mathlib.Omega.{arith}
use lib.Dec.{leb, eqb}
use lib.ListN.{length, drop, replicate, length-append, length-replicate, drop_of_length-le}
use lib.Seq.{length-sets}
use Rattle.syntax.specs.declared.names.VarId.{VarId}
use Rattle.syntax.proofs.Bools.{both_true}
use Rattle.model.specs.Syntax.{Stmt, Substitute, Call, Let, Switch, Create, Invoke, Literal, Op, IfC, PrintI64, Exit, Clauses, end, Prog}
use Rattle.model.specs.Sizes.{records_defs, depth_defs}
use Rattle.model.specs.FreeVars.{free_vars, free_vars_clauses, ascending, annotations}
use Rattle.model.specs.Questions.{asked, asked_defs, plain, any_binders, question6, question7}
use Rattle.image_spec.specs.Parse.{each, field, All}
use Rattle.image_spec.specs.Records.{Record, definition, substitute, call, let', switch, create, invoke, literal, op, ifc, clause', print, exit, RecordOk}
use Rattle.image_spec.specs.Kinds.{kind_of, clauses_of, bodies}
use Rattle.image_spec.specs.Shape.{flatten, flatten_clauses, flatten_defs, max_depth}
use Rattle.std.specs.Prelude.{Err}
use Rattle.std.proofs.lemmas.List.Sums.{count_by-le-length}
use Rattle.image_spec.specs.Answers.{Answer}
use Rattle.image_spec.specs.declared.Refusal.{Refusal}
use Rattle.image_spec.specs.declared.Refusal.TheVariants.{Linearized, Limits, Room, Place}
use Rattle.image_spec.specs.declared.Layout.{Layout}
use Rattle.image_spec.proofs.FieldLaws.{field-length}
use Rattle.image_directory.specs.Slots.{Ready, records_in}
use Rattle.image_directory.specs.declared.Frame.{Frame}
use Rattle.image_directory.proofs.Places.{records-length}
use Rattle.image_read_parts.specs.Standing.{head_of}
use Rattle.image_spec.proofs.ListLaws.{all_left}
use Rattle.image_read_parts.proofs.TailPlaces.{record_ok}
use Rattle.image_open.specs.Opening.{opened_of}
use Rattle.image_open.proofs.OpenedLaws.{IsOpened}
use Rattle.image_places_spec.specs.Views.{record_of, clauses_in, bodies_of, binders}
use Rattle.image_places_spec.specs.Places.{Begins, stmt_at, clauses_at, StmtStands, ClausesStand, BodiesStand}
use Rattle.image_places_spec.proofs.PlaceLaws.{stmt_is, clauses-are, stmt-parts, body-parts}
use Rattle.image_write_parts.specs.Puts.{Puts}
use Rattle.image_write_parts.specs.Written.{Wrote}
use Rattle.image_write_parts.specs.declared.writer.Writer.{Writer}
use Rattle.image_write_parts.proofs.WriterLaws.{wrote_as, wrote_next}
use Rattle.scope_spec.specs.Flat.{all_records_lem, small_record_lem}
use Rattle.scope_spec.specs.Rooms.{in_room, RoomFor, RoomForClauses}
use Rattle.scope_spec.specs.Marking.{mark_stmt, mark_clauses, marked_from}
use Rattle.scope_spec.specs.Calls.{writes, reply_if_yes, has_annotation_lem, first_has, question13, set_bytes, annotation_bytes, placing, annotating, annotate_of, Replies}
use Rattle.scope_spec.proofs.FlatLaws.{question7-flat}
use Rattle.scope_spec.proofs.Inside.{Inside, inside, asked-parts}
use Rattle.scope_spec.proofs.IdsFit.{stmt-ids-fit, clauses-ids-fit, two_bytes}
use Rattle.scope_spec.proofs.MarkLaws.{FitRow, Marks, all_uses, all_uses_clauses, marks_stmt, marks_clauses, marked-ascending}
use Rattle.image_read_parts.specs.Indexed.{record_at, At}
use Rattle.scope_check.specs.Deciding.{program_in}
use Rattle.scope_check.proofs.ReplyLaws.{opened-replies, closed-replies}
use Rattle.annotate_marks.proofs.MarkedLaws.{marked-counted}
use Rattle.annotate.specs.Annotating.{annotated_kind, Annotated, Limited, Settled}

-- ── by kind ──

pub has-kind : (r : Record) → has_annotation_lem r ≡ annotated_kind (kind_of r)
has-kind (definition x Γ) = refl
has-kind (substitute ps) = refl
has-kind (call x Γ) = refl
has-kind (let' v t g Γ) = refl
has-kind (switch v t n) = refl
has-kind (create v t e n) = refl
has-kind (invoke v g t Γ) = refl
has-kind (literal z v) = refl
has-kind (op f o s v) = refl
has-kind (ifc c f s) = refl
has-kind (clause' x Γ) = refl
has-kind (print n v) = refl
has-kind (exit v) = refl

-- what code says of the kind of the record at an index
pub has-by : {g : Frame} {s : List ℕ} {i k : ℕ} {b : Bool} → At g s i k → b ≡ annotated_kind k → has_annotation_lem (record_at g s i) ≡ b
has-by {g} {s} {i} a e = has-kind (record_at g s i) ∙ (ap annotated_kind a.kind ∙ sym e)

-- a statement with one next
pub record HasNext (t : Stmt) : Type 0 where
  pub next : Stmt
  pub bodies : bodies_of t ≡ next ∷ []

-- Switch: the set of its clauses
pub clause-set : (t : Stmt) → kind_of (record_of t) ≡ 5 → annotations t ≡ ascending (free_vars_clauses (clauses_in t)) ∷ []
unfolding annotations
clause-set (Substitute ps next) k = absurd (omega (arith, k))
clause-set (Call label args) k = absurd (omega (arith, k))
clause-set (Let var ty tag args next) k = absurd (omega (arith, k))
clause-set (Switch var ty cs) k = refl
clause-set (Create var ty env cs next) k = absurd (omega (arith, k))
clause-set (Invoke var tag ty args) k = absurd (omega (arith, k))
clause-set (Literal lit var next) k = absurd (omega (arith, k))
clause-set (Op fst o snd var next) k = absurd (omega (arith, k))
clause-set (IfC sort fst snd thenc elsec) k = absurd (omega (arith, k))
clause-set (PrintI64 newline var next) k = absurd (omega (arith, k))
clause-set (Exit var) k = absurd (omega (arith, k))

-- Create: that of its clauses, then that of its next
pub record BothSets (t : Stmt) : Type 0 where
  pub has : HasNext t
  pub sets : annotations t ≡ ascending (free_vars_clauses (clauses_in t)) ∷ ascending (free_vars has.next) ∷ []

pub both_sets : (t : Stmt) → kind_of (record_of t) ≡ 6 → BothSets t
unfolding annotations
both_sets (Substitute ps next) k = absurd (omega (arith, k))
both_sets (Call label args) k = absurd (omega (arith, k))
both_sets (Let var ty tag args next) k = absurd (omega (arith, k))
both_sets (Switch var ty cs) k = absurd (omega (arith, k))
both_sets (Create var ty env cs next) k = record { has = record { next = next; bodies = refl }; sets = refl }
both_sets (Invoke var tag ty args) k = absurd (omega (arith, k))
both_sets (Literal lit var next) k = absurd (omega (arith, k))
both_sets (Op fst o snd var next) k = absurd (omega (arith, k))
both_sets (IfC sort fst snd thenc elsec) k = absurd (omega (arith, k))
both_sets (PrintI64 newline var next) k = absurd (omega (arith, k))
both_sets (Exit var) k = absurd (omega (arith, k))

-- Let, Literal, Op, PrintI64: that of its next, which stands right behind the record
pub record NextSet (t : Stmt) : Type 0 where
  pub has : HasNext t
  pub clauses : clauses_in t ≡ end
  pub sets : annotations t ≡ ascending (free_vars has.next) ∷ []

pub next-set : (t : Stmt) → has_annotation_lem (record_of t) ≡ true → ¬ (kind_of (record_of t) ≡ 5) → ¬ (kind_of (record_of t) ≡ 6) → NextSet t
unfolding annotations
next-set (Substitute ps next) h a b = absurd (false≢true h)
next-set (Call label args) h a b = absurd (false≢true h)
next-set (Let var ty tag args next) h a b = record { has = record { next = next; bodies = refl }; clauses = refl; sets = refl }
next-set (Switch var ty cs) h a b = absurd (a refl)
next-set (Create var ty env cs next) h a b = absurd (b refl)
next-set (Invoke var tag ty args) h a b = absurd (false≢true h)
next-set (Literal lit var next) h a b = record { has = record { next = next; bodies = refl }; clauses = refl; sets = refl }
next-set (Op fst o snd var next) h a b = record { has = record { next = next; bodies = refl }; clauses = refl; sets = refl }
next-set (IfC sort fst snd thenc elsec) h a b = absurd (false≢true h)
next-set (PrintI64 newline var next) h a b = record { has = record { next = next; bodies = refl }; clauses = refl; sets = refl }
next-set (Exit var) h a b = absurd (false≢true h)

-- ── every record of an image is one that its layout can hold ──

all_from : (P : Record → Type 0) (i : ℕ) (rs : List Record) → ((j : ℕ) → j < length rs → P (head_of (drop j rs))) → All P (drop i rs)
all_from P zero [] f = tt
all_from P (suc i) [] f = tt
all_from P zero (r ∷ rs) f = (f 0 (omega arith), all_from P zero rs (λ j h. f (suc j) (omega arith)))
all_from P (suc i) (r ∷ rs) f = all_from P i rs (λ j h. f (suc j) (omega arith))

begins-ok : {g : Frame} {s : List ℕ} {i : ℕ} (front : List Record) → Ready g s → Begins (records_in g s) i front → All (RecordOk g.id) front
begins-ok {g} {s} {i} front h b =
    let a = all_from (RecordOk g.id) i (records_in g s) (λ j k. record_ok g s j h (omega (arith, records-length g s h))) in
    all_left (RecordOk g.id) front b.rest (subst (All (RecordOk g.id)) b.split a)

-- ── the record and what stands behind it ──

module _ {g : Frame} {s : List ℕ} {i : ℕ} (a : Annotated g s i) where
  abbrev rs : List Record
  rs = records_in g s

  abbrev t : Stmt
  t = stmt_at max_depth rs i

  pub record_is : record_at g s i ≡ record_of t
  record_is = ap head_of (stmt-parts a.stands).head

  -- its sets, by the kind of its record
  pub switched : kind_of (record_at g s i) ≡ 5 → annotations t ≡ ascending (free_vars_clauses (clauses_in t)) ∷ []
  switched k = clause-set t (ap kind_of (sym record_is) ∙ k)

  pub created : kind_of (record_at g s i) ≡ 6 → BothSets t
  created k = both_sets t (ap kind_of (sym record_is) ∙ k)

  pub followed : ¬ (kind_of (record_at g s i) ≡ 5) → ¬ (kind_of (record_at g s i) ≡ 6) → NextSet t
  followed m n = next-set t (ap has_annotation_lem (sym record_is) ∙ a.has) (λ e. m (ap kind_of record_is ∙ e)) (λ e. n (ap kind_of record_is ∙ e))

  pub behind : (b : NextSet t) → i + 1 ≡ i + 1 + length (flatten_clauses (clauses_in t))
  unfolding flatten
  behind b = omega (arith, ap (λ (z : Clauses). length (flatten_clauses z)) b.clauses)

  module _ (n : ℕ) (e : n ≡ clauses_of (record_at g s i)) where
    clauses-here : ClausesStand 127 n rs (i + 1) (clauses_in t)
    clauses-here = subst (λ (z : ℕ). ClausesStand 127 z rs (i + 1) (clauses_in t)) (sym (e ∙ ap clauses_of record_is)) (stmt-parts a.stands).clauses

    pub clauses-same : clauses_at 127 n rs (i + 1) ≡ clauses_in t
    clauses-same = clauses-are clauses-here

    pub clauses-stand : ClausesStand 127 n rs (i + 1) (clauses_at 127 n rs (i + 1)) × RoomForClauses [] (clauses_at 127 n rs (i + 1))
    clauses-stand = subst (λ (z : Clauses). ClausesStand 127 n rs (i + 1) z × RoomForClauses [] z) (sym clauses-same)
        (clauses-here, record { scope = a.scope; longer = omega arith; room = (asked-parts t in_room any_binders a.scope a.room).0 })

    clauses_marks : Ready g s → (k : ℕ) → k ≡ 65536 → Marks [] (free_vars_clauses (clauses_in t)) (replicate k 0) (mark_clauses (clauses_in t) [] (replicate k 0))
    clauses_marks ready k q =
        let ok = begins-ok (flatten_clauses (clauses_in t)) ready clauses-here.begins in
        let fit : FitRow (all_uses_clauses (clauses_in t)) (length {A = ℕ} (replicate k 0)) =
        subst (FitRow (all_uses_clauses (clauses_in t))) (sym (length-replicate {A = ℕ} k 0))
        (clauses-ids-fit g.id k (omega (arith, q, two_bytes g.id a.narrow)) (clauses_in t) ok) in
        marks_clauses (clauses_in t) [] (replicate k 0) a.scope (asked-parts t plain any_binders a.scope a.plain).0 fit

    pub clauses-size : Ready g s → (k : ℕ) → k ≡ 65536 → length (mark_clauses (clauses_at 127 n rs (i + 1)) [] (replicate k 0)) ≡ k
    clauses-size ready k q = ap (λ (z : Clauses). length (mark_clauses z [] (replicate k 0))) clauses-same ∙ (clauses_marks ready k q).size ∙ length-replicate {A = ℕ} k 0

    pub clauses-marked : Ready g s → (k : ℕ) → k ≡ 65536 → marked_from 0 (mark_clauses (clauses_at 127 n rs (i + 1)) [] (replicate k 0)) ≡ ascending (free_vars_clauses (clauses_in t))
    clauses-marked ready k q =
        ap (λ (z : Clauses). marked_from 0 (mark_clauses z [] (replicate k 0))) clauses-same
        ∙ marked-ascending k (free_vars_clauses (clauses_in t)) (mark_clauses (clauses_in t) [] (replicate k 0)) (clauses_marks ready k q)

  module _ (h : HasNext t) (j : ℕ) (e : j ≡ i + 1 + length (flatten_clauses (clauses_in t))) where
    next_here : StmtStands 127 rs j h.next
    next_here =
        let b = subst (λ (z : List Stmt). BodiesStand 127 (bodies (kind_of (record_of t))) rs (i + 1 + length (flatten_clauses (clauses_in t))) z) h.bodies (stmt-parts a.stands).bodies in
        subst (λ (z : ℕ). StmtStands 127 rs z h.next) (sym e) (body-parts h.next [] b).first

    next-same : stmt_at 127 rs j ≡ h.next
    next-same = stmt_is next_here

    next-asked : (q : List VarId → Stmt → Bool) → asked t q any_binders a.scope ≡ true → asked h.next q any_binders (binders (record_of t) ++ a.scope) ≡ true
    next-asked q k = (subst (All (λ (z : Stmt). asked z q any_binders (binders (record_of t) ++ a.scope) ≡ true)) h.bodies (asked-parts t q any_binders a.scope k).1).0

    pub next-stands : StmtStands 127 rs j (stmt_at 127 rs j) × RoomFor [] (stmt_at 127 rs j)
    next-stands = subst (λ (z : Stmt). StmtStands 127 rs j z × RoomFor [] z) (sym next-same)
        (next_here, record { scope = binders (record_of t) ++ a.scope; longer = omega arith; room = next-asked in_room a.room })

    pub next-marked : Ready g s → (k : ℕ) → k ≡ 65536 → marked_from 0 (mark_stmt (stmt_at 127 rs j) [] (replicate k 0)) ≡ ascending (free_vars h.next)
    next-marked ready k q =
        let fit : FitRow (all_uses h.next) (length {A = ℕ} (replicate k 0)) =
        subst (FitRow (all_uses h.next)) (sym (length-replicate {A = ℕ} k 0)) (stmt-ids-fit g.id k (omega (arith, q, two_bytes g.id a.narrow)) h.next (begins-ok (flatten h.next) ready next_here.begins)) in
        ap (λ (z : Stmt). marked_from 0 (mark_stmt z [] (replicate k 0))) next-same
        ∙ marked-ascending k (free_vars h.next) (mark_stmt h.next [] (replicate k 0)) (marks_stmt h.next [] (replicate k 0) (binders (record_of t) ++ a.scope) (next-asked plain a.plain) fit)

-- ── the sets, written ──

-- the row after the walk, which began with nothing bound and a clean row
pub row-after : (mark : List VarId → List ℕ → List ℕ) {B : List VarId} {first last clean : List ℕ} → last ≡ mark B first → B ≡ [] → first ≡ clean → last ≡ mark [] clean
row-after mark {first = first} e b f = e ∙ (ap (λ (z : List VarId). mark z first) b ∙ ap (mark []) f)

ids_short : (w : ℕ) → w ≤ 8 → (xs : List VarId) → length (each (λ (x : VarId). field w x.0) xs) ≤ 8 * length xs
ids_short w h [] = omega arith
ids_short w h (x ∷ xs) = omega (arith, length-append (field w x.0) (each (λ (y : VarId). field w y.0) xs), field-length w x.0, ids_short w h xs)

-- what a row of k marks says takes few bytes
pub set-short : (w : ℕ) (row : List ℕ) (k : ℕ) → w ≤ 8 → length row ≡ k → length (set_bytes w (marked_from 0 row)) ≤ 2 + 8 * k
set-short w row k h e =
    let xs = marked_from 0 row in
    let few : length xs ≤ length row = omega (arith, marked-counted 0 row, count_by-le-length (λ b. not (eqb b 0)) row) in
    omega (arith, few, length-append (field 2 (length xs)) (each (λ (x : VarId). field w x.0) xs), field-length 2 (length xs), ids_short w h xs)

pub wrote_one : {u v : Writer} (L : List (List VarId)) (xs ys : List VarId) → Wrote u v (set_bytes u.id xs) → xs ≡ ys → L ≡ ys ∷ [] → Wrote u v (each (set_bytes u.id) L)
wrote_one {u} L xs ys p e q = wrote_as (ap (set_bytes u.id) e ∙ sym (append-nil (set_bytes u.id ys)) ∙ ap (each (set_bytes u.id)) (sym q)) p

pub wrote_two : {u v w : Writer} (L : List (List VarId)) (xs ys us vs : List VarId) → Wrote u v (set_bytes u.id xs) → Wrote v w (set_bytes v.id us)
    → xs ≡ ys → us ≡ vs → L ≡ ys ∷ vs ∷ [] → Wrote u w (each (set_bytes u.id) L)
wrote_two {u} L xs ys us vs p r e f q =
    wrote_as
    (ap (λ (z : List VarId). set_bytes u.id z ++ set_bytes u.id us) e ∙ ap (λ (z : List VarId). set_bytes u.id ys ++ set_bytes u.id z) f
    ∙ ap (λ (z : List ℕ). set_bytes u.id ys ++ z) (sym (append-nil (set_bytes u.id vs))) ∙ ap (each (set_bytes u.id)) (sym q))
    (wrote_next (λ (k : ℕ). set_bytes k us) p r)

-- ── the questions ──

first-has : (rs : List Record) (i : ℕ) → i < length rs → first_has (drop i rs) ≡ has_annotation_lem (head_of (drop i rs))
first-has [] i h = absurd (omega arith)
first-has (r ∷ rs) zero h = refl
first-has (r ∷ rs) (suc i) h = first-has rs i (omega arith)

module _ {g : Frame} {s : List ℕ} {d m : ℕ} (l : Limited g s d m) (i : ℕ) where
  abbrev P : Prog
  P = program_in d (records_in g s) m

  records : flatten_defs P.defs ≡ records_in g s
  records = sym l.defined.is

  pub place-yes : Ready g s → i < g.count → question13 P i ≡ has_annotation_lem (record_at g s i)
  place-yes ready h = ap (λ (z : List Record). first_has (drop i z)) records ∙ first-has (records_in g s) i (omega (arith, records-length g s ready))

  pub place-no : Ready g s → g.count ≤ i → question13 P i ≡ false
  place-no ready h = ap (λ (z : List Record). first_has (drop i z)) records ∙ ap first_has (drop_of_length-le (records_in g s) {i = i} (omega (arith, records-length g s ready)))

  pub bytes-are : annotation_bytes g.id P i ≡ each (set_bytes g.id) (annotations (stmt_at max_depth (records_in g s) i))
  unfolding annotation_bytes
  bytes-are = ap (λ (z : List Record). each (set_bytes g.id) (annotations (stmt_at max_depth z i))) records

  limits-apart : (all_records_lem small_record_lem (flatten_defs P.defs) ≡ true) × (asked_defs P.defs in_room any_binders ≡ true)
  limits-apart =
      let c = (both_true (leb (depth_defs P.defs) 64) _ (both_true (leb (records_defs P.defs) 2000) _ l.seven).1).1 in
      both_true (all_records_lem small_record_lem (flatten_defs P.defs)) _ (sym (question7-flat P) ∙ c)

  pub limited_annotated : Ready g s → i < g.count → has_annotation_lem (record_at g s i) ≡ true → Annotated g s i
  limited_annotated ready h k =
      let x : Inside max_depth (records_in g s) i (λ q b. asked_defs P.defs q b ≡ true) =
      subst (λ (z : List Record). Inside max_depth z i (λ q b. asked_defs P.defs q b ≡ true)) records (inside P i l.seven (place-yes ready h ∙ k)) in
      let e : x.stmt ≡ stmt_at max_depth (records_in g s) i = sym (stmt_is x.stands) in
      record {
        source = record { small = ap (all_records_lem small_record_lem) (sym records) ∙ limits-apart.0 };
        narrow = l.narrow;
        stands = subst (StmtStands max_depth (records_in g s) i) e x.stands;
        has = k;
        scope = x.scope;
        room = subst (λ (z : Stmt). asked z in_room any_binders x.scope ≡ true) e (x.keeps in_room any_binders limits-apart.1);
        plain = subst (λ (z : Stmt). asked z plain any_binders x.scope ≡ true) e (x.keeps plain any_binders l.six);
      }

  -- the reply where the sets were written and question 12 was asked
  pub settled : {before mid after : List ℕ} {r : Answer} {written : ℕ} → question13 P i ≡ true
      → Puts before mid 0 written (each (set_bytes g.id) (annotations (stmt_at max_depth (records_in g s) i))) → Settled r mid after written m
      → Replies (placing g.id P i (length before)) r before after
  unfolding placing
  settled {before} {mid} {after} {r} {written} y p q =
      rw (y, bytes-are) (go (leb (length B) (length before)) refl)
    where
      B : List ℕ
      B = each (set_bytes g.id) (annotations (stmt_at max_depth (records_in g s) i))

      count : written ≡ length B
      count = omega (arith, p.ends)

      size : length mid ≡ length before
      size = ap length p.holds ∙ length-sets before 0 B

      test : leb written (length mid) ≡ leb (length B) (length before)
      test = rw (count, size)

      go : (b : Bool) → leb (length B) (length before) ≡ b → Replies (reply_if_yes b Room (writes B m)) r before after
      go true e = record { answers = q.answer ∙ rw (test ∙ e, count); leaves = q.buffer ∙ rw (test ∙ e) p.holds }
      go false e = record { answers = q.answer ∙ rw (test ∙ e); leaves = q.buffer ∙ rw (test ∙ e, size) }

  -- .. and where question 13 says no
  pub misplaced : {before : List ℕ} → question13 P i ≡ false → Replies (placing g.id P i (length before)) (Err Place) before before
  unfolding placing
  misplaced n = rw n record { answers = refl; leaves = refl }

-- questions 6 and 7
module _ (w : ℕ) (P : Prog) (i : ℕ) {before after : List ℕ} {r : Answer} where
  pub annotated : question6 P ≡ true → question7 P ≡ true → Replies (placing w P i (length before)) r before after → Replies (annotating w P i (length before)) r before after
  unfolding annotating
  annotated a b p = rw (a, b) p

pub not_limited : (w : ℕ) (P : Prog) (i : ℕ) (before : List ℕ) → question6 P ≡ true → question7 P ≡ false → Replies (annotating w P i (length before)) (Err Limits) before before
unfolding annotating
not_limited w P i before a b = rw (a, b) record { answers = refl; leaves = refl }

pub not_source : (w : ℕ) (P : Prog) (i : ℕ) (before : List ℕ) → question6 P ≡ false → Replies (annotating w P i (length before)) (Err Linearized) before before
unfolding annotating
not_source w P i before a = rw a record { answers = refl; leaves = refl }

-- questions 1 to 5
pub opened_reply : {L : Layout} {s : List ℕ} {g : Frame} {D m : ℕ} (o : IsOpened L s g D m) (i : ℕ) {before after : List ℕ} {r : Answer}
    → Replies (annotating g.id (program_in D (records_in g s) m) i (length before)) r before after → Replies (annotate_of L s i (length before)) r before after
unfolding annotate_of
opened_reply {L} {s} {g} {D} {m} o i {before} {after} {r} p =
    opened-replies o (λ (P : Prog). annotating L.id P i (length before))
    (subst (λ (w : ℕ). Replies (annotating w (program_in D (records_in g s) m) i (length before)) r before after) (ap (λ (f : Frame). f.id) o.frame) p)

pub closed_reply : (L : Layout) (s : List ℕ) (i : ℕ) (before : List ℕ) {q : Refusal} → opened_of L s ≡ Err q → Replies (annotate_of L s i (length before)) (Err q) before before
unfolding annotate_of
closed_reply L s i before e = closed-replies L s (λ (P : Prog). annotating L.id P i (length before)) before e
