-- Linearization of a whole image: what a checked image gives the walk over its definitions (`defs-ahead`) and the end (`finishable`), and that
-- the answer is that of questions 11 and 12 (`closed`), of 6 to 12 (`checked_yes`, `replied`, `checked_no`). Assumes nothing.
use Prim.Native.Nat.{ℕ, ◌+◌, ◌*◌, ◌≤◌}
use mathlib.Core.Path.{◌≡◌, refl, sym, ap, ◌∙◌, subst}
use mathlib.Core.Bool.{Bool, true, false}
use mathlib.Core.List.{List, [], ◌∷◌}
use native.Mathlib.Omega.{arith}
use lib.Dec.{leb}
use lib.ListN.{length, drop, length-append}
use lib.Seq.{sets, sets-eq}
use Rattle.syntax.specs.Context.{ids}
use Rattle.syntax.proofs.Bools.{both_true}
use Rattle.model.specs.Syntax.{Def, Prog}
use Rattle.model.specs.Sizes.{records_defs}
use Rattle.model.specs.Pass.{linearize_defs, linearize}
use Rattle.model.specs.Questions.{question6, question7, question8, question9, question10}
use borrow.Author.Tests.{leb-true}
use Rattle.image_spec.specs.declared.Layout.{Layout}
use Rattle.std.specs.Prelude.{Ok, Err}
use Rattle.image_spec.specs.declared.Accepted.{Accepted}
use Rattle.image_spec.specs.Answers.{Answer}
use Rattle.image_spec.specs.declared.Refusal.{Refusal}
use Rattle.image_spec.specs.declared.Refusal.TheVariants.{Linearized, Limits, Binders, Scope, MaxId}
use Rattle.image_spec.specs.Layout.{body_at}
use Rattle.image_spec.specs.Parse.{each}
use Rattle.image_spec.specs.Records.{record_bytes}
use Rattle.image_spec.specs.Shape.{flatten, flatten_defs}
use Rattle.image_spec.specs.Reading.{accept, if_yes, answer_of}
use Rattle.image_spec.proofs.FlatLengths.{flatten_defs-length}
use Rattle.image_directory.specs.Slots.{Ready, records_in}
use Rattle.image_directory.specs.declared.Frame.{Frame}
use Rattle.image_directory.proofs.Places.{records-length}
use Rattle.image_write_directory.specs.Emitting.{Emits, Progress}
use Rattle.image_open.specs.Opening.{Known}
use Rattle.image_open.proofs.OpenedLaws.{IsOpened}
use Rattle.image_places_spec.specs.Places.{Begins}
use Rattle.scope_spec.specs.FreeRows.{row_under, rows_stmt, rows_defs}
use Rattle.scope_spec.specs.Calls.{Reply, reply_if_yes, checking, Replies}
use Rattle.scope_spec.proofs.FreeViews.{rows-length}
use Rattle.scope_spec.proofs.IdsFit.{two_bytes}
use Rattle.scope_check.specs.Definitions.{defs_in}
use Rattle.scope_check.specs.Deciding.{program_in}
use Rattle.scope_check.proofs.CheckLaws.{opened-defined}
use Rattle.scope_walk.specs.Masks.{Passed}
use Rattle.scope_check.proofs.DefWalks.{passed-plain, passed-small, passed-stand}
use Rattle.pass_work_spec.specs.Work.{work_defs}
use Rattle.pass_work_spec.proofs.Rooms.{works-fit}
use Rattle.pass_work_spec.proofs.Bounds.{work_near}
use Rattle.pass_work_spec.proofs.SamePass.{work_defs_lem}
use Rattle.pass_step_spec.proofs.SizeBounds.{defs-bytes, defs-fewer, defs-more, defs-same-count}
use Rattle.pass_walk.specs.Walking.{Writes, Sources}
use Rattle.pass_definitions.specs.Defining.{DefsAhead}
use Rattle.image_write_directory.proofs.EmitLaws.{emits-count}
use Rattle.pass_walk.proofs.RoomLaws.{emits-at}
use Rattle.pass_answer_spec.specs.Calls.{linearizing}
use Rattle.pass_finish.specs.Finishing.{closing, Finishable, Finishes}
use Rattle.pass_finish.proofs.FinishLaws.{closing_is, body-small, emits-finishable}
use Rattle.pass_program.specs.Programs.{Read, Checked}

-- ── lengths ──

rows-defs-length : (ds : List Def) → length (rows_defs ds) ≡ 2 * length (flatten_defs ds)
unfolding rows_defs row_under flatten_defs
rows-defs-length [] = refl
rows-defs-length (d ∷ ds) = omega (
  arith,
  rows-length d.body (ids d.context),
  rows-defs-length ds,
  length-append (rows_stmt d.body (ids d.context)) (rows_defs ds),
  length-append (flatten d.body) (flatten_defs ds),
)

-- each definition has a record
defs-few : (ds : List Def) → length ds ≤ length (flatten_defs ds)
unfolding flatten_defs
defs-few [] = omega arith
defs-few (d ∷ ds) = omega (arith, defs-few ds, length-append (flatten d.body) (flatten_defs ds))

-- what is stored from the beginning on
stored : (l xs : List ℕ) → length xs ≤ length l → Begins (sets l 0 xs) 0 xs
stored l xs h = record { rest = drop (0 + length xs) l; split = sets-eq xs l 0 (omega (arith, h)) }

-- ── a checked image ──

module _ {L : Layout} {g : Frame} {s : List ℕ} {d m : ℕ} (ready : Ready g s) (c : Checked L g s d m) where
  abbrev P : Prog
  P = program_in d (records_in g s) m

  abbrev R : List Def × ℕ
  R = work_defs P.defs m

  pub passed : Passed (program_in d (records_in g s) 0)
  passed = record { six = c.six; seven = c.seven; eight = c.eight }

  count : length (flatten_defs P.defs) ≡ g.count
  count = ap length (sym c.read.defined.is) ∙ records-length g s ready

  pub few : g.count ≤ 2000
  few = omega (arith, leb-true (records_defs P.defs) 2000 (both_true (leb (records_defs P.defs) 2000) _ c.seven).0, flatten_defs-length P.defs, count)

  sources : Sources g s
  sources = record {
    small = passed-small c.read.defined passed;
    plain = passed-plain c.read.defined passed;
  }

  bytes : length (each (record_bytes g.id) (flatten_defs R.0)) ≤ 8192 * 2000
  bytes = omega (arith, defs-bytes g.id (omega (arith, ready.id.1)) P c.six c.seven, count, few)

  records : length (flatten_defs R.0) ≤ 2 * g.count
  records = omega (arith, defs-fewer P c.six, count)

  start_small : g.start ≤ 524292
  start_small = omega (arith, c.read.start, body-small L g.count c.read.known (omega (arith, few)))

  abbrev begin : Progress
  begin = record { at = g.start; count = 0; max_id = m }

  -- the rows that the check stored
  pub rows-begin : (rows : List ℕ) {rows' : List ℕ} → 2 * g.count ≤ length rows → rows' ≡ sets rows 0 (rows_defs (defs_in d (records_in g s))) → Begins rows' 0 (rows_defs (defs_in d (records_in g s)))
  rows-begin rows k e = subst (λ (z : List ℕ). Begins z 0 (rows_defs P.defs)) (sym e) (stored rows (rows_defs P.defs) (omega (arith, rows-defs-length P.defs, count, k)))

  pub defs-ahead : {rows : List ℕ} → Begins rows 0 (rows_defs (defs_in d (records_in g s))) → DefsAhead g s rows g.id d 0 begin (defs_in d (records_in g s))
  defs-ahead b = record {
    sources = sources;
    stand = passed-stand c.read.defined passed;
    rows_are = b;
    fits = works-fit P c.seven;
    room = record {
      at = omega (arith, bytes, start_small);
      count = omega (arith, records, few);
      max_id = omega (arith, work_near P c.seven, c.read.narrow);
    };
  }

  module _ {out out' lengths lengths' : List ℕ} {q : Progress} (w : Writes g.id out out' lengths lengths' begin q (flatten_defs R.0) R.1) where
    -- in the layout's terms
    emits : Emits L.id out out' lengths lengths' (record { at = body_at L g.count; count = 0; max_id = m }) q (flatten_defs R.0)
    emits = subst (λ (z : ℕ). Emits z out out' lengths lengths' (record { at = body_at L g.count; count = 0; max_id = m }) q (flatten_defs R.0)) c.read.id
        (subst (λ (z : ℕ). Emits g.id out out' lengths lengths' (record { at = z; count = 0; max_id = m }) q (flatten_defs R.0)) c.read.start w.emits)

    pub finishable : 2 * g.count ≤ length lengths' → Finishable L lengths' d g.start q
    finishable k =
        let n = emits-count w.emits in
        subst (λ (z : ℕ). Finishable L lengths' d z q) (sym c.read.start)
        (emits-finishable L g.count c.read.known (omega (arith, defs-few P.defs, c.read.defined.count, count, few)) (omega (arith, n, defs-more P c.six, count))
        (omega (arith, n, records, few)) (omega (arith, n, records, k)) (omega (arith, emits-at w.emits, bytes, start_small)) emits)

    -- what the pass over contexts at work gives is the linearized program
    same : R ≡ linearize_defs P.defs m
    same = work_defs_lem P c.six c.eight c.nine c.ten

    pub closed : {out'' : List ℕ} {r : Answer} → Finishes L d g.start q lengths' out' out'' r → Replies (closing L (linearize P) (length out)) r out out''
    unfolding linearize
    closed f = f.replies (linearize P) out lengths m
        (ap (λ (z : List Def × ℕ). length z.0) (sym same) ∙ (defs-same-count P.defs m ∙ c.read.defined.count))
        (ap (λ (z : List Def × ℕ). z.1) (sym same) ∙ sym w.max_id)
        (subst (λ (z : List Def × ℕ). Emits L.id out out' lengths lengths' begin q (flatten_defs z.0)) same
        (subst (λ (z : ℕ). Emits z out out' lengths lengths' begin q (flatten_defs R.0)) c.read.id w.emits))

-- ── questions 6 to 10 ──

module _ {L : Layout} {g : Frame} {s : List ℕ} {d m : ℕ} (r : Read L g s d m) where
  abbrev program : Prog
  program = program_in d (records_in g s) m

  all_yes : {told : Accepted} (a b c u v : Bool) → question6 program ≡ a → question7 program ≡ b → question8 program ≡ c → question9 program ≡ u → question10 program ≡ v
      → answer_of (if_yes a Linearized (if_yes b Limits (if_yes c Binders (if_yes u Scope (if_yes v MaxId (accept program)))))) ≡ Ok told → Checked L g s d m
  all_yes true true true true true six seven eight nine ten e = record { read = r; six = six; seven = seven; eight = eight; nine = nine; ten = ten }
  all_yes false b c u v six seven eight nine ten e = let z : ◌≡◌ {A = ℕ} 0 1 = cc (e) in absurd (omega arith)
  all_yes true false c u v six seven eight nine ten e = let z : ◌≡◌ {A = ℕ} 0 1 = cc (e) in absurd (omega arith)
  all_yes true true false u v six seven eight nine ten e = let z : ◌≡◌ {A = ℕ} 0 1 = cc (e) in absurd (omega arith)
  all_yes true true true false v six seven eight nine ten e = let z : ◌≡◌ {A = ℕ} 0 1 = cc (e) in absurd (omega arith)
  all_yes true true true true false six seven eight nine ten e = let z : ◌≡◌ {A = ℕ} 0 1 = cc (e) in absurd (omega arith)

  pub checked_yes : {told : Accepted} → answer_of (checking program) ≡ Ok told → Checked L g s d m
  unfolding checking
  checked_yes e = all_yes (question6 program) (question7 program) (question8 program) (question9 program) (question10 program) refl refl refl refl refl e

pub replied : {L : Layout} {g : Frame} {s : List ℕ} {d m : ℕ} → Checked L g s d m → (size : ℕ) {before after : List ℕ} {r : Answer}
    → Replies (closing L (linearize (program_in d (records_in g s) m)) size) r before after → Replies (linearizing L (program_in d (records_in g s) m) size) r before after
replied {L} {g} {s} {d} {m} c size x = rw (closing_is L (program_in d (records_in g s) m) size, c.six, c.seven, c.eight, c.nine, c.ten) x

pub checked_no : (L : Layout) (P : Prog) (size : ℕ) (before : List ℕ) {q : Refusal} → answer_of (checking P) ≡ Err q → Replies (linearizing L P size) (Err q) before before
unfolding checking linearizing
checked_no L P size before {q} e = go (question6 P) (question7 P) (question8 P) (question9 P) (question10 P) _ e
  where
    go : (a b c u v : Bool) (k : Reply) → answer_of (if_yes a Linearized (if_yes b Limits (if_yes c Binders (if_yes u Scope (if_yes v MaxId (accept P)))))) ≡ Err q
        → Replies (reply_if_yes a Linearized (reply_if_yes b Limits (reply_if_yes c Binders (reply_if_yes u Scope (reply_if_yes v MaxId k))))) (Err q) before before
    go true true true true true k e = let z : ◌≡◌ {A = ℕ} 0 1 = cc (e) in absurd (omega arith)
    go false b c u v k e = let z : q ≡ Linearized = cc (e) in rw z record { answers = refl; leaves = refl }
    go true false c u v k e = let z : q ≡ Limits = cc (e) in rw z record { answers = refl; leaves = refl }
    go true true false u v k e = let z : q ≡ Binders = cc (e) in rw z record { answers = refl; leaves = refl }
    go true true true false v k e = let z : q ≡ Scope = cc (e) in rw z record { answers = refl; leaves = refl }
    go true true true true false k e = let z : q ≡ MaxId = cc (e) in rw z record { answers = refl; leaves = refl }

-- ── questions 1 to 5 ──

pub opened-read : {L : Layout} {g : Frame} {s : List ℕ} {d m : ℕ} → Known L → L.id ≤ 2 → IsOpened L s g d m → Read L g s d m
opened-read {L} k h o = record {
  known = k;
  id = ap (λ (f : Frame). f.id) o.frame;
  start = ap (λ (f : Frame). f.start) o.frame ∙ sym (ap (λ (f : Frame). body_at L f.count) o.frame);
  defined = opened-defined o;
  narrow = omega (arith, o.max_id, two_bytes L.id h, o.ok.max_id_fits);
}
