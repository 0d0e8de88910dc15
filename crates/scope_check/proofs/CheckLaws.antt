-- The questions 6 to 10 of a program, from what the code asks of its records. Assumes nothing.
use Prim.Native.Nat.{ℕ, ◌≤◌}
use mathlib.Core.Path.{◌≡◌, refl, sym, ap, ◌∙◌, subst}
use mathlib.Core.Bool.{Bool, true, false, ◌&&◌, cond, false≢true}
use mathlib.Core.Option.{Option, none, some}
use mathlib.Core.List.{List, [], append-nil}
use native.Mathlib.Omega.{arith}
use borrow.Author.Tests.{leb-true}
use lib.Dec.{leb}
use lib.ListN.{length}
use Rattle.model.specs.Syntax.{Def, Prog}
use Rattle.model.specs.Sizes.{depth, depth_defs}
use Rattle.model.specs.Questions.{asked_defs, any_binders, question7, question8, question9, question10}
use Rattle.image_spec.specs.Parse.{All}
use Rattle.image_spec.specs.Records.{Record}
use Rattle.image_spec.specs.declared.Layout.{Layout}
use Rattle.image_spec.specs.declared.Refusal.{Refusal}
use Rattle.image_spec.specs.declared.Refusal.TheVariants.{Linearized, Limits, Binders, Scope, MaxId}
use Rattle.std.specs.Prelude.{Ok, Err}
use Rattle.image_spec.specs.Image.{if_some, is_some}
use Rattle.image_spec.specs.Shape.{flatten_defs, DefOk, definitions}
use Rattle.image_spec.specs.Reading.{Reading, refuse, accept, if_yes, reading, answer_of}
use Rattle.image_spec.proofs.ShapeLaws.{parse_flatten, flatten_parse, shallow-all}
use Rattle.image_spec.proofs.FlatLengths.{flatten_defs-length}
use Rattle.image_spec.proofs.DirectoryLaws.{and_right}
use Rattle.image_directory.specs.Slots.{records_in}
use Rattle.image_directory.specs.declared.Frame.{Frame}
use Rattle.image_open.specs.Opening.{Shaped, opened_by, opened_of}
use Rattle.image_open.proofs.OpenedLaws.{IsOpened}
use Rattle.scope_spec.specs.declared.Verdict.{Verdict}
use Rattle.scope_spec.specs.Flat.{all_records_lem, plain_record_lem, small_record_lem}
use Rattle.scope_spec.specs.Calls.{after_reading, checking, check_of}
use Rattle.scope_spec.specs.Walk.{clean, walk_defs}
use Rattle.scope_spec.specs.Rooms.{in_room}
use Rattle.scope_spec.proofs.WalkLaws.{Answered, walk_answers}
use Rattle.scope_spec.proofs.FlatLaws.{question6-flat, question7-flat}
use Rattle.scope_check.specs.Definitions.{defs_in, DefsStand, Defined}
use Rattle.scope_check.specs.Deciding.{decided, program_in}

-- ── the answers ──

module _ (P : Prog) where
  -- question 7, but for the room
  pub in_limits : Bool
  in_limits = leb (length (flatten_defs P.defs)) 2000 && (all_records_lem small_record_lem (flatten_defs P.defs) && leb (depth_defs P.defs) 64)

  question7_is : question7 P ≡ in_limits && asked_defs P.defs in_room any_binders
  unfolding in_limits
  question7_is =
      rw (question7-flat P, ← flatten_defs-length P.defs)
      (shuffle (leb (length (flatten_defs P.defs)) 2000) (leb (depth_defs P.defs) 64) (all_records_lem small_record_lem (flatten_defs P.defs)) (asked_defs P.defs in_room any_binders))
    where
      shuffle : (a b c d : Bool) → a && (b && (c && d)) ≡ (a && (c && b)) && d
      shuffle false b c d = refl
      shuffle true false false d = refl
      shuffle true false true d = refl
      shuffle true true false d = refl
      shuffle true true true d = refl

  pub not_plain : all_records_lem plain_record_lem (flatten_defs P.defs) ≡ false → answer_of (checking P) ≡ Err Linearized
  unfolding checking
  not_plain e = rw (question6-flat P, e) refl

  pub not_within : all_records_lem plain_record_lem (flatten_defs P.defs) ≡ true → in_limits ≡ false → answer_of (checking P) ≡ Err Limits
  unfolding checking
  not_within e h = rw (question6-flat P, e, question7_is, h) refl

  pub walk_decides : all_records_lem plain_record_lem (flatten_defs P.defs) ≡ true → in_limits ≡ true → answer_of (checking P) ≡ decided (walk_defs P.defs P.max_id clean) P.max_id
  unfolding checking
  walk_decides e h = rw (question6-flat P, e, question7_is, h) (go (walk_defs P.defs P.max_id clean) (walk_answers P.defs P.max_id))
    where
      rest : Reading
      rest = if_yes (question8 P) Binders (if_yes (question9 P) Scope (if_yes (question10 P) MaxId (accept P)))

      last : (i : Bool) → answer_of (if_yes i MaxId (accept P)) ≡ cond i (Ok (record { length = 0; max_id = P.max_id })) (Err MaxId)
      last true = refl
      last false = refl

      both : (u i : Bool) → answer_of (if_yes u Scope (if_yes i MaxId (accept P))) ≡ cond u (cond i (Ok (record { length = 0; max_id = P.max_id })) (Err MaxId)) (Err Scope)
      both true i = last i
      both false i = refl

      three : (b u i : Bool) → answer_of (if_yes b Binders (if_yes u Scope (if_yes i MaxId (accept P))))
          ≡ cond b (cond u (cond i (Ok (record { length = 0; max_id = P.max_id })) (Err MaxId)) (Err Scope)) (Err Binders)
      three true u i = both u i
      three false u i = refl

      go : (v : Verdict) → Answered P.defs P.max_id v → answer_of (if_yes (asked_defs P.defs in_room any_binders) Limits rest) ≡ decided v P.max_id
      go v a = room v.room refl
        where
          room : (r : Bool) → v.room ≡ r → answer_of (if_yes (asked_defs P.defs in_room any_binders) Limits rest) ≡ decided v P.max_id
          room true q = rw (← a.room, ← a.binders q, ← a.uses q, ← a.ids q, q) (three v.binders v.uses v.ids)
          room false q = rw (← a.room, q) refl

-- ── the program of an opened image ──

-- what passed question 5 is its definitions
pub shaped-defined : {d : ℕ} {rs : List Record} → Shaped d rs → Defined d rs
unfolding defs_in
shaped-defined {d} {rs} h = go (definitions d rs) refl h
  where
    go : (o : Option (List Def)) → definitions d rs ≡ o → is_some o ≡ true → Defined d rs
    go none q t = absurd (false≢true t)
    go (some ds) q t =
        let p = flatten_parse d rs ds q in
        let b : defs_in d rs ≡ ds = ap (λ x. if_some x [] (λ y. y)) q in
        record {
          is = p.1 ∙ ap flatten_defs (sym b);
          shallow = subst (All DefOk) (sym b) p.0.1;
          count = ap length b ∙ p.0.0;
        }

pub stands-flat : {d n : ℕ} {rs : List Record} {ds : List Def} → rs ≡ flatten_defs ds → All (λ (e : Def). depth e.body ≤ d) ds → length ds ≡ n → DefsStand d n rs 0 ds
stands-flat {ds = ds} e h c = record { begins = record { rest = []; split = e ∙ sym (append-nil (flatten_defs ds)) }; shallow = h; count = c }

pub restand : {b n : ℕ} {rs : List Record} {i : ℕ} {ds : List Def} → DefsStand b n rs i ds → leb (depth_defs ds) 64 ≡ true → DefsStand 64 n rs i ds
restand {ds = ds} s e = record { begins = s.begins; shallow = shallow-all 64 ds (leb-true (depth_defs ds) 64 e); count = s.count }

-- the same of the records that the code reads
module _ {d : ℕ} {rs : List Record} (h : Defined d rs) where
  pub defined-stand : DefsStand 128 d rs 0 (defs_in d rs)
  defined-stand = stands-flat h.is h.shallow h.count

  module _ (m : ℕ) where
    abbrev P : Prog
    P = program_in d rs m

    plain-records : (t : Bool) → all_records_lem plain_record_lem rs ≡ t → all_records_lem plain_record_lem (flatten_defs (defs_in d rs)) ≡ t
    plain-records t e = ap (all_records_lem plain_record_lem) (sym h.is) ∙ e

    limits : (n : ℕ) → length rs ≡ n → in_limits P ≡ (leb n 2000 && (all_records_lem small_record_lem rs && leb (depth_defs (defs_in d rs)) 64))
    unfolding in_limits
    limits n e =
        ap (λ (l : List Record). leb (length l) 2000 && (all_records_lem small_record_lem l && leb (depth_defs (defs_in d rs)) 64)) (sym h.is)
        ∙ ap (λ (k : ℕ). leb k 2000 && (all_records_lem small_record_lem rs && leb (depth_defs (defs_in d rs)) 64)) e

    -- question 7, from what the code asks and the walk's room
    pub answer-room : (n : ℕ) → length rs ≡ n
        → question7 P ≡ ((leb n 2000 && (all_records_lem small_record_lem rs && leb (depth_defs (defs_in d rs)) 64)) && (walk_defs (defs_in d rs) m clean).room)
    answer-room n e = question7_is P ∙ rw (limits n e, ← (walk_answers (defs_in d rs) m).room) refl

    pub answer_6 : all_records_lem plain_record_lem rs ≡ false → answer_of (checking P) ≡ Err Linearized
    answer_6 e = not_plain P (plain-records false e)

    pub answer_7 : (n : ℕ) → length rs ≡ n → all_records_lem plain_record_lem rs ≡ true
        → (leb n 2000 && (all_records_lem small_record_lem rs && leb (depth_defs (defs_in d rs)) 64)) ≡ false → answer_of (checking P) ≡ Err Limits
    answer_7 n k e f = not_within P (plain-records true e) (limits n k ∙ f)

    pub answer_walk : (n : ℕ) → length rs ≡ n → all_records_lem plain_record_lem rs ≡ true → (leb n 2000 && (all_records_lem small_record_lem rs && leb (depth_defs (defs_in d rs)) 64)) ≡ true
        → answer_of (checking P) ≡ decided (walk_defs (defs_in d rs) m clean) m
    answer_walk n k e f = walk_decides P (plain-records true e) (limits n k ∙ f)

  -- shallow enough for the walk
  pub walk_stand : (n : ℕ) → (leb n 2000 && (all_records_lem small_record_lem rs && leb (depth_defs (defs_in d rs)) 64)) ≡ true → DefsStand 64 d rs 0 (defs_in d rs)
  walk_stand n e = restand defined-stand (and_right (all_records_lem small_record_lem rs) _ (and_right (leb n 2000) _ e))

-- what an image's records are
module _ {L : Layout} {s : List ℕ} {g : Frame} {D m : ℕ} (o : IsOpened L s g D m) where
  pub opened-defs : defs_in D (records_in g s) ≡ o.program.defs
  unfolding defs_in
  opened-defs = rw (o.records, o.count, parse_flatten o.program.defs o.ok.shallow) refl

  pub opened-defined : Defined D (records_in g s)
  opened-defined = record {
    is = o.records ∙ ap flatten_defs (sym opened-defs);
    shallow = subst (All DefOk) (sym opened-defs) o.ok.shallow;
    count = ap length opened-defs ∙ sym o.count;
  }

  pub opened-answer : answer_of (checking (program_in D (records_in g s) m)) ≡ answer_of (check_of L s)
  unfolding check_of
  opened-answer =
      rw o.reads
      (ap (λ (P : Prog). answer_of (checking P)) (λ j. record { defs = opened-defs j; max_id = o.max_id j }))

pub closed-answer : (L : Layout) (s : List ℕ) {q : Refusal} → opened_of L s ≡ Err q → answer_of (check_of L s) ≡ Err q
unfolding opened_of check_of
closed-answer L s {q} e = go (reading L s) e
  where
    go : (r : Reading) → opened_by L s r ≡ Err q → answer_of (after_reading r checking) ≡ Err q
    go (refuse p) e = cc (e)
    go (accept p) e = let z : ◌≡◌ {A = ℕ} 0 1 = cc (e) in absurd (omega arith)
