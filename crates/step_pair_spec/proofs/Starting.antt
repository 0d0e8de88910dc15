-- `linear-starts`: a start that the source stepper answers with 0, the linear one on what linearization wrote answers so too. Assumes nothing.
use Prim.Native.Nat.{ℕ, ◌+◌, ◌*◌, ◌≤◌}
use mathlib.Core.Path.{◌≡◌, refl, ap, ◌∙◌}
use mathlib.Core.Bool.{Bool, true, false, cond}
use mathlib.Core.List.{List, [], map}
use mathlib.Core.Option.{Option, none, some}
use native.Mathlib.Omega.{arith}
use borrow.Author.Tests.{leb-true, le-leb}
use lib.Dec.{leb}
use lib.ListN.{length, take}
use lib.Seq.{sets}
use Rattle.syntax.specs.Sets.{distinct}
use Rattle.syntax.specs.Context.{ids}
use Rattle.model.specs.Syntax.{Stmt, Def, Prog}
use Rattle.model.specs.Pass.{linearize}
use Rattle.model.specs.Machine.{Entries, keys, State, at, nth, pair_up, Given, value}
use Rattle.model.specs.Source.{source_begun, source_start}
use Rattle.model.specs.Linear.{stopped_if_twice, linear_begun, linear_start}
use Rattle.model.specs.Questions.{Accepted}
use Rattle.model.proofs.Bodies.{SameDef, neither, both, same_place}
use Rattle.model.proofs.Questions.{accepted-scoped}
use Rattle.image_spec.specs.Layout.{layout1}
use Rattle.image_spec.specs.Reading.{Reading, accept, reading}
use Rattle.scope_spec.specs.Calls.{after_reading, checking, check_of}
use Rattle.pass_answer_spec.proofs.OnCalls.{answer-reads}
use Rattle.step_spec.specs.Located.{source_machine, linear_machine, Located, entries_of, is_stop, start_state, start_of, located_start}
use Rattle.step_spec.specs.Store.{store_bytes}
use Rattle.step_spec.specs.Events.{givens}
use Rattle.step_spec.specs.Calls.{unchanged, starts_with, start_with, start_at, starting, start_call}
use Rattle.step_spec.proofs.Stored.{store-size}
use Rattle.step_pair_spec.specs.Pairs.{LinearStarts}

-- the questions of the source stepper
pub source-asked : (image : List ℕ) (P : Prog) → reading layout1 image ≡ accept P → Accepted P → check_of layout1 image ≡ accept P
unfolding check_of checking
source-asked image P r a = ap (λ (x : Reading). after_reading x checking) r ∙ rw (a.six, a.seven, a.eight, a.nine, a.ten) refl

impossible : {A : Type 0} (n : ℕ) → n + 1 ≡ 0 → A
impossible n e = absurd (omega arith)

-- ── room ──

-- a state before the first step is as long as its entries make it
start-size : (P : Prog) (n : ℕ) (f : Bool) (s : State) → length (store_bytes (start_state P n f s)) ≡ 64 + 16 * length (entries_of s)
start-size P n f s = omega (arith, store-size (start_state P n f s))

room-said : (l : Located) (store : List ℕ) → (starts_with (some l) store).number ≡ 0 → length (store_bytes l) ≤ length store
room-said l store e = go (leb (length (store_bytes l)) (length store)) refl e
  where
    go : (b : Bool) → leb (length (store_bytes l)) (length store) ≡ b → (cond b (unchanged 0 (sets store 0 (store_bytes l)) []) (unchanged 15 store [])).number ≡ 0
        → length (store_bytes l) ≤ length store
    go true q k = leb-true _ _ q
    go false q k = impossible 14 k

room-enough : (l : Located) (store : List ℕ) → length (store_bytes l) ≤ length store → (starts_with (some l) store).number ≡ 0
room-enough l store h = rw (le-leb (length (store_bytes l)) (length store) h) refl

-- ── both starts ──

module _ (P : Prog) (place : ℕ) (values store store' : List ℕ) (longer : length store ≤ length store') where
  -- with the same entries
  begun_too : (b b' : Stmt) (o : Option Entries) → (starts_with (start_of source_machine P place (source_begun b o)) store).number ≡ 0
      → (starts_with (start_of linear_machine (linearize P) place (linear_begun b' o)) store').number ≡ 0
  begun_too b b' none e = impossible 13 e
  begun_too b b' (some ε) e = go (distinct (keys ε))
    where
      fits : (f : Bool) → (starts_with (some (start_state (linearize P) place f (at b' ε []))) store').number ≡ 0
      fits f =
          let flag = is_stop (source_machine.step P (at b ε [])) in
          let room = room-said (start_state P place flag (at b ε [])) store e in
          room-enough (start_state (linearize P) place f (at b' ε [])) store'
          (omega (arith, longer, room, start-size P place flag (at b ε []), start-size (linearize P) place f (at b' ε [])))

      go : (t : Bool) → (starts_with (start_of linear_machine (linearize P) place (stopped_if_twice t (at b' ε []))) store').number ≡ 0
      go true = fits _
      go false = fits true

  located_too : (d d' : Def) → nth place P.defs ≡ some d → nth place (linearize P).defs ≡ some d' → d.context ≡ d'.context → (vs : List Given)
      → (starts_with (located_start source_machine P place vs) store).number ≡ 0 → (starts_with (located_start linear_machine (linearize P) place vs) store').number ≡ 0
  unfolding located_start source_start linear_start
  located_too d d' f f' c vs e = rw (f', ← c) (begun_too d.body d'.body (pair_up (ids d.context) (map value vs)) (rw f at e))

  started_too : {M : ℕ} (o o' : Option Def) → nth place P.defs ≡ o → nth place (linearize P).defs ≡ o' → SameDef M o o'
      → (start_at source_machine P place o values store).number ≡ 0 → (start_at linear_machine (linearize P) place o' values store').number ≡ 0
  started_too {M = M} none (some d') f f' x8 e = elim x8 [ ]
  started_too {M = M} (some d) none f f' x6 e = elim x6 [ ]
  started_too none none f f' neither e = impossible 13 e
  started_too (some d) (some d') f f' (both r) e = rw (← r.context) (go (givens (length d.context) values) e)
    where
      go : (o : Option (List Given)) → (start_with source_machine P place o store).number ≡ 0 → (start_with linear_machine (linearize P) place o store').number ≡ 0
      go none k = impossible 13 k
      go (some vs) k = located_too d d' f f' r.context vs k

pub linear-starts : LinearStarts
unfolding start_call
linear-starts image before after size m told place values store store' longer e =
    let o = answer-reads image before after size m told in
    let P = o.program in
    let asked = source-asked image P o.source o.accepted in
    rw o.reads
    (started_too P place values store store' longer (nth place P.defs) (nth place (linearize P).defs) refl refl (same_place P (accepted-scoped P o.accepted) place) (rw asked at e))
