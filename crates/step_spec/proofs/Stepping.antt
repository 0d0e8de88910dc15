-- document 02, A.2, as one theorem for each stepper: `source-stepping`, `linear-stepping`. Assumes nothing.
use Prim.Native.Nat.{ℕ, zero, suc, ◌+◌, ◌^◌, ◌≤◌, ◌<◌}
use mathlib.Core.Path.{◌≡◌, refl, sym, ap, ◌∙◌, subst}
use mathlib.Core.Bool.{Bool, true, false, cond}
use mathlib.Core.List.{List, [], ◌∷◌, ◌++◌, append_assoc, append-nil}
use mathlib.Core.Option.{Option, none, some}
use native.Mathlib.Omega.{arith}
use borrow.Author.Tests.{leb-true}
use lib.Dec.{leb}
use lib.ListN.{length, take, length-append}
use lib.Seq.{sets, sets-eq, length-sets, take_at}
use Rattle.model.specs.Syntax.{Def, Prog}
use Rattle.model.specs.Machine.{Event, nth, Given, Start}
use Rattle.model.specs.Questions.{question6, question7, question8, question9, question10}
use Rattle.image_spec.specs.Parse.{each, All}
use Rattle.image_spec.specs.Shape.{flatten_defs, DefOk}
use Rattle.image_spec.specs.declared.Layout.{Layout}
use Rattle.image_spec.specs.declared.Refusal.{Refusal}
use Rattle.image_spec.specs.Reading.{Reading, refuse, accept, if_yes, reading}
use Rattle.image_spec.proofs.OneToOne.{only_its_image}
use Rattle.scope_spec.specs.Calls.{after_reading, checking, check_of}
use Rattle.step_spec.specs.Located.{Machine, Located, records_in, located_start}
use Rattle.step_spec.specs.Store.{store_bytes, state_from}
use Rattle.step_spec.specs.Events.{event_bytes, givens}
use Rattle.step_spec.specs.Calls.{Stepper, source_stepper, linear_stepper, Result, unchanged, starts_with, start_with, start_at, starting, start_call, Progress}
use Rattle.step_spec.specs.Calls.{making, space_number, made', step_call_lem}
use Rattle.step_spec.specs.Claims.{Request, calls, steps_of, shown_in, store_left, After, Fair, all_made, no-next, no_room, Stepping}
use Rattle.step_spec.proofs.Lists.{all_weaker, each-++}
use Rattle.step_spec.proofs.Stored.{store-size}
use Rattle.step_spec.proofs.OneToOne.{only_its_bytes}
use Rattle.step_spec.proofs.EventLaws.{event-fits}
use Rattle.step_spec.proofs.Representable.{EventHolds, DefsOk}
use Rattle.step_spec.proofs.Sound.{givens-fit, Lawful, source_lawful, linear_lawful}
use Rattle.step_spec.proofs.Reached.{project-ended, Reached, reached-start, reached-end}
use Rattle.step_spec.proofs.Making.{Ends, written, makes}
use Rattle.step_spec.proofs.Making as Making

-- ── calls ──

pub call_is : (S : Stepper) (P : Prog) (image : List ℕ) → S.asks image ≡ accept P → (n : ℕ) (store events : List ℕ) (l : Located) → state_from P store ≡ some l
    → step_call_lem S image n store events ≡ made' (making S.machine P n l store (length events)) events
unfolding step_call_lem
call_is S P image a n store events l e = rw (a, e) refl

module _ (S : Stepper) (w : ℕ) (narrow : 256 ^ w ≤ 256 ^ 4) (lawful : Lawful S.machine) (P : Prog) (shallow : All DefOk P.defs)
    (defs : DefsOk w narrow P.defs) (few : length (records_in P) < 256 ^ 4) (start : Start) (image : List ℕ) (read : S.asks image ≡ accept P) where
  abbrev pub M : Machine
  M = S.machine

  abbrev pub R : ℕ → List Event → Located → Type 0
  R n es l = Reached w narrow M lawful P shallow defs start n es l

  -- the store holds the state after m steps, which showed es
  pub record Holds (m : ℕ) (es : List Event) (store : List ℕ) : Type 0 where
    pub located : Located
    pub reached : R m es located
    pub stored : state_from P store ≡ some located
    pub short : length store < 2 ^ 64

  -- one call
  record Called (m : ℕ) (es : List Event) (n : ℕ) (store events : List ℕ) (r : Result) : Type 0 where
    shown : List Event
    holds : Holds (m + r.steps) (es ++ shown) r.store
    are : shown_in r ≡ each event_bytes shown
    fair : Fair M P start m n (length events) r

  fair-call : (m : ℕ) (es : List Event) (n : ℕ) (events : List ℕ) (p : Progress) → R (m + p.steps) es p.state → state_from P p.store ≡ some p.state
      → Ends w narrow M lawful P shallow defs few start n (length events) p → Fair M P start m n (length events) (made' p events)
  fair-call m es n events p h e (Making.all_made f g) = all_made (ap space_number f) g
  fair-call m es n events p h e (Making.no-next f g k) = no-next (ap space_number f) g (reached-end w narrow M lawful P shallow defs start (m + p.steps) es p.state h k)
  fair-call m es n events p h e (Making.no_room f g r k i) = no_room (ap space_number f) g p.state r e k i

  called : (m : ℕ) (es : List Event) (n : ℕ) (store events : List ℕ) → Holds m es store → Called m es n store events (step_call_lem S image n store events)
  called m es n store events h =
      let d = makes w narrow M lawful P shallow defs few start n m es h.located store (length events) h.reached h.stored h.short in
      let p = making M P n h.located store (length events) in
      subst (Called m es n store events) (sym (call_is S P image read n store events h.located h.stored)) (record {
        shown = d.events;
        holds = record { located = p.state; reached = d.reached; stored = d.stored; short = omega (arith, d.size, h.short) };
        are = ap (take (length p.shown)) (sets-eq p.shown events 0 (omega (arith, d.room))) ∙ (take_at p.shown _ (length p.shown) refl ∙ d.shown);
        fair = fair-call m (es ++ d.events) n events p d.reached d.stored d.ends;
      })

  -- a list of calls
  record Calling (m : ℕ) (es : List Event) (store : List ℕ) (rs : List Result) : Type 0 where
    shown : List Event
    holds : Holds (m + steps_of rs) (es ++ shown) (store_left store rs)
    are : each shown_in rs ≡ each event_bytes shown

  calling : (qs : List Request) (m : ℕ) (es : List Event) (store : List ℕ) → Holds m es store → Calling m es store (calls S image store qs)
  unfolding calls steps_of store_left
  calling [] m es store h = record {
    shown = [];
    holds = subst (λ (z : ℕ). Holds z (es ++ []) store) (omega arith) (subst (λ (z : List Event). Holds m z store) (sym (append-nil es)) h);
    are = refl;
  }
  calling (q ∷ qs) m es store h =
      let c = called m es q.steps store q.events h in
      let r = step_call_lem S image q.steps store q.events in
      let t = calling qs (m + r.steps) (es ++ c.shown) r.store c.holds in
      record {
        shown = c.shown ++ t.shown;
        holds =
            subst (λ (z : ℕ). Holds z (es ++ (c.shown ++ t.shown)) (store_left r.store (calls S image r.store qs))) (omega arith)
            (subst (λ (z : List Event). Holds (m + r.steps + steps_of (calls S image r.store qs)) z (store_left r.store (calls S image r.store qs))) (append_assoc es c.shown t.shown) t.holds);
        are = ap (λ (z : List ℕ). z ++ each shown_in (calls S image r.store qs)) c.are ∙ (ap (λ (z : List ℕ). each event_bytes c.shown ++ z) t.are ∙ sym (each-++ event_bytes c.shown t.shown));
      }

  -- all that is said of them
  pub after : (store : List ℕ) → Holds 0 [] store → (qs : List Request) (rs : List Result) → rs ≡ calls S image store qs
      → After M P start (steps_of rs) (each shown_in rs) (store_left store rs)
      × ((q : Request) → Fair M P start (steps_of rs) q.steps (length q.events) (step_call_lem S image q.steps (store_left store rs) q.events))
  after store h qs rs e = subst (λ (z : List Result). All-said z) (sym e) (said (calls S image store qs) (calling qs 0 [] store h))
    where
      All-said : List Result → Type 0
      All-said rs = After M P start (steps_of rs) (each shown_in rs) (store_left store rs)
          × ((q : Request) → Fair M P start (steps_of rs) q.steps (length q.events) (step_call_lem S image q.steps (store_left store rs) q.events))

      -- a store's state has fewer cells than the store has bytes
      few-cells : {m : ℕ} {es : List Event} {s : List ℕ} (k : Holds m es s) → length k.located.cells < 256 ^ 8
      few-cells {s = s} k =
          let b = only_its_bytes P s k.located k.stored in
          omega (arith, store-size k.located, ap length b.bytes, length-append (store_bytes k.located) b.rest, k.short)

      said : (rs : List Result) → Calling 0 [] store rs → All-said rs
      said rs t =
          let k : Holds (steps_of rs) t.shown (store_left store rs) = subst (λ (z : ℕ). Holds z t.shown (store_left store rs)) (omega arith) t.holds in (
            record {
              events = t.shown;
              state = _;
              ran = k.reached.ran;
              shown = t.are;
              readable = all_weaker (EventHolds (length k.located.cells)) _ t.shown (event-fits (length k.located.cells) (few-cells k)) k.reached.events;
              located = k.located;
              stored = k.stored;
              stands_for = record { is = refl; ended_is = project-ended P k.located; stopped_is = k.reached.stopped_is };
            },
            λ q. (called (steps_of rs) t.shown q.steps (store_left store rs) q.events k).fair,
          )

-- ── a start ──

-- what a start that was accepted left
record Started (M : Machine) (P : Prog) (place : ℕ) (values store : List ℕ) (r : Result) : Type 0 where
  definition : Def
  found : nth place P.defs ≡ some definition
  given : List Given
  read : givens (length definition.context) values ≡ some given
  located : Located
  started : located_start M P place given ≡ some located
  room : length (store_bytes located) ≤ length store
  left : r.store ≡ sets store 0 (store_bytes located)

module _ (M : Machine) (P : Prog) (place : ℕ) (values store : List ℕ) where
  impossible : {A : Type 0} (n : ℕ) → suc n ≡ 0 → A
  impossible n e = absurd (omega arith)

  started_with : (d : Def) → nth place P.defs ≡ some d → (vs : List Given) → givens (length d.context) values ≡ some vs → (o : Option Located) → located_start M P place vs ≡ o
      → (starts_with o store).number ≡ 0 → Started M P place values store (starts_with o store)
  started_with d f vs g none h e = impossible 13 e
  started_with d f vs g (some l) h e = go (leb (length (store_bytes l)) (length store)) refl e
    where
      go : (b : Bool) → leb (length (store_bytes l)) (length store) ≡ b → (cond b (unchanged 0 (sets store 0 (store_bytes l)) []) (unchanged 15 store [])).number ≡ 0
          → Started M P place values store (cond b (unchanged 0 (sets store 0 (store_bytes l)) []) (unchanged 15 store []))
      go true q k = record { definition = d; found = f; given = vs; read = g; located = l; started = h; room = leb-true _ _ q; left = refl }
      go false q k = impossible 14 k

  started-at : (o : Option Def) → nth place P.defs ≡ o → (start_at M P place o values store).number ≡ 0 → Started M P place values store (start_at M P place o values store)
  started-at none f e = impossible 13 e
  started-at (some d) f e = go (givens (length d.context) values) refl e
    where
      go : (o : Option (List Given)) → givens (length d.context) values ≡ o → (start_with M P place o store).number ≡ 0 → Started M P place values store (start_with M P place o store)
      go none g k = impossible 13 k
      go (some vs) g k = started_with d f vs g (located_start M P place vs) refl k

  started-call : (S : Stepper) (image : List ℕ) → S.machine ≡ M → S.asks image ≡ accept P → (starting M (S.asks image) place values store).number ≡ 0
      → Started M P place values store (starting M (S.asks image) place values store)
  started-call S image m e k = rw e (started-at (nth place P.defs) refl (rw e at k))

start-call : (S : Stepper) (image : List ℕ) (P : Prog) → S.asks image ≡ accept P → (place : ℕ) (values store : List ℕ) → (start_call S image place values store).number ≡ 0
    → Started S.machine P place values store (start_call S image place values store)
unfolding start_call
start-call S image P e place values store k = started-call S.machine P place values store S image refl e k

-- ── the theorem ──

-- what the questions that a stepper asks say of the program: its IDs have w bytes, at most four
pub record Readable (P : Prog) : Type 0 where
  pub w : ℕ
  pub narrow : 256 ^ w ≤ 256 ^ 4
  pub shallow : All DefOk P.defs
  pub defs : DefsOk w narrow P.defs
  pub few : length (records_in P) < 256 ^ 4

pub stepping-of : (S : Stepper) → Lawful S.machine → ((image : List ℕ) (P : Prog) → S.asks image ≡ accept P → Readable P) → Stepping S
stepping-of S lawful readable image P e place values store k zero-said =
    let o = readable image P e in
    let s = start-call S image P e place values store zero-said in
    let h = reached-start o.w o.narrow S.machine lawful P o.shallow o.defs place s.given (givens-fit _ values s.given s.read) s.located s.started in (
      record { definition = s.definition; found = s.found; given = s.given; read = s.read },
      after S o.w o.narrow lawful P o.shallow o.defs o.few (S.machine.start P place s.given) image e (start_call S image place values store).store (record {
        located = s.located;
        reached = h;
        stored = ap (state_from P) s.left ∙ written o.w o.narrow S.machine lawful P o.shallow o.defs o.few (S.machine.start P place s.given) s.located h.sound store s.room k;
        short = omega (arith, ap length s.left, length-sets store 0 (store_bytes s.located));
      }),
    )

-- ── images of a layout whose IDs have at most four bytes ──

at-most-four : (w : ℕ) → w ≤ 4 → 256 ^ w ≤ 256 ^ 4
at-most-four zero h = omega arith
at-most-four (suc zero) h = omega arith
at-most-four (suc (suc zero)) h = omega arith
at-most-four (suc (suc (suc zero))) h = omega arith
at-most-four (suc (suc (suc (suc zero)))) h = omega arith
at-most-four (suc (suc (suc (suc (suc w))))) h = absurd (omega arith)

yes-accepted : (b : Bool) (q : Refusal) (next : Reading) (P : Prog) → if_yes b q next ≡ accept P → next ≡ accept P
yes-accepted true q next P e = e
yes-accepted false q next P e = let z : ◌≡◌ {A = ℕ} 0 1 = cc in absurd (omega arith)

pub checked_is : (P Q : Prog) → checking P ≡ accept Q → P ≡ Q
unfolding checking
checked_is P Q e =
    let a = yes-accepted (question6 P) _ _ Q e in
    let b = yes-accepted (question7 P) _ _ Q a in
    let c = yes-accepted (question8 P) _ _ Q b in
    let d = yes-accepted (question9 P) _ _ Q c in
    let f : accept P ≡ accept Q = yes-accepted (question10 P) _ _ Q d in
    cc

module _ (L : Layout) (w : L.id ≤ 4) where
  pub read-readable : (image : List ℕ) (P : Prog) → reading L image ≡ accept P → Readable P
  unfolding flatten_defs
  read-readable image P e =
      let o = (only_its_image L image P e).0 in
      record { w = L.id; narrow = at-most-four L.id w; shallow = o.shallow; defs = o.formed; few = omega (arith, o.few) }

  pub check_readable : (image : List ℕ) (P : Prog) → check_of L image ≡ accept P → Readable P
  unfolding check_of
  check_readable image P e = go (reading L image) refl e
    where
      go : (r : Reading) → reading L image ≡ r → after_reading r checking ≡ accept P → Readable P
      go (refuse q) f g = let z : ◌≡◌ {A = ℕ} 0 1 = cc in absurd (omega arith)
      go (accept Q) f g = subst Readable (checked_is Q P g) (read-readable image Q f)

  pub source-stepping : Stepping (source_stepper L)
  source-stepping = stepping-of (source_stepper L) source_lawful check_readable

  pub linear-stepping : Stepping (linear_stepper L)
  linear-stepping = stepping-of (linear_stepper L) linear_lawful read-readable
