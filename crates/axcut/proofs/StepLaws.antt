-- What the steppers' exported functions report is what their calls answer; and what document 02 says of such calls. Assumes nothing.
use Prim.Native.Nat.{ℕ}
use mathlib.Core.Path.{◌≡◌, refl, ap, ap₂, ◌∙◌}
use mathlib.Core.Bool.{Bool, true, false, cond}
use mathlib.Core.List.{List, []}
use mathlib.Core.Option.{Option, none, some}
use native.Mathlib.Omega.{arith}
use lib.Dec.{leb}
use lib.ListN.{length}
use lib.Seq.{sets}
use Rattle.model.specs.Syntax.{Def, Prog}
use Rattle.model.specs.Machine.{nth, Given}
use Rattle.image_spec.specs.declared.Layout.{Layout}
use Rattle.image_spec.specs.Layout.{layout1}
use Rattle.image_spec.specs.Reading.{Reading, refuse, accept}
use Rattle.step_spec.specs.declared.MachineKind.{MachineKind}
use Rattle.step_spec.specs.Located.{Located, located_start}
use Rattle.step_spec.specs.Store.{store_bytes}
use Rattle.step_spec.specs.Events.{givens}
use Rattle.step_spec.specs.Calls.{Stepper, Result, source_stepper, linear_stepper, unchanged, starts_with, start_with, start_at, starting, start_call, step_call_lem}
use Rattle.step_spec.specs.Claims.{Stepping}
use Rattle.step_spec.proofs.Stepping as stepping
use Rattle.std.specs.Prelude as std
use Rattle.std.specs.Prelude.{Ok, Err}
use Rattle.step_answer_spec.specs.declared.Shown.{Shown}
use Rattle.step_answer_spec.specs.declared.Failure.{Failure}
use Rattle.step_answer_spec.specs.declared.Failure.TheVariants.{Refused, NoState, NoRoom}
use Rattle.step_answer_spec.specs.Saying.{result_of}
use Rattle.step_ask.specs.Asking.{stepper_of}
use Rattle.axcut.specs.Steps.{step_result}

-- number, steps and bytes are the answer's
said_is : (said : std.Result Shown Failure) (store events : List ℕ) → step_result (result_of said [] []).number (result_of said [] []).steps (result_of said [] []).length store events ≡ result_of said store events
said_is (Err (Refused q)) store events = refl
said_is (Err NoState) store events = refl
said_is (Err (NoRoom s)) store events = refl
said_is (Ok s) store events = refl

module _ (kind : MachineKind) {L : Layout} (one : L ≡ layout1) (said : std.Result Shown Failure) where
  pub told-steps : (image : List ℕ) (n : ℕ) (store events : List ℕ) {store' events' : List ℕ} {number steps length : ℕ} → result_of said store' events' ≡ step_call_lem (stepper_of kind L) image n store events
      → (number ≡ (result_of said [] []).number) × ((steps ≡ (result_of said [] []).steps) × (length ≡ (result_of said [] []).length))
      → step_result number steps length store' events' ≡ step_call_lem (stepper_of kind layout1) image n store events
  told-steps image n store events {store'} {events'} e t =
      (λ i. step_result (t.0 i) (t.1.0 i) (t.1.1 i) store' events') ∙ (said_is said store' events' ∙ (e ∙ ap (λ (l : Layout). step_call_lem (stepper_of kind l) image n store events) one))

-- ── starts ──

abbrev Unchanged : Result → Type 0
Unchanged r = unchanged r.number r.store [] ≡ r

started_with : (o : Option Located) (store : List ℕ) → Unchanged (starts_with o store)
started_with none store = refl
started_with (some l) store = go (leb (length (store_bytes l)) (length store))
  where
    go : (b : Bool) → Unchanged (cond b (unchanged 0 (sets store 0 (store_bytes l)) []) (unchanged 15 store []))
    go true = refl
    go false = refl

-- a start makes no step and shows nothing
starts-unchanged : (S : Stepper) (image : List ℕ) (n : ℕ) (values store : List ℕ) → Unchanged (start_call S image n values store)
unfolding start_call
starts-unchanged S image n values store = asked (S.asks image)
  where
    given : (P : Prog) (o : Option (List Given)) → Unchanged (start_with S.machine P n o store)
    given P none = refl
    given P (some vs) = started_with (located_start S.machine P n vs) store

    found : (P : Prog) (o : Option Def) → Unchanged (start_at S.machine P n o values store)
    found P none = refl
    found P (some d) = given P (givens (length d.context) values)

    asked : (r : Reading) → Unchanged (starting S.machine r n values store)
    asked (refuse q) = refl
    asked (accept P) = found P (nth n P.defs)

-- number and store are the answer's
number_is : (said : std.Result Shown Failure) (store : List ℕ) → (result_of said [] []).number ≡ (result_of said store []).number
number_is (Err (Refused q)) store = refl
number_is (Err NoState) store = refl
number_is (Err (NoRoom s)) store = refl
number_is (Ok s) store = refl

store_is : (said : std.Result Shown Failure) (store : List ℕ) → store ≡ (result_of said store []).store
store_is (Err (Refused q)) store = refl
store_is (Err NoState) store = refl
store_is (Err (NoRoom s)) store = refl
store_is (Ok s) store = refl

pub told-start : (kind : MachineKind) {L : Layout} → L ≡ layout1 → (said : std.Result Shown Failure) (image : List ℕ) (n : ℕ) (values store : List ℕ) {store' : List ℕ} {number : ℕ}
    → result_of said store' [] ≡ start_call (stepper_of kind L) image n values store → number ≡ (result_of said [] []).number
    → unchanged number store' [] ≡ start_call (stepper_of kind layout1) image n values store
told-start kind {L} one said image n values store {store'} e t =
    let q = e ∙ ap (λ (l : Layout). start_call (stepper_of kind l) image n values store) one in
    ap₂ {C = Result} (λ (k : ℕ) (s : List ℕ). unchanged k s []) (t ∙ (number_is said store' ∙ ap (λ (r : Result). r.number) q)) (store_is said store' ∙ ap (λ (r : Result). r.store) q)
    ∙ starts-unchanged (stepper_of kind layout1) image n values store

-- ── document 02, A.2, of the exported calls ──

pub axcut_source_stepping : Stepping (source_stepper layout1)
axcut_source_stepping = stepping.source-stepping layout1 (omega arith)

pub axcut_linear_stepping : Stepping (linear_stepper layout1)
axcut_linear_stepping = stepping.linear-stepping layout1 (omega arith)
