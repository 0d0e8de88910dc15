-- Room for a step, as code asks for it, and what is then known. Assumes nothing.
use Prim.Native.Nat.{ℕ, ◌+◌, ◌-◌, ◌≤◌}
use mathlib.Core.Path.{◌≡◌, sym, subst, ◌∙◌}
use mathlib.Core.Bool.{Bool, true, ◌&&◌}
use mathlib.Core.List.{List}
use native.Mathlib.Omega.{arith}
use borrow.Author.Tests.{leb-true}
use Rattle.std.specs.Prelude.{Ok}
use lib.Dec.{leb}
use lib.ListN.{length}
use lib.Seq.{sets}
use Rattle.image_spec.proofs.DirectoryLaws.{and_left, and_right}
use Rattle.step_header.specs.declared.Header.{Header}
use Rattle.step_write.specs.declared.Step.{Step}
use Rattle.step_write.specs.Writing.{size, Ending, Sealed, Finishes, finished}

-- there is room for the state with this header, and for n bytes behind `at`
pub record Roomy (store events : List ℕ) (at : ℕ) (header : Header) (n : ℕ) : Type 0 where
  pub state : size header ≤ length store
  pub event : at + n ≤ length events

pub roomy : {store events : List ℕ} {at : ℕ} {header : Header} (n : ℕ) (r : Bool) → Ending store events at header → r ≡ leb (size header) (length store) && leb n (length events - at) → r ≡ true
    → Roomy store events at header n
roomy {store} {events} {at} {header} n r o e f =
    let b = sym e ∙ f in
    record {
      state = leb-true _ _ (and_left (leb (size header) (length store)) (leb n (length events - at)) b);
      event = omega (arith, o.placed, leb-true n (length events - at) (and_right (leb (size header) (length store)) (leb n (length events - at)) b));
    }

-- event and header are written over the slots that were written before
pub finishes : {store store₁ events store' events' : List ℕ} {at : ℕ} {header : Header} {shown : List ℕ} {from : ℕ} {bytes : List ℕ} {step : Step} (r : Bool)
    → r ≡ leb (size header) (length store) && leb (length shown) (length events - at) → r ≡ true → store₁ ≡ sets store from bytes → Sealed store₁ events at shown header store' events' step
    → Finishes store events at header shown from bytes store' events' (Ok step)
finishes {events = events} {store' = store'} {events' = events'} {at = at} {header = header} {shown = shown} {step = step} r e f w s =
    finished (sym e ∙ f) (subst (λ (z : List ℕ). Sealed z events at shown header store' events' step) w s)
