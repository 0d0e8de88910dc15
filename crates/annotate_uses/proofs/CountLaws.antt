-- How many IDs a record uses that has passed the counts of question 7. Assumes nothing.
use Prim.Native.Nat.{◌≤◌}
use mathlib.Core.Path.{◌≡◌}
use mathlib.Core.Bool.{true}
use mathlib.Core.Option.{none, some}
use native.Mathlib.Omega.{arith}
use borrow.Author.Tests.{leb-true}
use lib.ListN.{length}
use Rattle.syntax.proofs.Filters.{ids-length}
use Rattle.image_spec.specs.Records.{Record, definition, substitute, call, let', switch, create, invoke, literal, op, ifc, clause', print, exit}
use Rattle.image_places_spec.specs.Views.{uses_of}
use Rattle.scope_spec.specs.Flat.{small_record_lem}

pub uses-few : (r : Record) → small_record_lem r ≡ true → length (uses_of r) ≤ 33
uses-few (definition x Γ) h = omega arith
uses-few (substitute ps) h = omega arith
uses-few (call x Γ) h = omega (arith, ids-length Γ, leb-true (length Γ) 32 h)
uses-few (let' v t g Γ) h = omega (arith, ids-length Γ, leb-true (length Γ) 32 h)
uses-few (switch v t n) h = omega arith
uses-few (create v t e n) h = omega arith
uses-few (invoke v g t Γ) h = omega (arith, ids-length Γ, leb-true (length Γ) 32 h)
uses-few (literal z v) h = omega arith
uses-few (op f o s v) h = omega arith
uses-few (ifc c f none) h = omega arith
uses-few (ifc c f (some x)) h = omega arith
uses-few (clause' x Γ) h = omega arith
uses-few (print n v) h = omega arith
uses-few (exit v) h = omega arith
