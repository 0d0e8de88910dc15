-- A store that is read as a state holds what its header says, and its position is inside the image. Assumes nothing.
use Prim.Native.Nat.{ℕ, ◌<◌}
use mathlib.Core.Path.{ap}
use mathlib.Core.List.{List}
use native.Mathlib.Omega.{arith}
use lib.ListN.{length}
use Rattle.model.specs.Syntax.{Prog}
use Rattle.image_directory.specs.Slots.{Ready}
use Rattle.image_directory.specs.declared.Frame.{Frame}
use Rattle.image_directory.proofs.Places.{records-length}
use Rattle.step_spec.specs.Located.{Located, records_in}
use Rattle.step_spec.specs.Store.{place_of, heap_of, is_a_statement, statement_at}
use Rattle.step_spec.proofs.Lists.{record_inside}
use Rattle.step_spec.proofs.Stored.{heap-length}
use Rattle.step_header.specs.declared.Header.{Header}
use Rattle.step_header.specs.Headers.{Holds}
use Rattle.step_rule.specs.Rules.{ImageOf, Reads}
use Rattle.step_rule.proofs.Views.{views}

module _ {P : Prog} {store : List ℕ} {h : Header} {l : Located} (o : Reads P store h l) where
  pub reads-holds : Holds store h
  unfolding heap_of
  reads-holds =
      let v = views o in
      record { inside = v.inside; heap = v.heap_slots; entries = v.entries_slots; cells = omega (arith, v.cells, v.heap_size, heap-length (place_of l.cells) 0 l.cells) }

  pub reads-inside : {g : Frame} {definitions : ℕ} {bytes : List ℕ} → Ready g bytes → ImageOf P g definitions bytes → h.position < g.count
  unfolding statement_at
  reads-inside {g} {bytes = bytes} ready p =
      let v = views o in
      omega (arith, v.position, record_inside is_a_statement (records_in P) l.position v.fits.position, ap length p.records, records-length g bytes ready)
