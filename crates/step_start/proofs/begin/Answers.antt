-- `begin` meets its contract. Assumes nothing.
use mathlib.Core.Path.{refl, ap, ◌∙◌}
use mathlib.Core.List.{List}
use Prim.Native.Nat.{ℕ}
use native.Mathlib.Omega.{arith}
use lib.ListN.{length}
use lib.Seq.{sets, length-sets}
use Rattle.image_spec.specs.Parse.{each}
use Rattle.step_slots.specs.Slots.{slot_bytes}
use Rattle.step_slots.specs.Views.{slots_at, all_slots}
use Rattle.step_spec.specs.Store.{header_bytes}
use Rattle.step_header.specs.Headers.{tuple_of}
use Rattle.step_rows.specs.Rows.{ids_of}
use Rattle.step_rows.proofs.RowLaws.{ids-length}
use Rattle.step_gather.specs.Gathering.{renamed}
use Rattle.step_start.proofs.BeginLaws.{copied-slots, begun-bytes}
use Rattle.step_start.proofs.begin.Goals as goal

pub rename-requires : goal.rename-requires
rename-requires c =
    let a = c.args in
    let p = c.requires in
    let e = copied-slots a.store.now a.values.now a.row.now.places.len p.0 p.1.0 p.1.1 in
    let w = c.copy.ensures.holds in
    let n = length-sets a.store.now 64 a.values.now in
    (omega (arith, p.1.0, ap length w, n), ap (λ (z : List ℕ). all_slots (slots_at z 64 a.row.now.places.len)) w ∙ (ap all_slots e ∙ p.1.1))

pub returns : goal.returns
returns c =
    let a = c.args in
    let p = c.requires in
    let F : List ℕ → List ℕ = λ (z : List ℕ). sets z 64 (each slot_bytes (renamed (ids_of a.row.now) (slots_at z 64 a.row.now.places.len))) in
    c.put_header.ensures.holds
    ∙ (ap (λ (z : List ℕ). sets z 0 (header_bytes (tuple_of a.header))) (c.rename.ensures ∙ ap F c.copy.ensures.holds)
    ∙ begun-bytes a.store.now a.values.now a.row.now.places.len p.0 p.1.0 p.1.1 (ids_of a.row.now) (header_bytes (tuple_of a.header)) (ids-length a.row.now.bytes.now a.row.now.places) refl)
