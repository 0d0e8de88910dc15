use mathlib.Core.Path.{refl}
use mathlib.Core.Bool.{false}
use native.Mathlib.Omega.{arith}
use Rattle.step_slots.specs.Slots.{as_slot}
use Rattle.step_slots.specs.Views.{no_slot}
use Rattle.step_scan.proofs.PassLaws.{entries-all, entries_next, entries-no, entries-end}
use Rattle.step_scan.proofs.entries_ok.Goals as goal

pub loop-i-init : goal.loop-i-init
loop-i-init c = let a = c.args in entries-all a.heap.now.store.now a.heap.now.count a.entries

pub loop-i-preserved : goal.loop-i-preserved
loop-i-preserved c =
    let a = c.args in
    entries_next a.heap.now.store.now a.heap.now.count a.entries c.loop-i.i (as_slot c.in-Some.t) _ (omega arith) c.in-Some.ensures c.loop-i.invariant c.value_ok.ensures c.if-not-value_ok.false

pub returns-in_default : goal.returns-in_default
returns-in_default c =
    let a = c.args in
    entries-no a.heap.now.store.now a.heap.now.count a.entries c.loop-i.i no_slot false (omega arith) c.in_default.ensures c.loop-i.invariant (λ P. refl) refl

pub returns-then-not-value_ok : goal.returns-then-not-value_ok
returns-then-not-value_ok c =
    let a = c.args in
    entries-no a.heap.now.store.now a.heap.now.count a.entries c.loop-i.i (as_slot c.in-Some.t) _ (omega arith) c.in-Some.ensures c.loop-i.invariant c.value_ok.ensures c.if-not-value_ok.true

pub returns : goal.returns
returns c = let a = c.args in entries-end a.heap.now.store.now a.heap.now.count a.entries c.loop-i.i (omega arith) c.loop-i.invariant
