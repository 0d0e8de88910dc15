use mathlib.Core.Path.{sym, ◌∙◌}
use mathlib.Core.Bool.{true, false}
use native.Mathlib.Omega.{arith}
use borrow.Author.Tests.{leb-true, leb-false}
use Rattle.step_slots.specs.Sorts.{own_code}
use Rattle.step_slots.specs.Slots.{as_slot}
use Rattle.step_slots.specs.Views.{no_slot, slots_at}
use Rattle.step_slots.proofs.SortLaws.{sort-below}
use Rattle.step_scan.proofs.PassLaws.{left-all, left-next, left-no, left_end, pass_none, pass-number, pass-cell, pass-held}
use Rattle.step_scan.proofs.cells_ok.Goals as goal
use Rattle.step_scan.proofs.cells_ok.Goals.{then-t-k-via-then-t-k, then-t-k-via-else-t-k+then-not-head_ok, then-begins_cell+else-t-k+else-not-head_ok, else-begins_cell+else-not-held_ok}

pub loop-i-init : goal.loop-i-init
loop-i-init c = let a = c.args in left-all a.image.now.frame a.image.now.bytes.now a.heap.now.store.now a.cells a.heap.now.count

pub returns-in_default : goal.returns-in_default
returns-in_default c =
    let a = c.args in
    let l = c.loop-i in
    left-no a.image.now.frame a.image.now.bytes.now a.heap.now.store.now a.cells a.heap.now.count l.k (own_code l.own) l.i no_slot (omega arith) c.in_default.ensures l.invariant
    (λ P o. pass_none P (slots_at a.heap.now.store.now 64 a.heap.now.count) a.cells l.k (own_code l.own) no_slot _ (omega arith))

pub returns-then-t-k : goal.returns-then-t-k
returns-then-t-k c =
    let a = c.args in
    let l = c.loop-i in
    let t = as_slot c.in-Some.t in
    let below = sort-below c.in-Some.t.sort in
    let begins = leb-true 3 t.sort (sym c.begins_cell.ensures ∙ c.if-begins_cell.true) in
    left-no a.image.now.frame a.image.now.bytes.now a.heap.now.store.now a.cells a.heap.now.count l.k (own_code l.own) l.i t (omega arith) c.in-Some.ensures l.invariant
    (elim c.then-t-k.branch [
      | then-t-k-via-then-t-k w ↦ λ P o. pass-number P (slots_at a.heap.now.store.now 64 a.heap.now.count) a.cells l.k (own_code l.own) t _ below begins w.if-t-k.true
      | then-t-k-via-else-t-k+then-not-head_ok w ↦ λ P o. pass-cell P (slots_at a.heap.now.store.now 64 a.heap.now.count) a.cells l.k (own_code l.own) t _ false below begins w.if-t-k.false
          (sym (w.head_ok.ensures P (slots_at a.heap.now.store.now 64 a.heap.now.count) o) ∙ w.if-not-head_ok.true)
    ])

pub returns-then-not-held_ok : goal.returns-then-not-held_ok
returns-then-not-held_ok c =
    let a = c.args in
    let l = c.loop-i in
    let t = as_slot c.in-Some.t in
    let begins = leb-false 3 t.sort (sym c.begins_cell.ensures ∙ c.if-begins_cell.false) in
    left-no a.image.now.frame a.image.now.bytes.now a.heap.now.store.now a.cells a.heap.now.count l.k (own_code l.own) l.i t (omega arith) c.in-Some.ensures l.invariant
    (λ P o. pass-held P (slots_at a.heap.now.store.now 64 a.heap.now.count) a.cells l.k (own_code l.own) t _ false begins (sym (c.held_ok.ensures P) ∙ c.if-not-held_ok.true))

pub loop-i-preserved : goal.loop-i-preserved
loop-i-preserved c =
    let a = c.args in
    let l = c.loop-i in
    let t = as_slot c.in-Some.t in
    elim c.if-begins_cell.branch [
      | then-begins_cell+else-t-k+else-not-head_ok w ↦ rw (w.k-is, w.own-is) (left-next a.image.now.frame a.image.now.bytes.now a.heap.now.store.now
          a.cells a.heap.now.count l.k (own_code l.own) l.i _ _ t (omega arith) c.in-Some.ensures l.invariant (omega (arith, l.invariant.numbered))
          (λ P o. pass-cell P (slots_at a.heap.now.store.now 64 a.heap.now.count) a.cells l.k (own_code l.own) t _ true (sort-below c.in-Some.t.sort)
          (leb-true 3 t.sort (sym c.begins_cell.ensures ∙ w.if-begins_cell.true)) w.if-t-k.false
          (sym (w.head_ok.ensures P (slots_at a.heap.now.store.now 64 a.heap.now.count) o) ∙ w.if-not-head_ok.false)))
      | else-begins_cell+else-not-held_ok w ↦ rw (w.k-is, w.own-is) (left-next a.image.now.frame a.image.now.bytes.now a.heap.now.store.now
          a.cells a.heap.now.count l.k (own_code l.own) l.i _ _ t (omega arith) c.in-Some.ensures l.invariant (omega (arith, l.invariant.numbered))
          (λ P o. pass-held P (slots_at a.heap.now.store.now 64 a.heap.now.count) a.cells l.k (own_code l.own) t _ true
          (leb-false 3 t.sort (sym c.begins_cell.ensures ∙ w.if-begins_cell.false)) (sym (w.held_ok.ensures P) ∙ w.if-not-held_ok.false)))
    ]

pub returns : goal.returns
returns c =
    let a = c.args in
    let l = c.loop-i in
    left_end a.image.now.frame a.image.now.bytes.now a.heap.now.store.now a.cells a.heap.now.count l.k (own_code l.own) l.i (omega arith) l.invariant
