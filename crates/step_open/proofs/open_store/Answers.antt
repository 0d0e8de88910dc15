use mathlib.Core.Path.{refl, sym, ◌∙◌}
use mathlib.Core.Bool.{true≢false}
use borrow.Author.Tests.{leb-true}
use Rattle.step_open.proofs.OpeningLaws.{opened, not_opened, outside, short-store, no_head, opens_none, opens_as}
use Rattle.step_open.proofs.open_store.Goals as goal
use Rattle.step_open.proofs.open_store.Goals.{then-counts_inside, else-counts_inside}

pub returns-then-store-lt64 : goal.returns-then-store-lt64
returns-then-store-lt64 c = opens_none c.args.image.now.frame c.args.image.now.bytes.now c.args.store.now refl (λ P o. short-store P c.args.store.now c.if-store-lt64.true)

pub returns-in_err-header : goal.returns-in_err-header
returns-in_err-header c = opens_none c.args.image.now.frame c.args.image.now.bytes.now c.args.store.now c.from_residual.ensures (λ P o. no_head P c.args.store.now c.in_err-header.ensures)

pub is_formed-requires : goal.is_formed-requires
is_formed-requires c = leb-true _ _ (sym c.counts_inside.ensures ∙ c.if-counts_inside.true)

pub returns : goal.returns
returns c =
    let s = c.args.store.now in
    let h = c.in_ok-header.header in
    let e = c.in_ok-header.ensures in
    opens_as c.args.image.now.frame c.args.image.now.bytes.now s h c.if-counts_inside.then_some e c.then_some.ensures (λ v P o. elim c.if-counts_inside.branch [
      | then-counts_inside w ↦ opened P s h e (sym (w.is_formed.ensures P o) ∙ (sym w.then_some-is ∙ v))
      | else-counts_inside w ↦ absurd (true≢false (sym v ∙ (w.then_some-is ∙ w.if-counts_inside.false)))
    ]) (λ v P o. elim c.if-counts_inside.branch [
      | then-counts_inside w ↦ not_opened P s h e (sym (w.is_formed.ensures P o) ∙ (sym w.then_some-is ∙ v))
      | else-counts_inside w ↦ outside P s h e c.if-store-lt64.false (sym c.counts_inside.ensures ∙ w.if-counts_inside.false)
    ])
