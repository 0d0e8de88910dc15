-- `mask_one` meets its contract. Assumes nothing.
use Prim.Native.Nat.{ℕ, ◌+◌, ◌*◌, ◌-◌}
use mathlib.Core.Path.{sym, ap, ◌∙◌}
use mathlib.Core.List.{[], ◌∷◌}
use native.Mathlib.Omega.{arith}
use lib.Dec.{eqb}
use lib.ListN.{get_or, drop_of_length-le}
use Rattle.scope_spec.specs.FreeRows.{mask_of}
use Rattle.scope_spec.proofs.RowLaws.{mask_empty}
use Rattle.scope_places.specs.Views.{viewed}
use Rattle.scope_places.proofs.EnterLaws.{scope-count}
use Rattle.scope_places.proofs.MaskLaws.{bit_small, from-small, from_more}
use Rattle.scope_places.proofs.mask.mask_one.Goals as goal

pub loop-i-init : goal.loop-i-init
loop-i-init c =
    let a = c.args in
    let e = drop_of_length-le (viewed a.scope.now) {i = a.scope.now.n} (omega (arith, scope-count c.args.scope.now.fits)) in
    sym (ap (mask_of (a.id ∷ [])) e ∙ mask_empty (a.id ∷ []))

pub overflow_mul-mask : goal.overflow_mul-mask
overflow_mul-mask c =
    let l = c.loop-i in
    omega (arith, l.invariant, from-small c.args.scope.now.fits (c.args.id ∷ []) l.i c.loop-i-test.true)

pub overflow_add-mask : goal.overflow_add-mask
overflow_add-mask c =
    let l = c.loop-i in
    omega (arith, l.invariant, c.from.ensures, bit_small (eqb (get_or c.args.scope.now.ids.now (l.i - 1) 0) c.args.id.0), from-small c.args.scope.now.fits (c.args.id ∷ []) l.i c.loop-i-test.true)

pub loop-i-preserved : goal.loop-i-preserved
loop-i-preserved c =
    let l = c.loop-i in
    ap (λ (b : ℕ). 2 * l.mask + b) c.from.ensures ∙ from_more c.args.scope.now.fits c.args.id l.i l.mask c.loop-i-test.true l.auto.i l.invariant
