use mathlib.Core.Path.{refl, sym, ◌∙◌}
use native.Mathlib.Omega.{arith}
use borrow.Author.Tests.{le-ltb}
use Rattle.pass_entries.specs.Masks.{marked}
use Rattle.pass_entries.proofs.MaskLaws.{marked-past}
use Rattle.pass_entries.proofs.masks.bit.Goals as goal

pub returns-then-place-lt64 : goal.returns-then-place-lt64
unfolding marked
returns-then-place-lt64 c = refl

pub returns-else-place-lt64 : goal.returns-else-place-lt64
returns-else-place-lt64 c =
    let h = c.if-place-lt64.false in
    le-ltb c.args.place 64 h ∙ sym (marked-past c.args.mask 64 c.args.place (omega arith) h)
