use Prim.Native.Nat.{ℕ, ◌+◌, ◌-◌}
use mathlib.Core.Path.{◌≡◌, refl, sym, subst}
use mathlib.Core.List.{List}
use borrow.Author.Rules.{rules}
use borrow.Rule.Slice.PartMut.{put_mid}
use lib.ListN.{replicate}
use Rattle.image_write_parts.specs.Puts.{Puts}
use Rattle.step_slots.proofs.PutLaws.{puts-part}
use Rattle.step_header.proofs.put_zeros.Goals as goal

pub returns : goal.returns
returns c =
    let a = c.args in
    let e : c.fill.new.self ≡ replicate 32 0 = search rules in
    subst (λ (z : List ℕ). Puts a.out.now (put_mid a.at (a.at + 32 - a.at) a.out.now z) a.at (a.at + 32) (replicate 32 0)) (sym e)
    (puts-part a.out.now (replicate 32 0) a.at 32 refl c.requires)
