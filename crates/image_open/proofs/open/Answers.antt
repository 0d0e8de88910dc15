use Prim.Native.Nat.{◌+◌}
use Rattle.image_open.specs.Opens.{closed}
use Rattle.image_open.proofs.Stages.{short, long, other-layout}
use Rattle.image_open.proofs.open.Goals as goal
use Rattle.image_open.proofs.open.Goals.{then-image-directory_at-via-then-image-directory_at, then-image-directory_at-via-else-image-directory_at+then-layout-image}

pub returns-then-image-directory_at : goal.returns-then-image-directory_at
returns-then-image-directory_at c = elim c.then-image-directory_at.branch [
  | then-image-directory_at-via-then-image-directory_at w ↦ closed (short _ _ (rw c.directory_at.ensures at w.if-image-directory_at.true))
  | then-image-directory_at-via-else-image-directory_at+then-layout-image w ↦ closed (long _ _ (rw c.directory_at.ensures at w.if-image-directory_at.false) w.if-layout-image.true)
]

pub returns-then-number-layout : goal.returns-then-number-layout
returns-then-number-layout c = closed (other-layout _ _ _ c.number.ensures (rw c.directory_at.ensures at c.if-image-directory_at.false) c.if-layout-image.false c.if-number-layout.true)
