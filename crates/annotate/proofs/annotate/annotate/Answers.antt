use mathlib.Core.Path.{ap, subst}
use mathlib.Core.List.{List}
use Prim.Native.Nat.{ℕ}
use native.Mathlib.Omega.{arith}
use lib.ListN.{length}
use Rattle.std.specs.Prelude.{Ok}
use Rattle.std.proofs.Common.{rules}
use Rattle.image_directory.specs.declared.Frame.{Frame}
use Rattle.image_open.specs.Opens.{Opens}
use Rattle.image_open.proofs.OpenedLaws.{opened-image, opened-bytes, opened-refused}
use Rattle.scope_spec.specs.Calls.{annotate_of, Replies}
use Rattle.annotate.proofs.AnnotateLaws.{opened_reply, closed_reply}
use Rattle.annotate.proofs.annotate.annotate.Goals as goal
use Rattle.annotate.proofs.annotate.annotate.Goals.{In_ok-opened}

-- what was opened
opens : (c : In_ok-opened) → Opens c.args.layout c.args.image.now (Ok c.in_ok-opened.opened)
opens c = subst (Opens c.args.layout c.args.image.now) c.in_ok-opened.was c.open.ensures

pub annotate_image-requires : goal.annotate_image-requires
annotate_image-requires c =
    let o = opened-image c.requires.0 (opens (goal.at.annotate_image-requires c).In_ok-opened) in
    omega (arith, c.requires.1, ap (λ (g : Frame). g.id) o.frame)

pub returns : goal.returns
returns c =
    let a = c.args in
    let o = opens (goal.at.returns c).In_ok-opened in
    subst (λ (s : List ℕ). Replies (annotate_of a.layout s a.i (length a.out.now)) c.annotate_image.result a.out.now c.annotate_image.new.out) (opened-bytes o)
    (opened_reply (opened-image c.requires.0 o) a.i c.annotate_image.ensures)

pub returns-in_err-opened : goal.returns-in_err-opened
returns-in_err-opened c =
    let a = c.args in
    let e = opened-refused (subst (Opens a.layout a.image.now) c.in_err-opened.was c.open.ensures) in
    let r = closed_reply a.layout a.image.now a.i a.out.now e in
    search (rules, r)
