-- `linearize` meets its contract. Assumes nothing.
use mathlib.Core.List.{List}
use mathlib.Core.Path.{subst}
use Prim.Native.Nat.{ℕ}
use lib.ListN.{length}
use Rattle.std.specs.Prelude.{Ok}
use Rattle.std.proofs.Common.{rules}
use Rattle.model.specs.Syntax.{Prog}
use Rattle.image_open.specs.Opens.{Opens}
use Rattle.image_open.proofs.OpenedLaws.{opened-image, opened-bytes, opened-refused}
use Rattle.scope_spec.specs.Calls.{Replies}
use Rattle.scope_check.proofs.ReplyLaws.{opened-replies, closed-replies}
use Rattle.pass_answer_spec.specs.Calls.{linearizing, linearize_of}
use Rattle.pass_program.proofs.ProgramLaws.{opened-read}
use Rattle.pass_program.proofs.linearize.Goals as goal
use Rattle.pass_program.proofs.linearize.Goals.{In_ok-opened}

-- what was opened
opens : (c : In_ok-opened) → Opens c.args.layout c.args.image.now (Ok c.in_ok-opened.opened)
opens c = subst (Opens c.args.layout c.args.image.now) c.in_ok-opened.was c.open.ensures

pub linearize_image-requires : goal.linearize_image-requires
linearize_image-requires c =
    let h = c.requires in
    opened-read h.0 h.1 (opened-image h.0 (opens (goal.at.linearize_image-requires c).In_ok-opened))

pub returns : goal.returns
unfolding linearize_of
returns c =
    let a = c.args in
    let o = opens (goal.at.returns c).In_ok-opened in
    subst (λ (s : List ℕ). Replies (linearize_of a.layout s (length a.out.now)) c.linearize_image.result a.out.now c.linearize_image.new.out) (opened-bytes o)
    (opened-replies (opened-image c.requires.0 o) (λ (P : Prog). linearizing a.layout P (length a.out.now)) c.linearize_image.ensures)

pub returns-in_err-opened : goal.returns-in_err-opened
unfolding linearize_of
returns-in_err-opened c =
    let a = c.args in
    let e = opened-refused (subst (Opens a.layout a.image.now) c.in_err-opened.was c.open.ensures) in
    let r = closed-replies a.layout a.image.now (λ (P : Prog). linearizing a.layout P (length a.out.now)) a.out.now e in
    search (rules, r)
