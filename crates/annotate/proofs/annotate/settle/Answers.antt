use mathlib.Core.Path.{refl, ◌∙◌}
use borrow.Author.Tests.{le-leb, lt-leb}
use lib.ListN.{length}
use Rattle.annotate.proofs.annotate.settle.Goals as goal

pub returns-then-out-written : goal.returns-then-out-written
returns-then-out-written c =
    let a = c.args in
    let e = lt-leb a.written (length a.out.now) c.if-out-written.true in
    record { answer = rw e refl; buffer = c.clear.ensures ∙ rw e refl }

pub returns : goal.returns
returns c =
    let a = c.args in
    let e = le-leb a.written (length a.out.now) c.if-out-written.false in
    record { answer = rw e refl; buffer = rw e refl }
