-- `in_limits` meets its contract. Assumes nothing.
use mathlib.Core.Path.{sym, ap, ◌∙◌}
use Rattle.image_directory.proofs.Places.{records-length}
use Rattle.scope_spec.specs.declared.Verdict.{Verdict}
use Rattle.scope_check.proofs.CheckLaws.{shaped-defined, walk_stand, answer-room}
use Rattle.annotate.proofs.annotate.in_limits.Goals as goal

pub walk_definitions-requires : goal.walk_definitions-requires
walk_definitions-requires c =
    let h = shaped-defined c.args.opened.now.shaped in
    walk_stand h c.args.opened.now.image.frame.count (sym c.within_limits.ensures ∙ c.if-within_limits.true)

pub returns-then-within_limits : goal.returns-then-within_limits
returns-then-within_limits c =
    let a = c.args in
    let h = shaped-defined a.opened.now.shaped in
    ap (λ (v : Verdict). v.room) c.walk_definitions.ensures.0
    ∙ sym (answer-room h a.opened.now.max_id a.opened.now.image.frame.count (records-length a.opened.now.image.frame a.opened.now.image.bytes.now c.args.opened.now.image.ready)
    ∙ rw (← c.within_limits.ensures, c.if-within_limits.true))

pub returns-else-within_limits : goal.returns-else-within_limits
returns-else-within_limits c =
    let a = c.args in
    let h = shaped-defined a.opened.now.shaped in
    c.if-within_limits.false
    ∙ sym (answer-room h a.opened.now.max_id a.opened.now.image.frame.count (records-length a.opened.now.image.frame a.opened.now.image.bytes.now c.args.opened.now.image.ready)
    ∙ rw (← c.within_limits.ensures, c.if-within_limits.false))
