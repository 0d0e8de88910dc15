-- `check_image` meets its contract. Assumes nothing.
use mathlib.Core.Path.{sym, ap, ◌∙◌}
use mathlib.Core.Bool.{false≢true}
use Rattle.image_directory.proofs.Places.{records-length}
use Rattle.scope_check.specs.Deciding.{decided}
use Rattle.scope_check.proofs.CheckLaws.{shaped-defined, walk_stand, answer_6, answer_7, answer_walk}
use Rattle.scope_check.proofs.DefWalks.{passed-plain, passed-limits, passed-sourced}
use Rattle.scope_check.proofs.check.check_image.Goals as goal

pub walk_definitions-requires : goal.walk_definitions-requires
walk_definitions-requires c =
    let h = shaped-defined c.args.opened.now.shaped in
    walk_stand h c.args.opened.now.image.frame.count (sym c.within_limits.ensures ∙ c.if-not-within_limits.false)

pub returns : goal.returns
returns c =
    let a = c.args.opened.now in
    let m = a.image in
    let h = shaped-defined a.shaped in
    let w = c.walk_definitions.ensures in (
      c.decide.ensures
          ∙ (ap (λ v. decided v a.max_id) w.0
          ∙ sym (answer_walk h a.max_id m.frame.count (records-length m.frame m.bytes.now m.ready) (sym c.all_records.ensures ∙ c.if-not-all_records.false) (sym c.within_limits.ensures ∙ c.if-not-within_limits.false))),
      λ p. w.1 (passed-sourced h p),
    )

pub returns-then-not-within_limits : goal.returns-then-not-within_limits
returns-then-not-within_limits c =
    let a = c.args.opened.now in
    let m = a.image in
    let h = shaped-defined a.shaped in
    let n = records-length m.frame m.bytes.now m.ready in
    let no = sym c.within_limits.ensures ∙ c.if-not-within_limits.true in
    (sym (answer_7 h a.max_id m.frame.count n (sym c.all_records.ensures ∙ c.if-not-all_records.false) no), λ p. absurd (false≢true (sym no ∙ passed-limits h p m.frame.count n)))

pub returns-then-not-all_records : goal.returns-then-not-all_records
returns-then-not-all_records c =
    let a = c.args.opened.now in
    let m = a.image in
    let h = shaped-defined a.shaped in
    let no = sym c.all_records.ensures ∙ c.if-not-all_records.true in
    (sym (answer_6 h a.max_id no), λ p. absurd (false≢true (sym no ∙ passed-plain h p)))
