-- `linearize_lent` meets its contract. Assumes nothing.
use mathlib.Core.Path.{refl, sym, ◌∙◌}
use Rattle.std.proofs.Common.{rules}
use lib.ListN.{length}
use Rattle.image_directory.specs.Slots.{records_in}
use native.Mathlib.Omega.{arith}
use Rattle.scope_spec.specs.Pairs.{masks_of}
use Rattle.scope_spec.proofs.PairLaws.{masks-length}
use Rattle.scope_check.specs.Deciding.{program_in}
use Rattle.pass_program.proofs.ProgramLaws.{passed, few, rows-begin, checked_yes, replied, checked_no}
use Rattle.pass_program.proofs.linearize_lent.Goals as goal

pub linearize_program-requires : goal.linearize_program-requires
linearize_program-requires c =
    let k = c.check_image.ensures in
    let x = checked_yes c.requires.0 (sym k.0 ∙ c.in_ok-check_image.was) in
    let ready = c.args.opened.now.image.ready in
    let room = c.requires.1 (few ready x) in
    (x, (rows-begin ready x (masks_of c.args.rows.now) (omega (arith, room.0, masks-length c.args.rows.now)) (k.1 (passed ready x)), (room.1, record { at = refl; id = refl })))

pub returns : goal.returns
returns c =
    let x = checked_yes c.requires.0 (sym c.check_image.ensures.0 ∙ c.in_ok-check_image.was) in
    let r = replied x (length c.args.out.now) c.linearize_program.ensures.0 in
    search (rules, r)

pub returns-in_err-check_image : goal.returns-in_err-check_image
returns-in_err-check_image c =
    let a = c.args in
    let o = a.opened.now in
    let r = checked_no a.layout (program_in o.definitions (records_in o.image.frame o.image.bytes.now) o.max_id) (length a.out.now) a.out.now (sym c.check_image.ensures.0 ∙ c.in_err-check_image.was) in
    search (rules, r)
