use mathlib.Core.Path.{◌≡◌, sym, ap, ◌∙◌}
use Rattle.model.specs.Syntax.{Prog}
use Rattle.model.specs.Questions.{question6}
use Rattle.image_directory.specs.Images.{records_of}
use Rattle.image_open.specs.declared.opened.Opened.{Opened}
use Rattle.scope_spec.specs.Flat.{all_records_lem, plain_record_lem}
use Rattle.scope_spec.proofs.FlatLaws.{question6-flat}
use Rattle.scope_check.specs.Deciding.{program_in}
use Rattle.scope_check.proofs.CheckLaws.{shaped-defined}
use Rattle.annotate.proofs.AnnotateLaws.{annotated, not_limited, not_source}
use Rattle.annotate.proofs.annotate.annotate_image.Goals as goal
use Rattle.annotate.proofs.annotate.annotate_image.Goals.{After-all_records}

-- the program of the image
abbrev program : Opened → Prog
program o = program_in o.definitions (records_of o.image) o.max_id

-- its question 6, of its records
six : (c : After-all_records) → question6 (program c.args.opened.now) ≡ c.all_records.result
six c = question6-flat (program c.args.opened.now) ∙ (ap (all_records_lem plain_record_lem) (sym (shaped-defined c.args.opened.now.shaped).is) ∙ sym c.all_records.ensures)

pub annotate_record-requires : goal.annotate_record-requires
annotate_record-requires c = record {
  defined = shaped-defined c.args.opened.now.shaped;
  narrow = c.requires;
  six = six (goal.at.annotate_record-requires c).After-all_records ∙ c.if-not-all_records.false;
  seven = sym c.in_limits.ensures ∙ c.if-not-in_limits.false;
}

pub returns : goal.returns
returns c =
    let o = c.args.opened.now in
    annotated o.image.frame.id (program o) c.args.i (six (goal.at.returns c).After-all_records ∙ c.if-not-all_records.false) (sym c.in_limits.ensures ∙ c.if-not-in_limits.false) c.annotate_record.ensures

pub returns-then-not-in_limits : goal.returns-then-not-in_limits
returns-then-not-in_limits c =
    let o = c.args.opened.now in
    not_limited o.image.frame.id (program o) c.args.i c.args.out.now (six (goal.at.returns-then-not-in_limits c).After-all_records ∙ c.if-not-all_records.false) (sym c.in_limits.ensures ∙ c.if-not-in_limits.true)

pub returns-then-not-all_records : goal.returns-then-not-all_records
returns-then-not-all_records c =
    let o = c.args.opened.now in
    not_source o.image.frame.id (program o) c.args.i c.args.out.now (six (goal.at.returns-then-not-all_records c).After-all_records ∙ c.if-not-all_records.true)
