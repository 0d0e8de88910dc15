-- The records of a source.
use Rattle.std.specs.Prelude.{◌≡◌, true}
use Rattle.scope_spec.specs.Flat.{plain_record_lem, small_record_lem}
use Rattle.image_read_parts.specs.declared.record.RecordAt.{RecordAt}
use Rattle.image_read_parts.specs.Recorded.{record_in}

-- document 01, question 6, and the counts of question 7, of this record alone
pub record IsSource (r : RecordAt) : Type 0 where
  pub small : small_record_lem (record_in r) ≡ true
  pub plain : plain_record_lem (record_in r) ≡ true
