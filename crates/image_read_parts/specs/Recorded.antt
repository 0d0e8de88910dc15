-- A record of an image.
use Rattle.image_spec.specs.Records.{Record}
use Rattle.image_read_parts.specs.Indexed.{record_of}
use Rattle.image_read_parts.specs.declared.record.RecordAt.{RecordAt}

-- what it is
abbrev pub record_in : RecordAt → Record
record_in r = record_of r.image r.index
