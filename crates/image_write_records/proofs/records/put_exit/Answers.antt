-- `put_exit` meets its contract. Assumes nothing.
use Rattle.image_spec.specs.Records.{record_bytes}
use Rattle.image_write_records.proofs.records.put_exit.Goals as goal

pub returns : goal.returns
unfolding record_bytes
returns c = c.put_named.ensures
