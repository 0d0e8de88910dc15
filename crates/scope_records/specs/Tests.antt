-- What is asked of each record alone.
use Rattle.std.specs.Prelude.{Bool}
use Rattle.image_spec.specs.Records.{Record}
use Rattle.scope_spec.specs.Flat.{plain_record_lem, small_record_lem}
use Rattle.scope_records.specs.declared.flat.Alone.{Alone}
use Rattle.scope_records.specs.declared.flat.Alone.TheVariants.{Plain, Small}

abbrev pub test_of : Alone → Record → Bool
test_of Plain = plain_record_lem
test_of Small = small_record_lem
