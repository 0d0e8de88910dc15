-- The records of an image, by the image.
use Rattle.std.specs.Prelude.{List}
use Rattle.image_spec.specs.Records.{Record}
use Rattle.image_directory.specs.Slots.{records_in}
use Rattle.image_directory.specs.declared.image.Image.{Image}

abbrev pub records_of : Image → List Record
records_of m = records_in m.frame m.bytes.now
