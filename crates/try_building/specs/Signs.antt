-- The signs of chiralities, and of what sort an error of a line is.
use Rattle.std.specs.Prelude.{ℕ, List, codes}
use Rattle.std.specs.declared.io.ErrorKind.{ErrorKind}
use Rattle.std.specs.declared.io.ErrorKind.TheVariants.{InvalidData, OutOfMemory}
use Rattle.try_building.specs.declared.build.BuildError.{BuildError}
use Rattle.try_building.specs.declared.build.BuildError.TheVariants.{Notation, TooLarge, NoMemory}
use Rattle.try_building.specs.declared.codes.Chirality.{Chirality}
use Rattle.try_building.specs.declared.codes.Chirality.TheVariants.{Producer, Consumer, External}

-- What a listing has for a chirality.
abbrev pub chirality_sign : Chirality → List ℕ
chirality_sign Producer = codes "prd"
chirality_sign Consumer = codes "cns"
chirality_sign External = codes "ext"

-- The kind of error that a program tells of it.
abbrev pub build_error_kind : BuildError → ErrorKind
build_error_kind Notation = InvalidData
build_error_kind TooLarge = InvalidData
build_error_kind NoMemory = OutOfMemory
