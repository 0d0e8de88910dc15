-- The option of the code as an option of the logic, of which the model's definitions speak.
use Rattle.std.specs.Prelude.{Option, Some, None}
use Rattle.std.proofs.Math.Option.{Option as Optional, none, some}

abbrev pub option_of : {A : Type 0} → Option A → Optional A
option_of None = none
option_of (Some a) = some a
