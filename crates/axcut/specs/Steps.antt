-- What a stepper's exported call reports and leaves: its number, the steps that it made, the bytes of their events, and both lent buffers.
use Rattle.std.specs.Prelude.{ℕ, List}
use Rattle.step_spec.specs.Calls.{Result}

abbrev pub step_result : (number steps length : ℕ) (store events : List ℕ) → Result
step_result n k m store events = record { number = n; steps = k; length = m; store = store; events = events }
