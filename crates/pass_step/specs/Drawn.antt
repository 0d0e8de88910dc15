-- How far the output has come when IDs are drawn.
use Rattle.std.specs.Prelude.{ℕ}
use Rattle.image_write_directory.specs.Emitting.{Progress}

-- nothing is written, and this is the max_id
abbrev pub drawn_to : Progress → (m : ℕ) → Progress
drawn_to p m = record { at = p.at; count = p.count; max_id = m }
