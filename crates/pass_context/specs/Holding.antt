-- The context at work that an array with a count holds.
use Rattle.std.specs.Prelude.{◌≡◌, map, take, length}
use Rattle.pass_work_spec.specs.Work.{Work}
use Rattle.pass_entries.specs.Entries.{entry_in}
use Rattle.pass_context.specs.declared.Held.{Held}

-- all that stands in the array
abbrev pub entries_in : Held → Work
entries_in h = map entry_in h.entries

-- document 01, "Rust forms": a context at work holds up to 64 bindings, an array of binding structs by value with a count
abbrev pub work_of : Held → Work
work_of h = take h.len (entries_in h)

-- the struct holds exactly this context at work
pub record HoldsWork (h : Held) (W : Work) : Type 0 where
  pub count : h.len ≡ length W
  pub list : work_of h ≡ W
