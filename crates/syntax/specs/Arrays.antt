-- The lists that arrays with a count hold: what the structs of `syntax` stand for.
use Rattle.std.specs.Prelude.{◌≡◌, List, map, ℕ, take, length}
use Rattle.syntax.specs.Context.{Context}
use Rattle.syntax.specs.Flat.{binding_of}
use Rattle.syntax.specs.declared.names.VarId.{VarId}
use Rattle.syntax.specs.declared.sets.IdSet.{IdSet}
use Rattle.syntax.specs.declared.context.TypingContext.{TypingContext}
use Rattle.syntax.specs.declared.context.Freshened.{Freshened}

-- all that stands in the array, and the list: document 01, "Rust forms": arrays with a count
abbrev pub bindings_in : TypingContext → Context
bindings_in c = map binding_of c.bindings

abbrev pub context_of : TypingContext → Context
context_of c = take c.len (bindings_in c)

abbrev pub set_of : IdSet → List VarId
set_of s = take s.len s.ids

-- the struct holds exactly this list
pub record Holds (c : TypingContext) (Γ : Context) : Type 0 where
  pub count : c.len ≡ length Γ
  pub list : context_of c ≡ Γ

pub record SetHolds (s : IdSet) (xs : List VarId) : Type 0 where
  pub count : s.len ≡ length xs
  pub list : set_of s ≡ xs

-- document 01, "Rust forms": a context is handed to `freshen` and comes back renamed, with max_id returned beside it
pub record Freshens (r : Freshened) (w : Context × ℕ) : Type 0 where
  pub holds : Holds r.context w.0
  pub max : r.max_id.0 ≡ w.1
