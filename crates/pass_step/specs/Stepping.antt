-- One step of linearization: what the code needs to make it, and what it has done then.
use Rattle.std.specs.Prelude.{ℕ, ◌+◌, ◌≤◌, ◌<◌, ◌^◌, ◌≡◌, Bool, true, cond}
use mathlib.Core.List.{List, Memᴰ}
use Rattle.syntax.specs.Sets.{elem}
use Rattle.syntax.specs.declared.names.VarId.{VarId}
use Rattle.image_directory.specs.declared.Frame.{Frame}
use Rattle.image_spec.specs.Records.{Record}
use Rattle.image_write_directory.specs.Emitting.{Emits, Progress}
use Rattle.scope_spec.specs.Flat.{plain_record_lem, small_record_lem}
use Rattle.image_read_parts.specs.Indexed.{record_at, At}
use Rattle.pass_work_spec.specs.Work.{Work}
use Rattle.pass_work_spec.specs.declared.Entry.{Entry}
use Rattle.pass_context.specs.Holding.{HoldsWork}
use Rattle.pass_entries.specs.Masks.{marked}
use Rattle.pass_context.specs.declared.Held.{Held}
use Rattle.pass_step_spec.specs.Steps.{Step, step_of, clause_context}
use Rattle.pass_step_spec.specs.Fronts.{pairs_size, right_of, front_records, front_bytes}

-- what a step leads to: the context for the bodies, how many variables are in scope there, and how far the output has come
pub record Stepped : Type 0 where
  pub context : Held
  pub in_scope : ℕ
  pub progress : Progress

-- what clauses begin with: their context, whether the context is right already, and how far the output has come, behind the place of what comes
-- before them
pub record Opened : Type 0 where
  pub context : Held
  pub right : Bool
  pub progress : Progress

-- the mask says of each entry whether its source is in the set
pub record Says (mask : ℕ) (s : List VarId) (W : Work) : Type 0 where
  pub says : (e : Entry) → Memᴰ e W → marked mask e.place ≡ elem e.source s

-- there is room to write two records and to draw for them. (Asked of an output and no field of it: a step uses the room up.)
pub record RoomAt (p : Progress) : Type 0 where
  pub at : p.at + 65536 < 2 ^ 64
  pub count : p.count + 2 < 2 ^ 64
  pub max_id : p.max_id + 256 < 2 ^ 32

-- these records were written, one at most, and nothing was drawn
pub record Arranges (w : ℕ) (out out' lengths lengths' : List ℕ) (p q : Progress) (R : List Record) : Type 0 where
  pub emits : Emits w out out' lengths lengths' p q R
  pub max_id : q.max_id ≡ p.max_id
  pub near : q.at ≤ p.at + 8192
  pub few : q.count ≤ p.count + 1

-- from p to q there is a place for a Substitute of so many pairs, unless the context is right, and for a record of so many bytes
pub record Reserves (right : Bool) (wanted own w : ℕ) (p q : Progress) : Type 0 where
  pub at : q.at ≡ p.at + (cond right 0 (1 + pairs_size w wanted) + own)
  pub count : q.count ≡ p.count + cond right 1 2
  pub max_id : q.max_id ≡ p.max_id

-- the record at index i is a source's, of this kind
pub record SourceAt (g : Frame) (s : List ℕ) (i kind : ℕ) : Type 0 where
  pub at : At g s i kind
  pub small : small_record_lem (record_at g s i) ≡ true
  pub plain : plain_record_lem (record_at g s i) ≡ true

-- the context at work, with n variables in scope, has room for what binds k more. (Asked and no field: how much differs from statement to statement.)
pub record Workable (held : Held) (n k : ℕ) : Type 0 where
  pub room : held.len + k ≤ 64
  pub places : n + k ≤ 64

-- the step was made: its records are written, and this is the context for the bodies
pub record Steps (w : ℕ) (out out' lengths lengths' : List ℕ) (p : Progress) (r : Stepped) (x : Step) : Type 0 where
  pub emits : Emits w out out' lengths lengths' p r.progress x.front
  pub context : HoldsWork r.context x.context
  pub in_scope_lem : r.in_scope ≡ x.in_scope_lem
  pub max_id : r.progress.max_id ≡ x.max_id

-- .. for the record, with whatever sets the masks of its clauses and of its bodies say
pub record StepsAs (w : ℕ) (record' : Record) (clauses next : ℕ) (W : Work) (n : ℕ) (out out' lengths lengths' : List ℕ) (p : Progress) (r : Stepped) : Type 0 where
  pub steps : (freeClauses freeNext : List VarId) → Says clauses freeClauses W → Says next freeNext W → Steps w out out' lengths lengths' p r (step_of record' freeClauses freeNext W n p.max_id)

-- the step of a statement that leaves the context as it is was made: its records are written
pub record Leaves (w : ℕ) (out out' lengths lengths' : List ℕ) (p r : Progress) (x : Step) : Type 0 where
  pub emits : Emits w out out' lengths lengths' p r x.front
  pub max_id : r.max_id ≡ x.max_id

-- .. for the record, with whatever sets the masks of its clauses and of its bodies say
pub record LeavesAs (w : ℕ) (record' : Record) (clauses next : ℕ) (W : Work) (n : ℕ) (out out' lengths lengths' : List ℕ) (p r : Progress) : Type 0 where
  pub leaves : (freeClauses freeNext : List VarId) → Says clauses freeClauses W → Says next freeNext W → Leaves w out out' lengths lengths' p r (step_of record' freeClauses freeNext W n p.max_id)

-- what stands before the clauses has its place, this is the context for the clauses, and this says whether the context is right already
pub record Opens (w : ℕ) (record' : Record) (freeClauses freeNext : List VarId) (W : Work) (p : Progress) (r : Opened) : Type 0 where
  pub context : HoldsWork r.context (clause_context record' freeClauses freeNext W)
  pub right : r.right ≡ right_of record' freeClauses freeNext W
  pub at : r.progress.at ≡ p.at + front_bytes w record' freeClauses freeNext W
  pub count : r.progress.count ≡ p.count + front_records record' freeClauses freeNext W
  pub max_id : r.progress.max_id ≡ p.max_id

-- .. with whatever sets the masks say
pub record OpensAs (w : ℕ) (record' : Record) (clauses next : ℕ) (W : Work) (p : Progress) (r : Opened) : Type 0 where
  pub opens : (freeClauses freeNext : List VarId) → Says clauses freeClauses W → Says next freeNext W → Opens w record' freeClauses freeNext W p r

-- what was opened: the context for the clauses, and whether the context is right already, with whatever sets the masks say
pub record OpenedAs (record' : Record) (clauses next : ℕ) (W : Work) (r : Opened) : Type 0 where
  pub context : (freeClauses freeNext : List VarId) → Says clauses freeClauses W → Says next freeNext W → HoldsWork r.context (clause_context record' freeClauses freeNext W)
  pub right : (freeClauses freeNext : List VarId) → Says clauses freeClauses W → Says next freeNext W → r.right ≡ right_of record' freeClauses freeNext W
