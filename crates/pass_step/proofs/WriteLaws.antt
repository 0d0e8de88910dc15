-- What is written and noted in an output, as the laws of steps take it (`noted_up_to`, `recorded_bytes`, `recorded`), and what stays the same where
-- an ID is drawn (`keeps_drawn`). Assumes nothing.
use Prim.Native.Nat.{ℕ}
use mathlib.Core.Path.{sym, subst}
use mathlib.Core.List.{List}
use Rattle.image_spec.specs.Records.{Record, record_bytes}
use Rattle.image_write_parts.specs.Puts.{Puts}
use Rattle.image_write_parts.specs.Written.{Wrote}
use Rattle.image_write_parts.specs.declared.writer.Writer.{Writer}
use Rattle.image_write_directory.specs.Emitting.{Noted}
use Rattle.image_write_directory.specs.Outputs.{so_far, Keeps, NotedIn}
use Rattle.image_write_directory.specs.declared.output.Output.{Output}
use Rattle.image_write_directory.proofs.EmitLaws.{keeps_then, keeps_wrote}

-- what was written behind what q has is noted, up to the place that the writer has come to
pub noted_up_to : (q : Output) {o' : Output} {w : Writer} → NotedIn (record q { writer = w }) o' q.writer.at → Noted (so_far o') (so_far q) w.at q.lengths.now o'.lengths.now
noted_up_to q n = record { at = n.at; max_id = n.max_id; puts = n.lengths }

-- these bytes, by how many an ID has, were written behind what q has, up to `next`, and their length noted; q came from o
pub record Recorded (o q o' : Output) (next : ℕ) (bytes : ℕ → List ℕ) : Type 0 where
  pub puts : Puts q.writer.out.now o'.writer.out.now q.writer.at next (bytes o.writer.id)
  pub noted : Noted (so_far o') (so_far q) next q.lengths.now o'.lengths.now
  pub keeps : Keeps o o'

pub recorded_bytes : {o q o' : Output} {w : Writer} (bytes : ℕ → List ℕ) → Keeps o q → Wrote q.writer w (bytes q.writer.id) → NotedIn (record q { writer = w }) o' q.writer.at → Recorded o q o' w.at bytes
recorded_bytes {o} {q} {o'} {w} bytes k u n = record {
  puts = subst (λ (out : List ℕ). Puts q.writer.out.now out q.writer.at w.at (bytes o.writer.id)) (sym n.out)
      (subst (λ (i : ℕ). Puts q.writer.out.now w.out.now q.writer.at w.at (bytes i)) k.id u.puts);
  noted = noted_up_to q n;
  keeps = keeps_then k (keeps_then (keeps_wrote q u) n.keeps);
}

-- .. a record's
pub recorded : {o q o' : Output} {w : Writer} (z : Record) → Keeps o q → Wrote q.writer w (record_bytes q.writer.id z) → NotedIn (record q { writer = w }) o' q.writer.at → Recorded o q o' w.at (λ (i : ℕ). record_bytes i z)
recorded z k u n = recorded_bytes (λ (i : ℕ). record_bytes i z) k u n

-- an ID is drawn: the buffers and how many bytes an ID has stay
pub keeps_drawn : {o o' : Output} {m : ℕ} → Keeps o o' → Keeps o (record o' { max_id = m })
keeps_drawn k = record { id = k.id; out = k.out; lengths = k.lengths }
