-- The end of linearization: what the code needs there, and what it has done then.
use Rattle.std.specs.Prelude.{ℕ, ◌+◌, ◌≤◌, ◌<◌, ◌^◌, ◌≡◌, ◌&&◌, List, ◌++◌, leb, length, take, replicate, Err}
use Rattle.model.specs.Syntax.{Prog}
use Rattle.image_spec.specs.declared.Layout.{Layout}
use Rattle.image_spec.specs.declared.Refusal.{Refusal}
use Rattle.image_spec.specs.declared.Refusal.TheVariants.{Draws, Room}
use Rattle.image_spec.specs.Answers.{Answer}
use Rattle.image_spec.specs.Parse.{each}
use Rattle.image_spec.specs.Layout.{body_at}
use Rattle.image_spec.specs.Shape.{flatten_defs}
use Rattle.image_spec.specs.Image.{header_bytes, entry_bytes, image}
use Rattle.image_open.specs.Opening.{Known}
use Rattle.image_write_parts.specs.declared.writer.Writer.{Writer}
use Rattle.image_write_directory.specs.Emitting.{Emits, entries_from, total, Progress}
use Rattle.scope_spec.specs.Calls.{Reply, writes, reply_if_yes, Replies}
use Rattle.pass_finish.specs.declared.Noted.{Noted}

-- document 01, questions 11 and 12 of the program that linearization gives, and its image
unfoldable pub closing : Layout → Prog → (size : ℕ) → Reply
closing L Q size =
    reply_if_yes (leb Q.max_id 65535) Draws
    (reply_if_yes (leb (length (image L Q)) size && leb (length (image L Q)) L.largest) Room
    (writes (image L Q) Q.max_id))

-- the header and the directory of n records of these lengths
abbrev pub heading : Layout → (d m n : ℕ) → (sizes : List ℕ) → List ℕ
heading L d m n sizes = header_bytes L (L.number, (d, (m, n))) ++ each (entry_bytes L.place) (entries_from (body_at L n) sizes)

-- a refusal that sets the whole buffer to zero
pub record Clears (q : Refusal) (r : Answer) (before after : List ℕ) : Type 0 where
  pub answer : r ≡ Err q
  pub buffer : after ≡ replicate (length before) 0

-- how far a writer has come, by what was noted
abbrev pub progress_of : Writer → Noted → Progress
progress_of w n = record { at = w.at; count = n.count; max_id = n.max_id }

-- the writer's buffer is the same one, and IDs have as many bytes
pub record Same (w w' : Writer) : Type 0 where
  pub id : w'.id ≡ w.id
  pub out : w'.out.ghost_name ≡ w.out.ghost_name

-- records of these lengths were written from `start` on, not behind the place that they have in the image
pub record Finishable (L : Layout) (lengths : List ℕ) (d start : ℕ) (p : Progress) : Type 0 where
  pub known : Known L
  pub definitions : d < 2 ^ 32
  pub few : p.count < 65536
  pub noted : p.count ≤ length lengths
  pub near : p.at < 2 ^ 31
  pub up : start ≤ body_at L p.count
  pub ends : start + total (take p.count lengths) ≡ p.at

-- whatever program and earlier buffer the records came from: the answer and the buffer are those of its questions 11 and 12
pub record Finishes (L : Layout) (d start : ℕ) (p : Progress) (lengths out out' : List ℕ) (r : Answer) : Type 0 where
  pub replies : (Q : Prog) (before lengths₀ : List ℕ) (m : ℕ) → length Q.defs ≡ d → Q.max_id ≡ p.max_id
      → Emits L.id before out lengths₀ lengths (record { at = start; count = 0; max_id = m }) p (flatten_defs Q.defs)
      → Replies (closing L Q (length before)) r before out'
