-- The end of linearization, by what was written before it: how many records there are, their lengths and their bytes (`written_count`,
-- `emits_sizes`, `emits-total`), so that the code can end it (`emits-finishable`); the three answers (`finishes_draws`, `finishes-room`,
-- `finishes-image`); and that they are the end of linearization's answer (`closing_is`). Assumes nothing.
use Prim.Native.Nat.{ℕ, ◌+◌, ◌-◌, ◌*◌, ◌≤◌, ◌<◌, ◌^◌}
use mathlib.Core.Path.{◌≡◌, refl, sym, ap, ◌∙◌}
use mathlib.Core.Bool.{true, false, ◌&&◌}
use mathlib.Core.List.{List, [], ◌∷◌, ◌++◌, append_assoc}
use native.Mathlib.Omega.{arith}
use native.Mathlib.Nat.{le_refl, mul-le-mul}
use borrow.Author.Tests.{le-leb, lt-leb}
use lib.Dec.{leb}
use lib.ListN.{length, take, drop, replicate, length-append}
use lib.Seq.{sets}
use Rattle.model.specs.Syntax.{Prog}
use Rattle.model.specs.Pass.{linearize}
use Rattle.model.specs.Questions.{question6, question7, question8, question9, question10}
use Rattle.image_spec.specs.declared.Layout.{Layout}
use Rattle.image_spec.specs.declared.Refusal.{Refusal}
use Rattle.image_spec.specs.declared.Refusal.TheVariants.{Linearized, Limits, Binders, Scope, MaxId, Draws, Room}
use Rattle.std.specs.Prelude.{Ok}
use Rattle.image_spec.specs.Answers.{Answer}
use Rattle.image_spec.specs.Parse.{each}
use Rattle.image_spec.specs.Layout.{header_size, body_at}
use Rattle.image_spec.specs.Records.{Record, record_bytes}
use Rattle.image_spec.specs.Shape.{flatten_defs}
use Rattle.image_spec.specs.Image.{header_bytes, entry_bytes, image}
use Rattle.image_spec.proofs.DirectoryLaws.{header-length, image-length}
use Rattle.image_open.specs.Opening.{Known}
use Rattle.image_write_parts.specs.Puts.{Puts}
use Rattle.image_write_parts.proofs.Putting.{puts-same, puts_then}
use Rattle.image_write_directory.specs.Emitting.{sizes_of, Emits, entries_from, total, Progress}
use Rattle.image_write_directory.proofs.EmitLaws.{emits-count, entries_sizes}
use Rattle.scope_spec.specs.Calls.{refuses, reply_if_yes, after_refusal, Replies}
use Rattle.pass_answer_spec.specs.Calls.{question12, linearizing}
use Rattle.pass_finish.specs.Finishing.{closing, heading, Clears, Finishable, Finishes}
use Rattle.image_write_bytes.proofs.Covering.{put_back}
use Rattle.pass_finish.proofs.Completing.{completed}

-- the tail of linearization's answer
pub closing_is : (L : Layout) (P : Prog) (size : ℕ) → linearizing L P size ≡
    reply_if_yes (question6 P) Linearized
    (reply_if_yes (question7 P) Limits
    (reply_if_yes (question8 P) Binders
    (reply_if_yes (question9 P) Scope
    (reply_if_yes (question10 P) MaxId
    (closing L (linearize P) size)))))
unfolding linearizing question12 closing
closing_is L P size = refl

-- ── what was written ──

pub total_sizes : (w : ℕ) (R : List Record) → total (sizes_of w R) ≡ length (each (record_bytes w) R)
total_sizes w [] = refl
total_sizes w (r ∷ R) = ap (λ (z : ℕ). length (record_bytes w r) + z) (total_sizes w R) ∙ sym (length-append (record_bytes w r) (each (record_bytes w) R))

module _ {w : ℕ} {before out lengths₀ lengths : List ℕ} {start m : ℕ} {p : Progress} {R : List Record}
    (e : Emits w before out lengths₀ lengths (record { at = start; count = 0; max_id = m }) p R) where
  pub written_count : p.count ≡ length R
  written_count = omega (arith, emits-count e)

  pub emits_sizes : p.count ≤ length lengths → take p.count lengths ≡ sizes_of w R
  emits_sizes h =
      let k : p.count ≡ length (sizes_of w R) = omega (arith, e.noted.ends) in
      ap (λ (z : ℕ). take z lengths) k
      ∙ ap (take (length (sizes_of w R))) e.noted.holds
      ∙ put_back lengths₀ 0 (sizes_of w R) (omega (arith, h, k, puts-same e.noted))

  -- the lengths come to the bytes
  pub emits-total : p.count ≤ length lengths → start + total (take p.count lengths) ≡ p.at
  emits-total h = omega (arith, ap total (emits_sizes h), total_sizes w R, e.bytes.ends)

-- ── the code's steps ──

-- a directory is small
pub directory_small : (n p : ℕ) → n < 65536 → p ≤ 4 → n * (p + p) ≤ 524280
directory_small n p a b = let h : p + p ≤ 8 = omega arith in let k : n ≤ 65535 = omega arith in mul-le-mul k h

pub body-small : (L : Layout) (n : ℕ) → Known L → n < 65536 → body_at L n ≤ 524292
body-small L n k h = omega (arith, directory_small n L.place h k.place.1, k.id.1, k.place.1)

-- past the header
pub header-ends : (L : Layout) (D m n : ℕ) {a b : List ℕ} {from : ℕ} → Puts a b 0 from (header_bytes L (L.number, (D, (m, n)))) → from ≡ header_size L
header-ends L D m n p = omega (arith, p.ends, header-length L (L.number, (D, (m, n))))

-- more records leave more before them
pub body-grows : (L : Layout) (k n : ℕ) → k ≤ n → body_at L k ≤ body_at L n
body-grows L k n h = let g : k * (L.place + L.place) ≤ n * (L.place + L.place) = mul-le-mul h (le_refl (L.place + L.place)) in omega (arith, g)

-- what the end needs, of records that were written from behind the directory of N records on
pub emits-finishable : (L : Layout) (N : ℕ) {d m : ℕ} {before out lengths₀ lengths : List ℕ} {p : Progress} {R : List Record} → Known L → d < 2 ^ 32 → N ≤ p.count
    → p.count < 65536 → p.count ≤ length lengths → p.at < 2 ^ 31
    → Emits L.id before out lengths₀ lengths (record { at = body_at L N; count = 0; max_id = m }) p R → Finishable L lengths d (body_at L N) p
emits-finishable L N {p = p} k h u f n g e = record { known = k; definitions = h; few = f; noted = n; near = g; up = body-grows L N p.count u; ends = emits-total e n }

-- the records are moved up, and the header and the directory written
pub completes : (L : Layout) (d m n start k : ℕ) (sizes out : List ℕ) {mid top out' : List ℕ} {body definitions records from end : ℕ} → start ≤ body_at L n
    → body ≡ body_at L n → definitions ≡ d → records ≡ n
    → mid ≡ sets out (start + (body - start)) (take k (drop start out))
    → Puts mid top 0 from (header_bytes L (L.number, (definitions, (m, records))))
    → Puts top out' from end (each (entry_bytes L.place) (entries_from body sizes))
    → out' ≡ sets (sets out (body_at L n) (take k (drop start out))) 0 (heading L d m n sizes)
completes L d m n start k sizes out {body = body} {definitions = definitions} {records = records} h b x y move head directory =
    let s : start + (body - start) ≡ body_at L n = omega (arith, h, b) in
    (puts_then head directory).holds
    ∙ ap (λ (z : List ℕ). sets z 0 (header_bytes L (L.number, (definitions, (m, records))) ++ each (entry_bytes L.place) (entries_from body sizes))) (move ∙ ap (λ (z : ℕ). sets out z (take k (drop start out))) s)
    ∙ ap (λ (z : ℕ). sets moved 0 (header_bytes L (L.number, (z, (m, records))) ++ each (entry_bytes L.place) (entries_from body sizes))) x
    ∙ ap (λ (z : ℕ). sets moved 0 (header_bytes L (L.number, (d, (m, z))) ++ each (entry_bytes L.place) (entries_from body sizes))) y
    ∙ ap (λ (z : ℕ). sets moved 0 (header_bytes L (L.number, (d, (m, n))) ++ each (entry_bytes L.place) (entries_from z sizes))) b
  where
    moved : List ℕ
    moved = sets out (body_at L n) (take k (drop start out))

-- ── the image ──

module _ (L : Layout) (Q : Prog) {start m : ℕ} {p : Progress} {lengths₀ lengths before out : List ℕ}
    (e : Emits L.id before out lengths₀ lengths (record { at = start; count = 0; max_id = m }) p (flatten_defs Q.defs)) where
  image-size : length (image L Q) ≡ body_at L p.count + (p.at - start)
  unfolding image
  image-size =
      let R = flatten_defs Q.defs in
      let k : p.at - start ≡ length (each (record_bytes L.id) R) = omega (arith, e.bytes.ends) in
      image-length L (length Q.defs) Q.max_id R
      ∙ ap (λ (z : ℕ). body_at L z + length (each (record_bytes L.id) R)) (sym (written_count e))
      ∙ ap (λ (z : ℕ). body_at L p.count + z) (sym k)

  image_is : p.count ≤ length lengths
      → image L Q ≡ heading L (length Q.defs) Q.max_id p.count (take p.count lengths) ++ each (record_bytes L.id) (flatten_defs Q.defs)
  unfolding image
  image_is h =
      let R = flatten_defs Q.defs in
      let bytes = each (record_bytes L.id) R in
      let D = length Q.defs in
      ap (λ z. header_bytes L (L.number, (D, (Q.max_id, length R))) ++ (each (entry_bytes L.place) z ++ bytes)) (entries_sizes L (body_at L (length R)) R)
      ∙ ap (λ (z : ℕ). header_bytes L (L.number, (D, (Q.max_id, z))) ++ (each (entry_bytes L.place) (entries_from (body_at L z) (sizes_of L.id R)) ++ bytes)) (sym (written_count e))
      ∙ ap (λ (z : List ℕ). header_bytes L (L.number, (D, (Q.max_id, p.count))) ++ (each (entry_bytes L.place) (entries_from (body_at L p.count) z) ++ bytes)) (sym (emits_sizes e h))
      ∙ sym (append_assoc (header_bytes L (L.number, (D, (Q.max_id, p.count)))) (each (entry_bytes L.place) (entries_from (body_at L p.count) (take p.count lengths))) bytes)

  -- the buffer, once the records are moved and the header and the directory written
  image-put : p.count ≤ length lengths → start ≤ body_at L p.count → length (image L Q) ≤ length before
      → sets (sets out (body_at L p.count) (take (p.at - start) (drop start out))) 0 (heading L (length Q.defs) Q.max_id p.count (take p.count lengths)) ≡ sets before 0 (image L Q)
  image-put h u k =
      let bytes = each (record_bytes L.id) (flatten_defs Q.defs) in
      let front = heading L (length Q.defs) Q.max_id p.count (take p.count lengths) in
      let n : p.at - start ≡ length bytes = omega (arith, e.bytes.ends) in
      let a : length (image L Q) ≡ length front + length bytes = ap length (image_is h) ∙ length-append front bytes in
      let b : body_at L p.count ≡ length front = omega (arith, a, image-size, n) in
      ap (λ (z : ℕ). sets (sets out z (take (p.at - start) (drop start out))) 0 front) b
      ∙ ap (λ (z : ℕ). sets (sets out (length front) (take z (drop start out))) 0 front) n
      ∙ ap (λ (z : List ℕ). sets (sets z (length front) (take (length bytes) (drop start z))) 0 front) e.bytes.holds
      ∙ completed before start front bytes (omega (arith, u, b)) (omega (arith, a, k))
      ∙ ap (λ (z : List ℕ). sets before 0 z) (sym (image_is h))

-- ── the answers ──

replies_cleared : (q : Refusal) {r : Answer} {before out out' : List ℕ} → length out ≡ length before → ((l : List ℕ) → after_refusal q l ≡ replicate (length l) 0)
    → Clears q r out out' → Replies (refuses q) r before out'
replies_cleared q {before = before} e h c = record { answers = c.answer; leaves = c.buffer ∙ ap (λ (z : ℕ). replicate z 0) e ∙ sym (h before) }

module _ {L : Layout} {d start : ℕ} {p : Progress} {lengths out out' : List ℕ} {r : Answer} where
  pub finishes_draws : 65535 < p.max_id → Clears Draws r out out' → Finishes L d start p lengths out out' r
  unfolding closing
  finishes_draws h c = record {
    replies = λ Q before lengths₀ m a b e.
        let n : leb Q.max_id 65535 ≡ false = lt-leb Q.max_id 65535 (omega (arith, h, b)) in
        rw n (replies_cleared Draws (puts-same e.bytes) (λ _. refl) c);
  }

  -- the image does not fit
  pub finishes-room : (n : ℕ) → n ≡ body_at L p.count + (p.at - start) → p.max_id ≤ 65535
      → leb n (length out) && leb n L.largest ≡ false → Clears Room r out out' → Finishes L d start p lengths out out' r
  unfolding closing
  finishes-room n w k h c = record {
    replies = λ Q before lengths₀ m a b e.
        let s = puts-same e.bytes in
        let y : leb Q.max_id 65535 ≡ true = le-leb Q.max_id 65535 (omega (arith, k, b)) in
        let z : leb (length (image L Q)) (length before) && leb (length (image L Q)) L.largest ≡ false = rw (image-size L Q e, ← w, ← s) h in
        rw (y, z) (replies_cleared Room s (λ _. refl) c);
  }

  pub finishes-image : (n : ℕ) → n ≡ body_at L p.count + (p.at - start) → p.max_id ≤ 65535 → n ≤ length out → n ≤ L.largest → Finishable L lengths d start p
      → out' ≡ sets (sets out (body_at L p.count) (take (p.at - start) (drop start out))) 0 (heading L d p.max_id p.count (take p.count lengths))
      → r ≡ Ok (record { length = n; max_id = p.max_id }) → Finishes L d start p lengths out out' r
  unfolding closing
  finishes-image n w k h g f c t = record {
    replies = λ Q before lengths₀ m a b e.
        let s = puts-same e.bytes in
        let i : length (image L Q) ≡ n = image-size L Q e ∙ sym w in
        let y : leb Q.max_id 65535 ≡ true = le-leb Q.max_id 65535 (omega (arith, k, b)) in
        let z : leb (length (image L Q)) (length before) ≡ true = le-leb (length (image L Q)) (length before) (omega (arith, h, i, s)) in
        let z' : leb (length (image L Q)) L.largest ≡ true = le-leb (length (image L Q)) L.largest (omega (arith, g, i)) in
        rw (y, z, z') (record {
          answers = t ∙ (λ j. Ok (record { length = sym i j; max_id = sym b j }));
          leaves = c
              ∙ ap (λ (x : ℕ). sets moved 0 (heading L x p.max_id p.count (take p.count lengths))) (sym a)
              ∙ ap (λ (x : ℕ). sets moved 0 (heading L (length Q.defs) x p.count (take p.count lengths))) (sym b)
              ∙ image-put L Q e f.noted f.up (omega (arith, h, i, s));
        });
  }
    where
      moved : List ℕ
      moved = sets out (body_at L p.count) (take (p.at - start) (drop start out))
