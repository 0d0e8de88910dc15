-- The directory as the loop writes it: what is still to come, and how it becomes the whole. Assumes nothing.
use Prim.Native.Nat.{ℕ, ◌+◌, ◌-◌, ◌*◌, ◌≤◌, ◌<◌, ◌^◌}
use mathlib.Core.Path.{◌≡◌, sym, ap}
use mathlib.Core.List.{List}
use native.Mathlib.Omega.{arith}
use lib.ListN.{length, drop, get_or, drop_of_length-le}
use Rattle.std.proofs.lemmas.List.{drop_more}
use Rattle.image_spec.specs.Parse.{each, field}
use Rattle.image_spec.specs.Image.{entry_bytes}
use Rattle.image_write_parts.specs.Puts.{Puts}
use Rattle.image_write_parts.proofs.Putting.{puts_none, puts_as, puts_then}
use Rattle.image_write_directory.specs.Emitting.{entries_from, total}

-- before the i-th pair: the next record begins at `place`, and writing goes on at `here`
pub record DirectoryLeft (w : ℕ) (sizes : List ℕ) (out₀ : List ℕ) (at start : ℕ) (out : List ℕ) (place here i : ℕ) : Type 0 where
  pub fits : place + total (drop i sizes) < 2 ^ 32
  pub far : here + 16 * (length sizes - i) < 2 ^ 64
  pub ends : (o : List ℕ) (k : ℕ) → Puts out o here k (each (entry_bytes w) (entries_from place (drop i sizes))) → Puts out₀ o at k (each (entry_bytes w) (entries_from start sizes))

pub directory_begins : (w : ℕ) (sizes : List ℕ) (out : List ℕ) (at start : ℕ) → start + total sizes < 2 ^ 32 → at + 16 * length sizes < 2 ^ 64 → DirectoryLeft w sizes out at start out start at 0
directory_begins w sizes out at start h k = record { fits = h; far = omega arith; ends = λ o m p. p }

module _ {w : ℕ} {sizes : List ℕ} {out₀ : List ℕ} {at start : ℕ} {out : List ℕ} {place here i : ℕ} (d : DirectoryLeft w sizes out₀ at start out place here i) where
  pub directory_next : {mid out' : List ℕ} {next here' : ℕ} → i < length sizes → w ≤ 8
      → length (field w place) ≡ w → length (field w (get_or sizes i 0)) ≡ w → Puts out mid here next (field w place) → Puts mid out' next here' (field w (get_or sizes i 0))
      → DirectoryLeft w sizes out₀ at start out' (place + get_or sizes i 0) here' (i + 1)
  directory_next h v f g p q =
      record {
        fits = omega (arith, d.fits, ap total (drop_more sizes i 0 h));
        far = omega (arith, d.far, p.ends, q.ends);
        ends = λ o m r. d.ends o m (puts_as (ap (λ (z : List ℕ). each (entry_bytes w) (entries_from place z)) (sym (drop_more sizes i 0 h))) (puts_then (puts_then p q) r));
      }

  pub directory_ends : length sizes ≤ i → Puts out₀ out at here (each (entry_bytes w) (entries_from start sizes))
  directory_ends h = d.ends out here (puts_as (ap (λ (z : List ℕ). each (entry_bytes w) (entries_from place z)) (sym (drop_of_length-le sizes h))) (puts_none out here))
