-- A Substitute where the context differs from the wanted list: its bytes, and what is written. (Its pairs: PairLaws.antt.) Assumes nothing.
use Prim.Native.Nat.{ℕ, ◌+◌, ◌*◌, ◌≤◌, ◌<◌}
use mathlib.Core.Path.{◌≡◌, refl, sym, ap, ap₂, ◌∙◌, subst}
use mathlib.Core.Bool.{Bool, true, false}
use mathlib.Core.List.{List, [], ◌∷◌, map}
use native.Mathlib.Omega.{arith}
use lib.ListN.{length, take, get_or, length-append, length-map, length-take}
use Rattle.std.proofs.lemmas.List.{length-take-le}
use Rattle.syntax.proofs.Flats.{seen_at}
use Rattle.syntax.specs.Context.{Context, vars}
use Rattle.syntax.specs.declared.names.Identifier.{Identifier}
use Rattle.syntax.specs.declared.context.ContextBinding.{ContextBinding}
use Rattle.model.specs.Lists.{zip}
use Rattle.image_spec.specs.Parse.{each}
use Rattle.image_spec.specs.Fields.{pair_bytes}
use Rattle.image_spec.specs.Records.{Record, substitute, record_bytes}
use Rattle.image_write_parts.specs.Puts.{Puts}
use Rattle.image_write_parts.proofs.Putting.{puts_as, puts_then}
use Rattle.image_write_parts.proofs.Writing.{Written, written_next, each_map}
use Rattle.image_write_records.proofs.Writing.{stored_bytes}
use Rattle.image_spec.proofs.FieldLaws.{pair-length}
use Rattle.image_write_directory.specs.Emitting.{Noted, Progress}
use Rattle.image_write_directory.proofs.EmitLaws.{emits_none, emits_one}
use Rattle.syntax_substitution.specs.Pairs.{pair_of, parts_of, pairs_in, pairs_of, HoldsPairs, empty_pair, empty_flat_pair}
use Rattle.syntax_substitution.proofs.Pairing.{Zipped, zipped-done}
use Rattle.syntax_substitution.specs.declared.FlatPair.{FlatPair}
use Rattle.syntax_substitution.specs.declared.Substitution.{Substitution}
use Rattle.pass_step_spec.specs.Steps.{arranged}
use Rattle.pass_step.specs.Stepping.{Arranges}

-- a Substitute is short
pairs-short : (w : ℕ) (ps : List (ContextBinding × Identifier)) → w ≤ 8 → length (each (pair_bytes w) ps) ≤ 32 * length ps
pairs-short w [] h = omega arith
pairs-short w (p ∷ ps) h = omega (arith, length-append (pair_bytes w p) (each (pair_bytes w) ps), pair-length w p, pairs-short w ps h, h)

pub substitute-short : (w : ℕ) (ps : List (ContextBinding × Identifier)) → w ≤ 8 → length ps ≤ 128 → length (record_bytes w (substitute ps)) ≤ 4098
unfolding record_bytes
substitute-short w ps h k = omega (arith, pairs-short w ps h, k)

-- ── what is written ──

-- one pair more is written
pub written-pair : (w : ℕ) (l : List FlatPair) {before after next : List ℕ} {at here m j : ℕ} → w ≤ 8 → j < length l → Puts after next here m (pair_bytes w (parts_of (pair_of (get_or l j empty_flat_pair))))
    → Written (stored_bytes w) 32 (map pair_of l) before at after here j → Written (stored_bytes w) 32 (map pair_of l) before at next m (j + 1)
written-pair w l {j = j} h k q p =
    let n = pair-length w (parts_of (get_or (map pair_of l) j empty_pair)) in
    written_next (stored_bytes w) empty_pair (rw (length-map l pair_of) k) (omega (arith, n, h)) (puts_as (ap (stored_bytes w) (seen_at pair_of l j empty_flat_pair)) q) p

-- the kind and the count, then each pair: the record of a substitution
pub puts_record : (w : ℕ) {a b c : List ℕ} {at k m : ℕ} (s : Substitution) → Puts a b at k (2 ∷ (s.len ∷ []))
    → Puts b c k m (each (stored_bytes w) (take s.len (pairs_in s))) → Puts a c at m (record_bytes w (substitute (pairs_of s)))
unfolding record_bytes
puts_record w s p q =
    let h : s.len ≤ length (pairs_in s) = omega (arith, length-map s.pairs pair_of, s.size, s.fits) in
    let l : length (pairs_of s) ≡ s.len = length-map (take s.len (pairs_in s)) parts_of ∙ length-take-le s.len (pairs_in s) h in
    puts_as (ap (λ (n : ℕ). 2 ∷ (n ∷ each (pair_bytes w) (pairs_of s))) (sym l))
    (puts_then {xs = 2 ∷ (s.len ∷ [])} p (rw (each_map (pair_bytes w) parts_of (take s.len (pairs_in s))) q))

-- the record of a substitution's pairs
puts-pairs : {w : ℕ} {out out' lengths lengths' : List ℕ} {p q : Progress} {next : ℕ} (s : Substitution) → w ≤ 8
    → Puts out out' p.at next (record_bytes w (substitute (pairs_of s))) → Noted q p next lengths lengths' → Arranges w out out' lengths lengths' p q (substitute (pairs_of s) ∷ [])
puts-pairs {w} s h a n =
    let m : length (pairs_of s) ≤ 128 = rw (length-map (take s.len (pairs_in s)) parts_of, length-take) (omega (arith, s.fits)) in
    record {
      emits = emits_one (substitute (pairs_of s)) a n;
      max_id = n.max_id;
      near = omega (arith, n.at, a.ends, substitute-short w (pairs_of s) h m);
      few = omega (arith, n.puts.ends);
    }

-- nothing where the context is right, the pairs' record where it is not
pub arranges_nothing : {w : ℕ} {out lengths : List ℕ} {p : Progress} {right : Bool} (T W : Context) → right ≡ true → Arranges w out out lengths lengths p p (arranged right T W)
unfolding arranged
arranges_nothing {w} {out} {lengths} {p} T W e = rw e record { emits = emits_none w out lengths p; max_id = refl; near = omega arith; few = omega arith }

arranges_pairs : {w : ℕ} {out out' lengths lengths' : List ℕ} {p q : Progress} {right : Bool} (T W : Context) {s : Substitution} → right ≡ false → HoldsPairs s (zip T (vars W))
    → Arranges w out out' lengths lengths' p q (substitute (pairs_of s) ∷ []) → Arranges w out out' lengths lengths' p q (arranged right T W)
unfolding arranged
arranges_pairs {w} {out} {out'} {lengths} {lengths'} {p} {q} T W e h a = rw e (subst (λ z. Arranges w out out' lengths lengths' p q (substitute z ∷ [])) h.list a)

-- the pairs of T with the variables of W were stored, and then written
pub arranges_written : (w : ℕ) (T W : Context) (s : Substitution) {out out' lengths lengths' : List ℕ} {p q : Progress} {right : Bool} {m i : ℕ} → w ≤ 8 → right ≡ false
    → s.len ≡ length T → s.len ≤ i → Zipped T W s.pairs i → Puts out out' p.at m (record_bytes w (substitute (pairs_of s)))
    → Noted q p m lengths lengths' → Arranges w out out' lengths lengths' p q (arranged right T W)
arranges_written w T W s h e c d z a y = arranges_pairs T W e (zipped-done {s = s} c d z) (puts-pairs s h a y)

-- the same targets and the same wanted list, put together in another way
pub arranges_as : {w : ℕ} {out out' lengths lengths' : List ℕ} {p q : Progress} (right : Bool) {T T' R R' : Context} → T ≡ T' → R ≡ R'
    → Arranges w out out' lengths lengths' p q (arranged right T R) → Arranges w out out' lengths lengths' p q (arranged right T' R')
arranges_as {w} {out} {out'} {lengths} {lengths'} {p} {q} right e f x = subst (λ (z : List Record). Arranges w out out' lengths lengths' p q z) (ap₂ (arranged right) e f) x
