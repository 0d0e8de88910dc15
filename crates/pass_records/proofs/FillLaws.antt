-- A list of bindings that is read into an array, one after the other. Assumes nothing.
use Prim.Native.Nat.{ℕ, ◌+◌, ◌-◌, ◌*◌, ◌≤◌, ◌<◌}
use mathlib.Core.Path.{◌≡◌, refl, sym, ap, ◌∙◌, subst₂}
use mathlib.Core.List.{List, [], ◌∷◌, ◌++◌, append-nil, append_assoc}
use native.Mathlib.Omega.{arith}
use lib.ListN.{length, take, drop, get_or, set, length-set}
use Rattle.std.proofs.lemmas.List.{take_more_set}
use Rattle.syntax.specs.Context.{Context}
use Rattle.syntax.specs.Arrays.{bindings_in}
use Rattle.syntax.specs.declared.context.ContextBinding.{ContextBinding}
use Rattle.syntax.specs.declared.context.TypingContext.{TypingContext}
use Rattle.image_spec.specs.Parse.{Parser, got, each}
use Rattle.image_spec.specs.Fields.{binding_bytes, BindingOk}
use Rattle.image_spec.proofs.ParseLaws.{Exact}
use Rattle.image_spec.proofs.FieldLaws.{list_exact}
use Rattle.image_read_parts.specs.Standing.{Stands, ReadsAs}
use Rattle.image_read_parts.proofs.StandingLaws.{first_run}
use Rattle.image_read_nodes.proofs.ListLaws.{Run, list-run, run-next}
use Rattle.pass_records.specs.Unpacked.{ListAt, HoldsAt}

-- no two values stand at one place
pub alone : {A : Type 0} {e : A → List ℕ} {P : A → Type 0} {p : Parser ℕ A} {s : List ℕ} {at : ℕ} {a b : A} → Exact e P p → Stands e P s at a → Stands e P s at b → a ≡ b
alone {p = p} {s = s} {at = at} {a = a} {b = b} x h k =
    let c : p (drop at s) ≡ got a h.others = ap p h.bytes ∙ x.left a h.fits h.others in
    let d : p (drop at s) ≡ got b k.others = ap p k.bytes ∙ x.left b k.fits k.others in
    cc (c, d)

-- j of the n bindings of the list at `start` are in the array, and the others stand behind
pub record Filling (w : ℕ) (s : List ℕ) (start n j : ℕ) (l : Context) : Type 0 where
  pub list : ListAt w s start
  pub count : n ≡ length list.list
  pub within : j ≤ n
  pub size : length l ≡ 64
  pub rest : Context
  pub run : Run w s (start + (1 + j * (6 + (w + w)))) (n - j) rest
  pub same : list.list ≡ take j l ++ rest

module _ (w : ℕ) {s : List ℕ} {start n : ℕ} where
  pub filling_start : {l : Context} → ListAt w s start → n ≡ get_or s start 0 → length l ≡ 64 → Filling w s start n 0 l
  filling_start h e k =
      let t = list-run w h.stands in
      let m = e ∙ t.count in
      let o : start + 1 ≡ start + (1 + 0 * (6 + (w + w))) = omega arith in
      let z : length h.list ≡ n - 0 = omega arith in
      record {
        list = h;
        count = m;
        within = omega arith;
        size = k;
        rest = h.list;
        run = subst₂ (λ (p i : ℕ). Run w s p i h.list) o z t.run;
        same = refl;
      }

  -- there is one more
  pub filling_inside : {j : ℕ} {l : Context} → Filling w s start n j l → j < n → start + (1 + j * (6 + (w + w))) + (6 + (w + w)) ≤ length s
  filling_inside {j} f h = go f.rest f.run
    where
      go : (Γ : Context) → Run w s (start + (1 + j * (6 + (w + w)))) (n - j) Γ → start + (1 + j * (6 + (w + w))) + (6 + (w + w)) ≤ length s
      go [] r = absurd (omega (arith, r.count))
      go (b ∷ Γ) r = (run-next w b Γ r).inside

  pub filling_turn : {j : ℕ} {l : Context} {b : ContextBinding} → Filling w s start n j l → j < n → ReadsAs (binding_bytes w) (BindingOk w) s (start + (1 + j * (6 + (w + w)))) b
      → Filling w s start n (j + 1) (set l j b)
  filling_turn {j} {l} {b} f h d = go f.rest f.run f.same
    where
      go : (Γ : Context) → Run w s (start + (1 + j * (6 + (w + w)))) (n - j) Γ → f.list.list ≡ take j l ++ Γ → Filling w s start n (j + 1) (set l j b)
      go [] r q = absurd (omega (arith, r.count))
      go (a ∷ Γ) r q =
          let at = start + (1 + j * (6 + (w + w))) in
          let e : b ≡ a = d.is a (record { others = each (binding_bytes w) Γ ++ r.others; bytes = first_run s r.others at (binding_bytes w a) (each (binding_bytes w) Γ) r.bytes; fits = r.fits.0 }) in
          let m : n - j - 1 ≡ n - (j + 1) = omega arith in
          let o : at + (6 + (w + w)) ≡ start + (1 + (j + 1) * (6 + (w + w))) = omega arith in
          let k : j < length l = omega (arith, f.count, f.size, f.list.small) in
          record {
            list = f.list;
            count = f.count;
            within = omega arith;
            size = rw length-set f.size;
            rest = Γ;
            run = subst₂ (λ (p i : ℕ). Run w s p i Γ) o m (run-next w a Γ r).run;
            same = q ∙ (ap (λ (x : ContextBinding). take j l ++ (x ∷ Γ)) (sym e) ∙ (sym (append_assoc (take j l) (b ∷ []) Γ) ∙ ap (λ (x : Context). x ++ Γ) (sym (take_more_set l j b k))));
          }

  pub filling_end : {j : ℕ} {l : Context} {c : TypingContext} → Filling w s start n j l → n ≤ j → c.len ≡ n → bindings_in c ≡ l → HoldsAt w s start c
  filling_end {j} {l} {c} f h p q = go f.rest f.run f.same
    where
      go : (Γ : Context) → Run w s (start + (1 + j * (6 + (w + w)))) (n - j) Γ → f.list.list ≡ take j l ++ Γ → HoldsAt w s start c
      go [] r e =
          let i : c.len ≡ j = omega (arith, f.within, p) in
          let k : take c.len (bindings_in c) ≡ f.list.list = rw (i, q) (sym (e ∙ append-nil (take j l))) in
          record {
            is = λ Γ x.
                let o = alone (list_exact w) f.list.stands x in
                record { count = p ∙ (f.count ∙ ap length o); list = k ∙ o };
          }
      go (b ∷ Γ) r e = absurd (omega (arith, r.count))
