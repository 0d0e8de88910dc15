-- What comes before the clauses of a Create, and what comes once they are done. Assumes nothing.
use Prim.Native.Nat.{ℕ, ◌+◌, ◌*◌, ◌≤◌}
use mathlib.Core.Path.{◌≡◌, ap, ap₂, ◌∙◌, subst}
use mathlib.Core.Bool.{Bool, true, false, cond}
use mathlib.Core.List.{List, [], ◌∷◌, ◌++◌}
use mathlib.Core.Option.{Option, some}
use native.Mathlib.Omega.{arith}
use native.Mathlib.Nat.{mul-le-mul}
use lib.ListN.{length, length-append, length-take}
use Rattle.syntax.specs.Context.{Context, ids, same_context}
use Rattle.syntax.specs.Arrays.{context_of, set_of, Holds, SetHolds, Freshens}
use Rattle.syntax.specs.declared.sets.IdSet.{IdSet}
use Rattle.syntax.specs.declared.context.Freshened.{Freshened}
use Rattle.syntax.specs.declared.context.Chirality.TheVariants.{Cns}
use Rattle.model.specs.Rules.{bind, freshen_unless_lem}
use Rattle.syntax.specs.declared.names.VarId.{VarId}
use Rattle.syntax.specs.declared.names.Identifier.{Identifier}
use Rattle.syntax.specs.declared.context.TypingContext.{TypingContext}
use Rattle.syntax.specs.declared.types.Ty.{Ty}
use Rattle.syntax.specs.Sets.{elem}
use Rattle.syntax.proofs.Permutations.{perm_sym}
use Rattle.image_spec.specs.Kinds.{kind_of, clauses_of, fixed}
use Rattle.image_spec.specs.Records.{Record, create, record_bytes}
use Rattle.image_write_parts.specs.Puts.{Puts}
use Rattle.image_write_directory.specs.Emitting.{Noted, Progress}
use Rattle.image_read_nodes.specs.Nodes.{first_of}
use Rattle.pass_records.proofs.MadeLaws.{parts_of, made_of}
use Rattle.pass_work_spec.specs.Work.{Work, bindings, kept, moved_behind, own, respelled_unless}
use Rattle.pass_work_spec.specs.declared.Entry.{Entry}
use Rattle.pass_work_spec.proofs.Lists.{in_perm, filtered-same}
use Rattle.pass_work_spec.proofs.Entries.{moved_behind_perm}
use Rattle.pass_work_spec.proofs.Lengths.{moved_length, respelled-fewer}
use Rattle.pass_context.specs.Holding.{entries_in, work_of, HoldsWork}
use Rattle.pass_entries.specs.Masks.{in_mask, kept_by_mask}
use Rattle.pass_context.specs.declared.Held.{Held}
use Rattle.pass_entries.proofs.MaskLaws.{mask_fewer}
use Rattle.pass_step_spec.specs.Steps.{environment, arranged, step_create}
use Rattle.pass_step_spec.specs.Fronts.{wanted, right_of, front_records, front_bytes, pairs_size, tail_size}
use Rattle.pass_step.specs.Drawn.{drawn_to}
use Rattle.pass_step.specs.Stepping.{Says, Reserves, OpensAs, OpenedAs, Arranges, StepsAs, Opened, Stepped}
use Rattle.pass_step.proofs.StepLaws.{kept-says, arranged_then, emits_as}
use Rattle.pass_step.proofs.OpenLaws.{bindings-count}

-- what the mask retains of the context with some moved behind
moved-says : {mask : ℕ} {s : List VarId} {W : Work} (j : ℕ) → Says mask s W → kept_by_mask mask (moved_behind j W) ≡ kept s (moved_behind j W)
moved-says {mask} {s} {W} j a = filtered-same (in_mask mask) (λ (e : Entry). elem e.source s) (moved_behind j W) (λ e h. a.says e (in_perm (perm_sym (moved_behind_perm j W)) h))

-- the list of bindings takes few bytes
pub bindings-most : (k w : ℕ) → k ≤ 64 → w ≤ 8 → k * (6 + (w + w)) ≤ 1408
bindings-most k w h v = let b : 6 + (w + w) ≤ 22 = omega arith in mul-le-mul h b

-- a record of kind 6 is a Create
pub record IsCreate (r : Record) : Type 0 where
  pub var : Identifier
  pub ty : Ty
  pub environment : Option Context
  pub clauses : ℕ
  pub is : r ≡ create var ty environment clauses

pub is_create_lem : (r : Record) → kind_of r ≡ 6 → IsCreate r
is_create_lem r k = record { var = first_of r; ty = (parts_of r).ty; environment = (parts_of r).environment; clauses = clauses_of r; is = made_of r 6 k }

-- ── how many there are ──

pub respelled-few : (right : Bool) (new ren : Held) (T : Context) → HoldsWork ren (respelled_unless right (work_of new) T) → ren.len ≤ new.len
unfolding respelled_unless
respelled-few true new ren T n = omega (arith, n.count, length-take new.len (entries_in new))
respelled-few false new ren T n = omega (arith, n.count, respelled-fewer (work_of new) T, length-take new.len (entries_in new))

-- ── the place ──

pub create-opens : {w : ℕ} {record' : Record} (var : Identifier) (ty : Ty) (env : Option Context) (clauses : ℕ) {maskClauses maskNext : ℕ} {W : Work} {p : Progress} {r : Opened} {new : Held} {own : ℕ}
    → record' ≡ create var ty env clauses → HoldsWork new (kept_by_mask maskNext W) → HoldsWork r.context (kept_by_mask maskClauses (moved_behind new.len W))
    → r.right ≡ same_context (bindings W) (bindings (work_of new) ++ bindings (work_of r.context)) → own ≡ fixed w 6
    → Reserves r.right (new.len + r.context.len) (own + (3 + r.context.len * (6 + (w + w)))) w p r.progress
    → OpensAs w record' maskClauses maskNext W p r
unfolding front_bytes front_records right_of wanted tail_size environment
create-opens {w} {record'} var ty env clauses {maskClauses} {maskNext} {W} {p} {r} {new} {own} e h k b o a =
    rw e record {
      opens = λ fc fn s y.
          let N = kept fn W in
          let E = kept fc (moved_behind (length N) W) in
          let g : kept_by_mask maskNext W ≡ N = kept-says y in
          let j : new.len ≡ length N = h.count ∙ ap length g in
          let u : kept_by_mask maskClauses (moved_behind new.len W) ≡ E = moved-says new.len s ∙ ap (λ (i : ℕ). kept fc (moved_behind i W)) j in
          let A : work_of new ≡ N = h.list ∙ g in
          let X : work_of r.context ≡ E = k.list ∙ u in
          let q : r.right ≡ same_context (bindings W) (bindings N ++ bindings E) = cc (b, A, X) in
          let xe : r.context.len ≡ length E = k.count ∙ ap length u in
          let n : new.len + r.context.len ≡ length (bindings N ++ bindings E) =
          omega (arith, bindings-count new, bindings-count r.context, ap (λ (i : Work). length (bindings i)) A, ap (λ (i : Work). length (bindings i)) X, length-append (bindings N) (bindings E)) in
          let R = same_context (bindings W) (bindings N ++ bindings E) in
          record {
            context = subst (HoldsWork r.context) u k;
            right = q;
            at = a.at ∙ (ap (λ (t : Bool). p.at + (cond t 0 (1 + pairs_size w (new.len + r.context.len)) + (own + (3 + r.context.len * (6 + (w + w)))))) q
                ∙ (ap₂ (λ (t t' : ℕ). p.at + (cond R 0 (1 + pairs_size w t) + (t' + (3 + r.context.len * (6 + (w + w)))))) n o
                ∙ (ap (λ (t : ℕ). p.at + (cond R 0 (1 + pairs_size w (length (bindings N ++ bindings E))) + (fixed w 6 + (3 + t * (6 + (w + w)))))) xe
                ∙ ap (λ (t : ℕ). p.at + (cond R 0 (1 + pairs_size w (length (bindings N ++ bindings E))) + (fixed w 6 + t))) (same-tail (length E * (6 + (w + w)))))));
            count = a.count ∙ ap (λ (t : Bool). p.count + cond t 1 2) q;
            max_id = a.max_id;
          };
    }
  where
    same-tail : (t : ℕ) → 3 + t ≡ 1 + (1 + t + 1)
    same-tail t = omega arith

-- ── the clauses are done ──

pub create-steps : {w : ℕ} {record' : Record} (var : Identifier) (ty : Ty) (env : Option Context) (clauses : ℕ) {maskClauses maskNext : ℕ} {W : Work} {n : ℕ} {out mid out' lengths middle lengths' : List ℕ}
    {p q written : Progress} {place : ℕ} {o : Opened} {r : Stepped} {new ren : Held} {c x : TypingContext} {clashes : IdSet} {f : Freshened}
    → record' ≡ create var ty env clauses → OpenedAs record' maskClauses maskNext W o → HoldsWork new (kept_by_mask maskNext W)
    → Holds c (bindings (work_of new)) → Holds x (bindings (work_of o.context)) → SetHolds clashes (ids (bindings (work_of o.context)))
    → Freshens f (freshen_unless_lem o.right (context_of c) (set_of clashes) p.max_id)
    → Arranges w out mid lengths middle p q (arranged o.right (context_of f.context ++ bindings (work_of o.context)) (context_of c ++ bindings (work_of o.context)))
    → Puts mid out' q.at place (record_bytes w (create var ty (some (context_of x)) clauses)) → Noted written q place middle lengths'
    → HoldsWork ren (respelled_unless o.right (work_of new) (context_of f.context)) → HoldsWork r.context (work_of ren ++ (own n (bind var Cns ty) ∷ [])) → r.in_scope ≡ n + 1
    → r.progress ≡ drawn_to written f.max_id.0 → StepsAs w record' maskClauses maskNext W n out out' lengths lengths' p r
unfolding step_create right_of wanted
create-steps {w} {record'} var ty env clauses {maskClauses} {maskNext} {W} {n} {out} {mid} {out'} {lengths} {middle} {lengths'} {p} {q} {written} {place} {o} {r} {new} {ren} {c} {x} {clashes} {f} e k h d z s v a u m j t y i =
    rw e record {
      steps = λ fc fn sc sn.
          let opened = subst (λ (b : Record). OpenedAs b maskClauses maskNext W o) e k in
          let N = kept fn W in
          let E = environment fc fn W in
          let g : work_of new ≡ N = h.list ∙ kept-says sn in
          let A : context_of c ≡ bindings N = d.list ∙ ap bindings g in
          let B : work_of o.context ≡ E = (opened.context fc fn sc sn).list in
          let X : context_of x ≡ bindings E = z.list ∙ ap bindings B in
          let C : set_of clashes ≡ ids (bindings E) = s.list ∙ ap (λ (b : Work). ids (bindings b)) B in
          let R = same_context (bindings W) (bindings N ++ bindings E) in
          let right : o.right ≡ R = opened.right fc fn sc sn in
          let F = freshen_unless_lem R (bindings N) (ids (bindings E)) p.max_id in
          let fl : context_of f.context ≡ F.0 = cc (v.holds.list, right, A, C) in
          let front : arranged o.right (context_of f.context ++ bindings (work_of o.context)) (context_of c ++ bindings (work_of o.context)) ++ (create var ty (some (context_of x)) clauses ∷ [])
          ≡ arranged R (F.0 ++ bindings E) (bindings N ++ bindings E) ++ (create var ty (some (bindings E)) clauses ∷ []) = cc (right, fl, A, B, X) in
          let ctx : work_of ren ≡ respelled_unless R N F.0 = cc (j.list, right, g, fl) in
          let max : f.max_id.0 ≡ F.1 = cc (v.max, right, A, C) in
          record {
            emits = emits_as front (ap (λ (b : Progress). b.at) i) (ap (λ (b : Progress). b.count) i) (arranged_then (create var ty (some (context_of x)) clauses) a u m);
            context = subst (λ (b : Work). HoldsWork r.context (b ++ (own n (bind var Cns ty) ∷ []))) ctx t;
            in_scope_lem = y;
            max_id = ap (λ (b : Progress). b.max_id) i ∙ max;
          };
    }
