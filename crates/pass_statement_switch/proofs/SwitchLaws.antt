-- What comes before the clauses of a Switch, and what comes once they are done. Assumes nothing.
use Prim.Native.Nat.{ℕ, ◌+◌, ◌≤◌}
use mathlib.Core.Path.{◌≡◌, ap, ap₂, ◌∙◌, subst}
use mathlib.Core.Bool.{Bool, cond}
use mathlib.Core.List.{List, [], ◌∷◌, ◌++◌}
use native.Mathlib.Omega.{arith}
use lib.ListN.{length, length-append}
use Rattle.syntax.specs.Context.{ids, same_context}
use Rattle.syntax.specs.Arrays.{set_of, SetHolds}
use Rattle.syntax.specs.declared.sets.IdSet.{IdSet}
use Rattle.syntax.specs.declared.names.Identifier.{Identifier}
use Rattle.syntax.specs.declared.context.Chirality.TheVariants.{Prd}
use Rattle.syntax.specs.declared.context.ContextBinding.{ContextBinding}
use Rattle.syntax.specs.declared.types.Ty.{Ty}
use Rattle.model.specs.Rules.{bind, fresh_var_unless}
use Rattle.image_spec.specs.Kinds.{fixed}
use Rattle.image_spec.specs.Records.{Record, switch, record_bytes}
use Rattle.image_write_parts.specs.Puts.{Puts}
use Rattle.image_write_directory.specs.Emitting.{Noted, Progress}
use Rattle.pass_work_spec.specs.Work.{Work, bindings, kept, used}
use Rattle.pass_context.specs.Holding.{work_of, HoldsWork}
use Rattle.pass_entries.specs.Masks.{kept_by_mask}
use Rattle.pass_step_spec.specs.Fronts.{wanted, right_of, front_records, front_bytes, pairs_size, tail_size}
use Rattle.pass_step_spec.specs.Steps.{arranged, step_switch}
use Rattle.pass_step.specs.Drawn.{drawn_to}
use Rattle.pass_step.specs.Stepping.{Reserves, OpensAs, OpenedAs, Arranges, LeavesAs, Opened}
use Rattle.pass_statement_switch.specs.Drawing.{FreshVarIs}
use Rattle.pass_statement_switch.specs.declared.switch.FreshVar.{FreshVar}
use Rattle.pass_step.proofs.StepLaws.{kept-says, arranged_then, emits_as}
use Rattle.pass_step.proofs.OpenLaws.{bindings-count}

-- ── the place ──

pub switch-opens : {w : ℕ} {record' : Record} (var : Identifier) (ty : Ty) (clauses : ℕ) {mask next : ℕ} {W : Work} {p : Progress} {r : Opened} {x : ContextBinding} {own : ℕ}
    → record' ≡ switch var ty clauses → HoldsWork r.context (kept_by_mask mask W) → x ≡ bind (used W var) Prd ty
    → r.right ≡ same_context (bindings W) (bindings (work_of r.context) ++ (x ∷ [])) → own ≡ fixed w 5 → Reserves r.right (r.context.len + 1) (own + 1) w p r.progress → OpensAs w record' mask next W p r
unfolding front_bytes front_records right_of wanted tail_size
switch-opens {w} {record'} var ty clauses {mask} {next} {W} {p} {r} {x} {own} e h i b o a =
    rw e record {
      opens = λ fc fn s _.
          let g : kept_by_mask mask W ≡ kept fc W = kept-says s in
          let k : work_of r.context ≡ kept fc W = h.list ∙ g in
          let xtor = bind (used W var) Prd ty in
          let n : r.context.len + 1 ≡ length (bindings (kept fc W) ++ (xtor ∷ [])) = omega (arith, length-append (bindings (kept fc W)) (xtor ∷ []), bindings-count r.context, ap (λ (t : Work). length (bindings t)) k) in
          let q : r.right ≡ same_context (bindings W) (bindings (kept fc W) ++ (xtor ∷ [])) = cc (b, k, i) in
          record {
            context = subst (HoldsWork r.context) g h;
            right = q;
            at = a.at ∙ ap (λ (t : Bool). p.at + (cond t 0 (1 + pairs_size w (r.context.len + 1)) + (own + 1))) q
                ∙ ap₂ (λ (t u : ℕ). p.at + (cond (same_context (bindings W) (bindings (kept fc W) ++ (xtor ∷ []))) 0 (1 + pairs_size w t) + (u + 1))) n o;
            count = a.count ∙ ap (λ (t : Bool). p.count + cond t 1 2) q;
            max_id = a.max_id;
          };
    }

-- ── the clauses are done ──

pub switch_leaves : {w : ℕ} {record' : Record} (var : Identifier) (ty : Ty) (clauses : ℕ) {mask next : ℕ} {W : Work} {n : ℕ} {out mid out' lengths middle lengths' : List ℕ} {p q noted r : Progress} {place : ℕ} {o : Opened}
    {x : ContextBinding} {clashing : IdSet} {v : FreshVar}
    → record' ≡ switch var ty clauses → OpenedAs record' mask next W o → x ≡ bind (used W var) Prd ty → SetHolds clashing (ids (bindings (work_of o.context)))
    → FreshVarIs v (fresh_var_unless o.right x (set_of clashing) p.max_id)
    → Arranges w out mid lengths middle p q (arranged o.right (bindings (work_of o.context) ++ (v.binding ∷ [])) (bindings (work_of o.context) ++ (x ∷ [])))
    → Puts mid out' q.at place (record_bytes w (switch v.binding.var ty clauses)) → Noted noted q place middle lengths' → r ≡ drawn_to noted v.max_id
    → LeavesAs w record' mask next W n out out' lengths lengths' p r
unfolding step_switch right_of wanted
switch_leaves {w} {record'} var ty clauses {mask} {next} {W} {n} {out} {mid} {out'} {lengths} {middle} {lengths'} {p} {q} {noted} {r} {place} {o} {x} {clashing} {v} e h i s f a u m d =
    rw e record {
      leaves = λ fc fn y y'.
          let opened = subst (λ (j : Record). OpenedAs j mask next W o) e h in
          let xtor = bind (used W var) Prd ty in
          let N = kept fc W in
          let R = same_context (bindings W) (bindings N ++ (xtor ∷ [])) in
          let k : work_of o.context ≡ N = (opened.context fc fn y y').list in
          let right : o.right ≡ R = opened.right fc fn y y' in
          let F = fresh_var_unless R xtor (ids (bindings N)) p.max_id in
          let drawn : fresh_var_unless o.right x (set_of clashing) p.max_id ≡ F = cc (right, i, s.list, k) in
          let vb : v.binding ≡ F.0 = f.binding ∙ ap (λ (j : ContextBinding × ℕ). j.0) drawn in
          let front : arranged o.right (bindings (work_of o.context) ++ (v.binding ∷ [])) (bindings (work_of o.context) ++ (x ∷ [])) ++ (switch v.binding.var ty clauses ∷ [])
          ≡ arranged R (bindings N ++ (F.0 ∷ [])) (bindings N ++ (xtor ∷ [])) ++ (switch F.0.var ty clauses ∷ []) = cc (right, k, i, vb) in
          record {
            emits = emits_as front (ap (λ (j : Progress). j.at) d) (ap (λ (j : Progress). j.count) d) (arranged_then (switch v.binding.var ty clauses) a u m);
            max_id = ap (λ (j : Progress). j.max_id) d ∙ (f.max_id ∙ ap (λ (j : ContextBinding × ℕ). j.1) drawn);
          };
    }
