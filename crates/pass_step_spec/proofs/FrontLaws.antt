-- What a step writes before the clauses: `front-form`, and how much it is: `front-records`, `front-bytes`. Assumes nothing.
use Prim.Native.Nat.{ℕ, suc, ◌+◌, ◌*◌}
use native.Mathlib.Nat.{suc-mul, zero-mul}
use native.Mathlib.Omega.{arith}
use mathlib.Core.Path.{◌≡◌, refl, ap, sym, ◌∙◌}
use mathlib.Core.Bool.{Bool, true, false, cond}
use mathlib.Core.List.{List, [], ◌∷◌, ◌++◌}
use mathlib.Core.Option.{Option, none, some}
use lib.ListN.{length, length-append, length-map, length-drop}
use Rattle.syntax.specs.Context.{Context, id_of, ids, vars, same_context}
use Rattle.syntax.specs.declared.names.VarId.{VarId}
use Rattle.syntax.specs.declared.names.Identifier.{Identifier}
use Rattle.syntax.specs.declared.context.Chirality.TheVariants.{Prd, Cns}
use Rattle.syntax.specs.declared.context.ContextBinding.{ContextBinding}
use Rattle.syntax.proofs.Same.{same_context_self}
use Rattle.model.specs.Lists.{zip}
use Rattle.model.specs.Rules.{bind, freshen_unless_lem, fresh_var_unless}
use Rattle.model.proofs.Widths.{unless-length}
use Rattle.image_spec.specs.Parse.{each, mark}
use Rattle.image_spec.specs.Fields.{identifier_bytes, binding_bytes, list_bytes, pair_bytes}
use Rattle.image_spec.specs.Records.{Record, definition, substitute, call, let', switch, create, invoke, literal, op, ifc, clause', print, exit, record_bytes}
use Rattle.image_spec.specs.Kinds.{kind_of, fixed, tail_bytes}
use Rattle.image_spec.proofs.FieldLaws.{identifier-length, binding-length, pair-length}
use Rattle.image_spec.proofs.KindLaws.{tail_at, fixed_le}
use Rattle.pass_work_spec.specs.declared.Entry.{Entry}
use Rattle.pass_work_spec.specs.Work.{Work, bindings, used, used_option, used_binding_lem, used_all_lem, kept}
use Rattle.pass_step_spec.specs.Steps.{arranged, environment, step_of, step_call_lem, step_let, step_switch, step_create, step_invoke, step_literal, step_op}
use Rattle.pass_step_spec.specs.Steps.{step_if_c, step_print_i64, step_exit, step_other}
use Rattle.pass_step_spec.specs.Fronts.{wanted, right_of, front_records, list_size, pairs_size, option_size, tail_size, front_bytes}

-- ── bytes of records ──

-- values that are written in k bytes each
pub each-length : {A : Type 0} (e : A → List ℕ) (k : ℕ) → ((a : A) → length (e a) ≡ k) → (l : List A) → length (each e l) ≡ length l * k
each-length e k h [] = sym (zero-mul k)
each-length e k h (a ∷ l) = length-append (e a) (each e l) ∙ rw (h a, each-length e k h l, suc-mul) (omega arith)

module _ (w : ℕ) where
  pub list_length : (Γ : Context) → length (list_bytes w Γ) ≡ list_size w (length Γ)
  list_length Γ = omega (arith, each-length (binding_bytes w) (6 + (w + w)) (binding-length w) Γ)

  pub pairs-length : (ps : List (ContextBinding × Identifier)) → length (tail_bytes w (substitute ps)) ≡ pairs_size w (length ps)
  pairs-length ps = omega (arith, each-length (pair_bytes w) (8 + (w + (w + w))) (pair-length w) ps)

  option_length : (o : Option Identifier) → length (mark (identifier_bytes w) o) ≡ option_size w o
  option_length none = refl
  option_length (some x) = omega (arith, identifier-length w x)

  same_option : (W : Work) (o : Option Identifier) → option_size w (used_option W o) ≡ option_size w o
  same_option W none = refl
  same_option W (some x) = refl

  environment-length : (Γ : Context) (k : ℕ) → length (mark (list_bytes w) (some Γ) ++ (k ∷ [])) ≡ 1 + (list_size w (length Γ) + 1)
  environment-length Γ k = omega (arith, length-append (list_bytes w Γ) (k ∷ []), list_length Γ)

  -- a record is its fixed part and its tail
  pub record_length : (r : Record) → length (record_bytes w r) ≡ fixed w (kind_of r) + length (tail_bytes w r)
  record_length r = omega (arith, length-drop (fixed w (kind_of r)) (record_bytes w r), ap length (tail_at w r), fixed_le w r)

-- ── the front ──

-- a Substitute from the wanted list to as many targets, unless the context is right; then a record of the same kind
pub record Front (r : Record) (freeClauses freeNext : List VarId) (W : Work) (front : List Record) : Type 0 where
  pub targets : Context
  pub own : Record
  pub form : front ≡ arranged (right_of r freeClauses freeNext W) targets (wanted r freeClauses freeNext W) ++ (own ∷ [])
  pub count : length targets ≡ length (wanted r freeClauses freeNext W)
  pub kind : kind_of own ≡ kind_of r
  pub tail : (w : ℕ) → length (tail_bytes w own) ≡ tail_size w r freeClauses freeNext W

-- nothing is wanted
self_front : (W : Work) (r : Record) → r ∷ [] ≡ arranged (same_context (bindings W) (bindings W)) (bindings W) (bindings W) ++ (r ∷ [])
unfolding arranged
self_front W r = rw (same_context_self (bindings W))

pub front-form : (r : Record) (fc fn : List VarId) (W : Work) (n m : ℕ) → Front r fc fn W (step_of r fc fn W n m).front
unfolding step_call_lem step_let step_switch step_create step_invoke step_literal step_op step_if_c step_print_i64 step_exit step_other right_of wanted tail_size
front-form (definition x Γ) fc fn W n m = record { targets = bindings W; own = definition x Γ; form = self_front W _; count = refl; kind = refl; tail = λ w. list_length w Γ }
front-form (substitute ps) fc fn W n m = record { targets = bindings W; own = substitute ps; form = self_front W _; count = refl; kind = refl; tail = λ w. pairs-length w ps }
front-form (call label args) fc fn W n m = record { targets = _; own = _; form = refl; count = unless-length _ (used_all_lem W args) [] m; kind = refl; tail = λ w. list_length w [] }
front-form (let' var ty tag args) fc fn W n m =
    let new = bindings (kept fn W) in
    let args' = used_all_lem W args in
    let right = same_context (bindings W) (new ++ args') in
    let T = (freshen_unless_lem right args' (ids new) m).0 in
    let same : length T ≡ length args' = unless-length right args' (ids new) m in
    record {
      targets = new ++ T;
      own = let' var ty tag T;
      form = refl;
      count = omega (arith, length-append new T, length-append new args');
      kind = refl;
      tail = λ w. list_length w T ∙ ap (list_size w) (same ∙ length-map args (used_binding_lem W));
    }
front-form (switch var ty clauses) fc fn W n m =
    let new = bindings (kept fc W) in
    let xtor = bind (used W var) Prd ty in
    let xtor' = (fresh_var_unless (same_context (bindings W) (new ++ (xtor ∷ []))) xtor (ids new) m).0 in
    record {
      targets = new ++ (xtor' ∷ []);
      own = switch xtor'.var ty clauses;
      form = refl;
      count = omega (arith, length-append new (xtor' ∷ []), length-append new (xtor ∷ []));
      kind = refl;
      tail = λ w. refl;
    }
front-form (create var ty env₀ clauses) fc fn W n m =
    let new = bindings (kept fn W) in
    let env = bindings (environment fc fn W) in
    let right = same_context (bindings W) (new ++ env) in
    let T = (freshen_unless_lem right new (ids env) m).0 in
    record {
      targets = T ++ env;
      own = create var ty (some env) clauses;
      form = refl;
      count = omega (arith, length-append T env, length-append new env, unless-length right new (ids env) m);
      kind = refl;
      tail = λ w. environment-length w env clauses ∙ ap (λ (k : ℕ). 1 + (list_size w k + 1)) (length-map (environment fc fn W) (λ (e : Entry). e.binding));
    }
front-form (invoke var tag ty args) fc fn W n m =
    let closure = bind (used W var) Cns ty in
    let args' = used_all_lem W args in
    let right = same_context (bindings W) (args' ++ (closure ∷ [])) in
    let T = (freshen_unless_lem right args' (id_of closure ∷ []) m).0 in
    record {
      targets = T ++ (closure ∷ []);
      own = invoke (used W var) tag ty [];
      form = refl;
      count = omega (arith, length-append T (closure ∷ []), length-append args' (closure ∷ []), unless-length right args' (id_of closure ∷ []) m);
      kind = refl;
      tail = λ w. list_length w [];
    }
front-form (literal lit var) fc fn W n m = record { targets = bindings (kept fn W); own = literal lit var; form = refl; count = refl; kind = refl; tail = λ w. refl }
front-form (op fst o snd var) fc fn W n m =
    record {
      targets = bindings (kept (fst.id ∷ snd.id ∷ fn) W);
      own = op (used W fst) o (used W snd) var;
      form = refl;
      count = refl;
      kind = refl;
      tail = λ w. refl;
    }
front-form (ifc sort fst snd) fc fn W n m =
    record {
      targets = bindings W;
      own = ifc sort (used W fst) (used_option W snd);
      form = self_front W _;
      count = refl;
      kind = refl;
      tail = λ w. option_length w (used_option W snd) ∙ same_option w W snd;
    }
front-form (clause' x Γ) fc fn W n m = record { targets = bindings W; own = clause' x Γ; form = self_front W _; count = refl; kind = refl; tail = λ w. list_length w Γ }
front-form (print newline var) fc fn W n m = record { targets = bindings (kept (var.id ∷ fn) W); own = print newline (used W var); form = refl; count = refl; kind = refl; tail = λ w. refl }
front-form (exit var) fc fn W n m = record { targets = bindings W; own = exit (used W var); form = self_front W _; count = refl; kind = refl; tail = λ w. refl }

-- ── how much it is ──

-- as many pairs as are wanted
pub zip_length : (T Γ : Context) → length T ≡ length Γ → length (zip T (vars Γ)) ≡ length Γ
zip_length [] [] e = refl
zip_length [] (b ∷ Γ) e = absurd (omega arith)
zip_length (a ∷ T) [] e = absurd (omega arith)
zip_length (a ∷ T) (b ∷ Γ) e = ap suc (zip_length T Γ (omega arith))

arranged-records : (right : Bool) (T Γ : Context) (r : Record) → length (arranged right T Γ ++ (r ∷ [])) ≡ cond right 1 2
unfolding arranged
arranged-records true T Γ r = refl
arranged-records false T Γ r = refl

arranged-bytes : (w : ℕ) (right : Bool) (T Γ : Context) (r : Record) → length T ≡ length Γ
    → length (each (record_bytes w) (arranged right T Γ ++ (r ∷ []))) ≡ cond right 0 (1 + pairs_size w (length Γ)) + length (record_bytes w r)
unfolding arranged
arranged-bytes w true T Γ r e = omega (arith, length-append (record_bytes w r) [])
arranged-bytes w false T Γ r e =
    let ps = zip T (vars Γ) in
    let pairs : length (tail_bytes w (substitute ps)) ≡ pairs_size w (length Γ) = pairs-length w ps ∙ ap (pairs_size w) (zip_length T Γ e) in
    omega (arith, record_length w (substitute ps), length-append (record_bytes w (substitute ps)) (record_bytes w r ++ []), length-append (record_bytes w r) [])

module _ (r : Record) (fc fn : List VarId) (W : Work) (n m : ℕ) where
  -- the records before the clauses
  pub front-records : length (step_of r fc fn W n m).front ≡ front_records r fc fn W
  unfolding front_records
  front-records = let f = front-form r fc fn W n m in ap length f.form ∙ arranged-records (right_of r fc fn W) f.targets (wanted r fc fn W) f.own

  -- and their bytes
  pub front-bytes : (w : ℕ) → length (each (record_bytes w) (step_of r fc fn W n m).front) ≡ front_bytes w r fc fn W
  unfolding front_bytes
  front-bytes w =
      let f = front-form r fc fn W n m in
      ap (λ (l : List Record). length (each (record_bytes w) l)) f.form
      ∙ arranged-bytes w (right_of r fc fn W) f.targets (wanted r fc fn W) f.own f.count
      ∙ ap (λ (k : ℕ). cond (right_of r fc fn W) 0 (1 + pairs_size w (length (wanted r fc fn W))) + k) (record_length w f.own ∙ rw (f.kind, f.tail w))
