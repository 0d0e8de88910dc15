-- A step that leaves the context is a step to the same context (`leaves_stay`), and what was opened for a Switch does not depend on its bodies
-- (`switch-opened`). Assumes nothing.
use Prim.Native.Nat.{ℕ}
use mathlib.Core.Path.{◌≡◌, refl, sym, ap, ◌∙◌, subst}
use mathlib.Core.List.{List, [], ◌∷◌}
use native.Mathlib.Omega.{arith}
use lib.ListN.{length}
use Rattle.syntax.specs.declared.names.VarId.{VarId}
use Rattle.image_spec.specs.Records.{Record, definition, substitute, call, let', switch, create, invoke, literal, op, ifc, clause', print, exit}
use Rattle.image_spec.specs.Kinds.{kind_of}
use Rattle.image_directory.specs.declared.Frame.{Frame}
use Rattle.image_write_directory.specs.Emitting.{Progress}
use Rattle.image_places_spec.specs.Views.{binders}
use Rattle.image_read_parts.specs.Indexed.{record_at, At}
use Rattle.pass_records.proofs.ListPlaces.{at-made}
use Rattle.pass_work_spec.specs.Work.{Work}
use Rattle.pass_context.specs.Holding.{work_of}
use Rattle.pass_context.proofs.Counts.{work-count}
use Rattle.pass_context.specs.declared.Held.{Held}
use Rattle.pass_step_spec.specs.Steps.{Step, step_of, step_other, step_call_lem, step_switch, step_invoke, step_if_c, step_exit}
use Rattle.pass_step_spec.specs.Fronts.{wanted, right_of}
use Rattle.pass_step.specs.Stepping.{Says, StepsAs, LeavesAs, OpenedAs, Stepped, Opened}

-- this context, and this count of variables in scope
record Stays (x : Step) (W : Work) (n : ℕ) : Type 0 where
  context : x.context ≡ W
  in_scope_lem : x.in_scope_lem ≡ n

something_binds : {x : VarId} → (x ∷ []) ≡ [] → ⊥
something_binds e = omega (arith, ap length e)

-- where nothing is bound the bodies have the context as it is, but for a PrintI64, which drops what its next does not need
none_bound : (r : Record) (fc fn : List VarId) (W : Work) (n m : ℕ) → binders r ≡ [] → (kind_of r ≡ 12 → ⊥) → Stays (step_of r fc fn W n m) W n
unfolding step_other step_call_lem step_switch step_invoke step_if_c step_exit
none_bound (definition x Γ) fc fn W n m e o = record { context = refl; in_scope_lem = refl }
none_bound (substitute ps) fc fn W n m e o = record { context = refl; in_scope_lem = refl }
none_bound (call label args) fc fn W n m e o = record { context = refl; in_scope_lem = refl }
none_bound (let' var ty tag args) fc fn W n m e o = absurd (something_binds e)
none_bound (switch var ty clauses) fc fn W n m e o = record { context = refl; in_scope_lem = refl }
none_bound (create var ty env clauses) fc fn W n m e o = absurd (something_binds e)
none_bound (invoke var tag ty args) fc fn W n m e o = record { context = refl; in_scope_lem = refl }
none_bound (literal lit var) fc fn W n m e o = absurd (something_binds e)
none_bound (op fst operator snd var) fc fn W n m e o = absurd (something_binds e)
none_bound (ifc sort fst snd) fc fn W n m e o = record { context = refl; in_scope_lem = refl }
none_bound (clause' x Γ) fc fn W n m e o = record { context = refl; in_scope_lem = refl }
none_bound (print newline var) fc fn W n m e o = absurd (o refl)
none_bound (exit var) fc fn W n m e o = record { context = refl; in_scope_lem = refl }

-- the same step, with the context that there was
abbrev pub stayed : Held → ℕ → Progress → Stepped
stayed held n q = record { context = held; in_scope = n; progress = q }

pub leaves_stay : {w : ℕ} {r : Record} {clauses next n : ℕ} {out out' lengths lengths' : List ℕ} {p q : Progress} (held : Held) → binders r ≡ [] → (kind_of r ≡ 12 → ⊥)
    → LeavesAs w r clauses next (work_of held) n out out' lengths lengths' p q → StepsAs w r clauses next (work_of held) n out out' lengths lengths' p (stayed held n q)
leaves_stay {r = r} {n = n} {p = p} held e o h = record {
  steps = λ fc fn x y.
      let l = h.leaves fc fn x y in
      let z = none_bound r fc fn (work_of held) n p.max_id e o in
      record { emits = l.emits; context = record { count = work-count held ∙ ap length (sym z.context); list = sym z.context }; in_scope_lem = sym z.in_scope_lem; max_id = l.max_id };
}

-- ── what was opened ──

-- what was opened for a Switch is the same whatever its bodies need: it has none
switch-sees : {v t n clauses next W r : _} (fn : List VarId) → Says next fn W → OpenedAs (switch v t n) clauses next W r → OpenedAs (switch v t n) clauses 0 W r
unfolding right_of wanted
switch-sees fn y h = record { context = λ fc _ x _. h.context fc fn x y; right = λ fc _ x _. h.right fc fn x y }

pub switch-opened : {g : Frame} {s : List ℕ} {i clauses next : ℕ} {W : Work} {r : Opened} (fn : List VarId) → At g s i 5 → Says next fn W
    → OpenedAs (record_at g s i) clauses next W r → OpenedAs (record_at g s i) clauses 0 W r
switch-opened {clauses = clauses} {next} {W} {r} fn a y h =
    let d = at-made 5 a in
    subst (λ (x : Record). OpenedAs x clauses 0 W r) (sym d) (switch-sees fn y (subst (λ (x : Record). OpenedAs x clauses next W r) d h))
