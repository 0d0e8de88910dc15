-- The choice by kind: the last kind of a choice, and which of the two sets a step looks at. A step that does not look at a set is
-- the same for every set, so its contract with the empty mask does for every mask. Assumes nothing.
use Prim.Native.Nat.{ℕ}
use mathlib.Core.Path.{◌≡◌, refl, sym, ap, ◌∙◌, subst}
use mathlib.Core.Bool.{Bool, true, false, ◌||◌, cond, false≢true}
use mathlib.Core.List.{List, [], ◌∷◌}
use native.Mathlib.Omega.{arith}
use borrow.Author.Tests.{eqb-true, ne_eqb}
use lib.Dec.{eqb}
use lib.ListN.{length, get_or}
use Rattle.syntax.specs.declared.names.VarId.{VarId}
use Rattle.image_directory.specs.declared.Frame.{Frame}
use Rattle.image_spec.specs.Records.{Record, definition, substitute, call, let', switch, create, invoke, literal, op, ifc, clause', print, exit}
use Rattle.image_spec.specs.Kinds.{kind_of}
use Rattle.image_write_directory.specs.Emitting.{Progress}
use Rattle.image_places_spec.specs.Views.{binders}
use Rattle.image_read_parts.specs.Indexed.{record_at}
use Rattle.pass_records.proofs.MadeLaws.{made, parts_of}
use Rattle.pass_records.proofs.ListPlaces.{at-made}
use Rattle.pass_work_spec.specs.Work.{Work}
use Rattle.pass_context.specs.declared.Held.{Held}
use Rattle.pass_entries.proofs.MaskLaws.{marked-past}
use Rattle.pass_step_spec.specs.Steps.{Step, step_of}
use Rattle.pass_step_spec.specs.Fronts.{wanted, right_of, front_records, front_bytes, tail_size}
use Rattle.pass_step.specs.Stepping.{Says, SourceAt, Workable, Steps, StepsAs, Leaves, LeavesAs, OpensAs, Stepped, Opened}
use Rattle.pass_step.proofs.StepLaws.{source_as}
use Rattle.pass_dispatch.specs.Choices.{Settles}

-- ── what a kind asks for ──

-- one of some kinds, and not the first
pub or_later : {kind : ℕ} (a : ℕ) {later : Bool} → (eqb kind a || later) ≡ true → (kind ≡ a → ⊥) → later ≡ true
or_later {kind} a {later} e x = sym (ap (λ (t : Bool). t || later) (ne_eqb kind a x)) ∙ e

-- one of four kinds, and none of the first three
pub last_of : {kind : ℕ} (a b c k : ℕ) → (eqb kind a || (eqb kind b || (eqb kind c || eqb kind k))) ≡ true → (kind ≡ a → ⊥) → (kind ≡ b → ⊥) → (kind ≡ c → ⊥) → kind ≡ k
last_of {kind} a b c k e x y z = eqb-true kind k (or_later c (or_later b (or_later a e x) y) z)

-- room for what the record binds is room for what a record of its kind binds
pub workable_as : {g : Frame} {s : List ℕ} {i kind : ℕ} {held : Held} {n : ℕ} (k : ℕ) → kind ≡ k → SourceAt g s i kind → Workable held n (length (binders (record_at g s i)))
    → Workable held n (length (binders (made (record_at g s i) (parts_of (record_at g s i)) k)))
workable_as {held = held} {n} k e a w = subst (λ (r : Record). Workable held n (length (binders r))) (at-made k (source_as k e a).at) w

-- ── which sets are looked at ──

-- does the step of a record of kind k look at the set of its clauses? A Switch's and a Create's do.
abbrev pub sees_clauses : ℕ → Bool
sees_clauses k = get_or (false ∷ false ∷ false ∷ false ∷ false ∷ true ∷ true ∷ []) k false

-- .. and at the set of its bodies? That of a Let, a Create, a Literal, an Op and a PrintI64 does.
abbrev pub sees_next : ℕ → Bool
sees_next k = get_or (false ∷ false ∷ false ∷ false ∷ true ∷ false ∷ true ∷ false ∷ true ∷ true ∷ false ∷ false ∷ true ∷ []) k false

-- the set, or the empty one if it is not looked at
abbrev seen : Bool → List VarId → List VarId
seen b s = cond b s []

step-sees : (r : Record) (fc fn : List VarId) → step_of r (seen (sees_clauses (kind_of r)) fc) (seen (sees_next (kind_of r)) fn) ≡ step_of r fc fn
step-sees (definition x Γ) fc fn = refl
step-sees (substitute ps) fc fn = refl
step-sees (call x Γ) fc fn = refl
step-sees (let' v t g Γ) fc fn = refl
step-sees (switch v t n) fc fn = refl
step-sees (create v t e n) fc fn = refl
step-sees (invoke v g t Γ) fc fn = refl
step-sees (literal z v) fc fn = refl
step-sees (op f o j v) fc fn = refl
step-sees (ifc c f j) fc fn = refl
step-sees (clause' x Γ) fc fn = refl
step-sees (print n v) fc fn = refl
step-sees (exit v) fc fn = refl

-- the empty mask says the empty set
pub says_none : (W : Work) → Says 0 [] W
says_none W = record { says = λ e _. marked-past 0 0 e.place (omega arith) (omega arith) }

says-seen : (b : Bool) {mask : ℕ} {s : List VarId} {W : Work} → Says mask s W → Says (cond b mask 0) (seen b s) W
says-seen true h = h
says-seen false {W = W} h = says_none W

-- what holds of the step for whatever sets the masks say that are looked at, holds for whatever sets all masks say
module _ {g : Frame} {s : List ℕ} {i kind clauses next : ℕ} {W : Work} (k : ℕ) (e : kind ≡ k) (a : SourceAt g s i kind) where
  as_seen : (P : (Work → (n m : ℕ) → Step) → Type 0)
      → ((fc fn : List VarId) → Says (cond (sees_clauses k) clauses 0) fc W → Says (cond (sees_next k) next 0) fn W → P (step_of (record_at g s i) fc fn))
      → (fc fn : List VarId) → Says clauses fc W → Says next fn W → P (step_of (record_at g s i) fc fn)
  as_seen P h fc fn x y =
      let same : step_of (record_at g s i) (seen (sees_clauses k) fc) (seen (sees_next k) fn) ≡ step_of (record_at g s i) fc fn =
      subst (λ (z : ℕ). step_of (record_at g s i) (seen (sees_clauses z) fc) (seen (sees_next z) fn) ≡ step_of (record_at g s i) fc fn) (a.at.kind ∙ e) (step-sees (record_at g s i) fc fn) in
      subst P same (h (seen (sees_clauses k) fc) (seen (sees_next k) fn) (says-seen (sees_clauses k) x) (says-seen (sees_next k) y))

  module _ {w n : ℕ} {out out' lengths lengths' : List ℕ} {p : Progress} where
    pub steps_as : {r : Stepped} → StepsAs w (record_at g s i) (cond (sees_clauses k) clauses 0) (cond (sees_next k) next 0) W n out out' lengths lengths' p r
        → StepsAs w (record_at g s i) clauses next W n out out' lengths lengths' p r
    steps_as {r} h = record { steps = as_seen (λ f. Steps w out out' lengths lengths' p r (f W n p.max_id)) h.steps }

    pub leaves_as : {r : Progress} → LeavesAs w (record_at g s i) (cond (sees_clauses k) clauses 0) (cond (sees_next k) next 0) W n out out' lengths lengths' p r
        → LeavesAs w (record_at g s i) clauses next W n out out' lengths lengths' p r
    leaves_as {r} h = record { leaves = as_seen (λ f. Leaves w out out' lengths lengths' p r (f W n p.max_id)) h.leaves }

-- the step of a Call, an Invoke, an IfC or an Exit looks at neither
settled-sees : (r : Record) → Settles (kind_of r) → (fc fn : List VarId) → step_of r [] [] ≡ step_of r fc fn
settled-sees (definition x Γ) e fc fn = refl
settled-sees (substitute ps) e fc fn = refl
settled-sees (call x Γ) e fc fn = refl
settled-sees (let' v t g Γ) e fc fn = absurd (false≢true e)
settled-sees (switch v t n) e fc fn = absurd (false≢true e)
settled-sees (create v t a n) e fc fn = absurd (false≢true e)
settled-sees (invoke v g t Γ) e fc fn = refl
settled-sees (literal z v) e fc fn = absurd (false≢true e)
settled-sees (op f o j v) e fc fn = absurd (false≢true e)
settled-sees (ifc c f j) e fc fn = refl
settled-sees (clause' x Γ) e fc fn = refl
settled-sees (print n v) e fc fn = absurd (false≢true e)
settled-sees (exit v) e fc fn = refl

pub settled-leaves : {w n clauses next : ℕ} {r : Record} {W : Work} {out out' lengths lengths' : List ℕ} {p q : Progress} → Settles (kind_of r)
    → LeavesAs w r 0 0 W n out out' lengths lengths' p q → LeavesAs w r clauses next W n out out' lengths lengths' p q
settled-leaves {w} {n} {r = r} {W} {out} {out'} {lengths} {lengths'} {p} {q} e h = record {
  leaves = λ fc fn _ _.
      subst (λ (f : Work → (n m : ℕ) → Step). Leaves w out out' lengths lengths' p q (f W n p.max_id)) (settled-sees r e fc fn) (h.leaves [] [] (says_none W) (says_none W));
}

-- what comes before the clauses of a Switch does not look at the set of the bodies
switch-sees : {v t n w clauses next W p r : _} → OpensAs w (switch v t n) clauses 0 W p r → OpensAs w (switch v t n) clauses next W p r
unfolding front_bytes front_records right_of wanted tail_size
switch-sees {W = W} h = record {
  opens = λ fc fn x _. let o = h.opens fc [] x (says_none W) in record { context = o.context; right = o.right; at = o.at; count = o.count; max_id = o.max_id };
}

pub switch-opens_as : {g : Frame} {s : List ℕ} {i kind w clauses next : ℕ} {W : Work} {p : Progress} {r : Opened} → kind ≡ 5 → SourceAt g s i kind
    → OpensAs w (record_at g s i) clauses 0 W p r → OpensAs w (record_at g s i) clauses next W p r
switch-opens_as {g} {s} {i} {kind} {w} {clauses} {next} {W} {p} {r} e a h =
    let d = at-made 5 (source_as 5 e a).at in
    subst (λ (x : Record). OpensAs w x clauses next W p r) (sym d) (switch-sees (subst (λ (x : Record). OpensAs w x clauses 0 W p r) d h))
