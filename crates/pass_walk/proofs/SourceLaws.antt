-- What a source gives the walk: records that have passed questions 6 and 7 (`source-at`), statements by their kinds, room for what a record
-- binds (`binders-fit`), and masks that say what is free (`row-says`). Assumes nothing.
use Prim.Native.Nat.{ℕ, ◌+◌, ◌≤◌, ◌<◌}
use mathlib.Core.Path.{◌≡◌, refl, sym, ap, ◌∙◌, subst}
use mathlib.Core.Bool.{Bool, true, false, ◌&&◌, false≢true, true≢false}
use mathlib.Core.List.{List, [], ◌++◌}
use native.Mathlib.Omega.{arith}
use borrow.Author.Rules.{rules}
use denote.Enum.Bare.{sameb, same_true}
use lib.Dec.{leb, eqb}
use lib.ListN.{length, get_or, length-append, get_or-append}
use Rattle.syntax.specs.Sets.{elem}
use Rattle.syntax.specs.declared.names.VarId.{VarId}
use Rattle.syntax.proofs.Bools.{both_true}
use Rattle.model.specs.Syntax.{Stmt, Substitute, Call, Let, Switch, Create, Invoke, Literal, Op, IfC, PrintI64, Exit, end}
use borrow.Author.Tests.{leb-true}
use Rattle.image_spec.specs.Records.{Record, definition, substitute, call, let', switch, create, invoke, literal, op, ifc, clause', print, exit}
use Rattle.image_spec.specs.Kinds.{kind_of, bodies}
use Rattle.image_kinds.specs.Codes.{code_of, named_kind}
use Rattle.image_kinds.specs.declared.kinds.Kind.{Kind}
use Rattle.image_kinds.specs.declared.kinds.Kind.TheVariants as kind
use Rattle.image_kinds.specs.contracts.kinds.Kind.{the_type}
use Rattle.image_kinds.proofs.KindNames.{same_code}
use Rattle.image_directory.specs.Slots.{Ready, records_in}
use Rattle.image_directory.specs.declared.Frame.{Frame}
use Rattle.image_directory.proofs.Places.{records-length}
use Rattle.image_places_spec.specs.Views.{record_of, clauses_in, binders}
use Rattle.scope_spec.specs.Flat.{plain_record_lem, small_record_lem}
use Rattle.scope_spec.specs.FreeRows.{bit, mask_of}
use Rattle.scope_spec.proofs.FreeViews.{Plain}
use Rattle.scope_spec.proofs.RowLaws.{mask_at}
use Rattle.image_read_parts.specs.Indexed.{At}
use Rattle.scope_records.proofs.FlatLaws.{record_at_lem}
use Rattle.pass_work_spec.specs.Work.{Work}
use Rattle.pass_work_spec.specs.Placed.{Placed, AllFit}
use Rattle.pass_work_spec.proofs.Rooms.{here-fits}
use Rattle.pass_entries.specs.Masks.{marked}
use Rattle.pass_step_spec.specs.Steps.{params_first}
use Rattle.pass_step.specs.Stepping.{Says, SourceAt}
use Rattle.pass_dispatch.specs.Choices.{HasClauses, proceeds, Proceeds, Settles}
use Rattle.pass_walk.specs.Walking.{Sources}

pub source-at : {g : Frame} {s : List ℕ} {i kind : ℕ} → Ready g s → Sources g s → At g s i kind → SourceAt g s i kind
source-at {g} {s} {i} ready q a =
    let inside : i < length (records_in g s) = omega (arith, a.inside, records-length g s ready) in
    record { at = a; small = record_at_lem small_record_lem (records_in g s) i q.small inside; plain = record_at_lem plain_record_lem (records_in g s) i q.plain inside }

-- ── kinds ──

-- a statement of a source is none that only the output has
pub plain-source : (t : Stmt) → plain_record_lem (record_of t) ≡ true → Plain t
plain-source (Substitute ps next) e = absurd (false≢true e)
plain-source (Call label args) e = tt
plain-source (Let var ty tag args next) e = tt
plain-source (Switch var ty cs) e = tt
plain-source (Create var ty env cs next) e = tt
plain-source (Invoke var tag ty args) e = tt
plain-source (Literal lit var next) e = tt
plain-source (Op fst o snd var next) e = tt
plain-source (IfC sort fst snd thenc elsec) e = tt
plain-source (PrintI64 newline var next) e = tt
plain-source (Exit var) e = tt

-- a Switch or a Create
pub has-clauses : (k : ℕ) → (leb 5 k && leb k 6) ≡ true → HasClauses k
has-clauses k e = let b = both_true (leb 5 k) (leb k 6) e in (leb-true 5 k b.0, leb-true k 6 b.1)

pub no-clauses : (t : Stmt) → (leb 5 (kind_of (record_of t)) && leb (kind_of (record_of t)) 6) ≡ false → clauses_in t ≡ end
no-clauses (Substitute ps next) e = refl
no-clauses (Call label args) e = refl
no-clauses (Let var ty tag args next) e = refl
no-clauses (Switch var ty cs) e = absurd (true≢false e)
no-clauses (Create var ty env cs next) e = absurd (true≢false e)
no-clauses (Invoke var tag ty args) e = refl
no-clauses (Literal lit var next) e = refl
no-clauses (Op fst o snd var next) e = refl
no-clauses (IfC sort fst snd thenc elsec) e = refl
no-clauses (PrintI64 newline var next) e = refl
no-clauses (Exit var) e = refl

-- a Let, a Literal, an Op or a PrintI64 has one body
pub one-body-of : (t : Stmt) → Proceeds (kind_of (record_of t)) → bodies (kind_of (record_of t)) ≡ 1
one-body-of (Substitute ps next) e = refl
one-body-of (Call label args) e = absurd (false≢true e)
one-body-of (Let var ty tag args next) e = refl
one-body-of (Switch var ty cs) e = absurd (false≢true e)
one-body-of (Create var ty env cs next) e = refl
one-body-of (Invoke var tag ty args) e = absurd (false≢true e)
one-body-of (Literal lit var next) e = refl
one-body-of (Op fst o snd var next) e = refl
one-body-of (IfC sort fst snd thenc elsec) e = absurd (false≢true e)
one-body-of (PrintI64 newline var next) e = refl
one-body-of (Exit var) e = absurd (false≢true e)

-- any other without clauses binds nothing, and leaves the context: a Call, an Invoke, an IfC or an Exit
pub record Settling (r : Record) : Type 0 where
  pub settles : Settles (kind_of r)
  pub none : binders r ≡ []
  pub other : kind_of r ≡ 12 → ⊥

pub settling : (t : Stmt) → Plain t → (leb 5 (kind_of (record_of t)) && leb (kind_of (record_of t)) 6) ≡ false → proceeds (kind_of (record_of t)) ≡ false → Settling (record_of t)
settling (Substitute ps next) p c b = absurd p
settling (Call label args) p c b = record { settles = refl; none = refl; other = λ q. omega arith }
settling (Let var ty tag args next) p c b = absurd (true≢false b)
settling (Switch var ty cs) p c b = absurd (true≢false c)
settling (Create var ty env cs next) p c b = absurd (true≢false c)
settling (Invoke var tag ty args) p c b = record { settles = refl; none = refl; other = λ q. omega arith }
settling (Literal lit var next) p c b = absurd (true≢false b)
settling (Op fst o snd var next) p c b = absurd (true≢false b)
settling (IfC sort fst snd thenc elsec) p c b = record { settles = refl; none = refl; other = λ q. omega arith }
settling (PrintI64 newline var next) p c b = absurd (true≢false b)
settling (Exit var) p c b = record { settles = refl; none = refl; other = λ q. omega arith }

-- the parameters of a Create's clauses come first
pub params_first_lem : (r : Record) → sameb the_type (named_kind r) kind.Create ≡ params_first r
params_first_lem (definition x Γ) = refl
params_first_lem (substitute ps) = refl
params_first_lem (call label args) = refl
params_first_lem (let' var ty tag args) = refl
params_first_lem (switch var ty clauses) = refl
params_first_lem (create var ty env clauses) = refl
params_first_lem (invoke var tag ty args) = refl
params_first_lem (literal lit var) = refl
params_first_lem (op fst o snd var) = refl
params_first_lem (ifc sort fst snd) = refl
params_first_lem (clause' x Γ) = refl
params_first_lem (print newline var) = refl
params_first_lem (exit var) = refl

-- is it a Create?
pub a-create : (k : Kind) {t : Bool} → t ≡ sameb the_type k kind.Create → t ≡ true → k ≡ kind.Create
a-create k e h = same_true the_type (search rules) k kind.Create (sym e ∙ h)

pub a-switch : (k : Kind) → HasClauses (code_of k) → (code_of k ≡ 6 → ⊥) → k ≡ kind.Switch
a-switch k b n = same_code k kind.Switch (omega (arith, b.0, b.1, n))

pub no-create : (k : Kind) {t : Bool} → t ≡ sameb the_type k kind.Create → t ≡ false → code_of k ≡ 6 → ⊥
no-create k e h q = true≢false (subst (λ (z : Kind). sameb the_type z kind.Create ≡ false) (same_code k kind.Create q) (sym e ∙ h))

-- ── room ──

-- where the context fits below a statement, there is a place for what its record binds
pub binders-fit : (t : Stmt) (Δ : List VarId) (W : Work) (n : ℕ) → Plain t → AllFit t Δ W n → n + length (binders (record_of t)) ≤ 64
unfolding AllFit
binders-fit (Substitute ps next) Δ W n p a = absurd p
binders-fit (Call label args) Δ W n p a = omega (arith, a.room)
binders-fit (Let var ty tag args next) Δ W n p a = (here-fits next _ _ (n + 1) a.1).room
binders-fit (Switch var ty cs) Δ W n p a = omega (arith, a.0.room)
binders-fit (Create var ty env cs next) Δ W n p a = (here-fits next _ _ (n + 1) (a.2 true [])).room
binders-fit (Invoke var tag ty args) Δ W n p a = omega (arith, a.room)
binders-fit (Literal lit var next) Δ W n p a = (here-fits next _ _ (n + 1) a.1).room
binders-fit (Op fst o snd var next) Δ W n p a = (here-fits next _ _ (n + 1) a.1).room
binders-fit (IfC sort fst snd thenc elsec) Δ W n p a = omega (arith, a.0.room)
binders-fit (PrintI64 newline var next) Δ W n p a = omega (arith, a.0.room)
binders-fit (Exit var) Δ W n p a = omega (arith, a.room)

-- ── masks ──

is_one : (b : Bool) → eqb (bit b) 1 ≡ b
is_one true = refl
is_one false = refl

-- the mask of a set over the scope, and over what is bound behind it, says of each entry whether its source is in the set
pub row-says : (s Δ xs : List VarId) {W : Work} → Placed Δ W → Says (mask_of s (Δ ++ xs)) s W
unfolding marked
row-says s Δ xs p = record {
  says = λ e k.
      let q = p.each e k in
      let x : VarId = e.source in
      ap (λ (b : ℕ). eqb b 1) (mask_at s (Δ ++ xs) e.place x (omega (arith, q.below, length-append Δ xs)))
      ∙ is_one (elem (get_or (Δ ++ xs) e.place x) s)
      ∙ ap (λ (y : VarId). elem y s) (get_or-append Δ xs x e.place q.below ∙ q.source x);
}
