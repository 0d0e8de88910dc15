-- What was asked of a statement was asked of its clauses and its bodies, with what it binds: the questions 6 and 8 and the room of
-- question 7; and what they say of its record: it is no Substitute, and what it binds is new. Assumes nothing.
use mathlib.Core.Path.{◌≡◌, sym, ap, ◌∙◌}
use mathlib.Core.Logic.{◌⊎◌, inl, inr}
use mathlib.Core.Bool.{true, not, false≢true}
use mathlib.Core.List.{List, [], ◌∷◌, ◌++◌}
use native.Mathlib.Omega.{arith}
use Rattle.syntax.specs.Sets.{elem, ◌∈◌, distinct}
use Rattle.syntax.specs.Context.{Context, ids}
use Rattle.syntax.specs.declared.names.VarId.{VarId}
use Rattle.syntax.specs.declared.names.Identifier.{Identifier}
use Rattle.syntax.proofs.Bools.{both_true}
use Rattle.syntax.proofs.Members.{elem_true, ∈_left, ∈_right, ∈_split}
use Rattle.model.specs.Syntax.{Stmt, Substitute, Call, Let, Switch, Create, Invoke, Literal, Op, IfC, PrintI64, Exit, Clauses, clause, Def}
use Rattle.model.specs.Lists.{every}
use Rattle.model.specs.Questions.{asked, asked_clauses, any_stmt, any_binders, plain, new}
use Rattle.image_spec.specs.Parse.{All}
use Rattle.image_places_spec.specs.Views.{record_of, clauses_in, bodies_of, binders}
use Rattle.scope_spec.specs.Rooms.{in_room, RoomFor}
use Rattle.scope_spec.proofs.FreeViews.{Plain}
use Rattle.scope_spec.proofs.Inside.{asked-parts, asked-clause}
use Rattle.scope_spec.proofs.RoomLaws.{room-clauses, room-bodies, room-clause}
use Rattle.scope_walk.specs.Masks.{Sourced, SourcedClauses, SourcedDefs}

-- ── what a record is told ──

plain_here : (t : Stmt) (Δ : List VarId) → asked t plain any_binders Δ ≡ true → Plain t
unfolding asked
plain_here (Substitute ps next) Δ h = false≢true h
plain_here (Call label args) Δ h = tt
plain_here (Let var ty tag args next) Δ h = tt
plain_here (Switch var ty cs) Δ h = tt
plain_here (Create var ty env cs next) Δ h = tt
plain_here (Invoke var tag ty args) Δ h = tt
plain_here (Literal lit var next) Δ h = tt
plain_here (Op fst op snd var next) Δ h = tt
plain_here (IfC sort fst snd thenc elsec) Δ h = tt
plain_here (PrintI64 newline var next) Δ h = tt
plain_here (Exit var) Δ h = tt

every-new : (Δ xs : List VarId) → every (λ (x : VarId). not (elem x Δ)) xs ≡ true → (x : VarId) → x ∈ Δ → x ∈ xs → ⊥
every-new Δ [] e x h k = k
every-new Δ (y ∷ xs) e x h (inl q) = false≢true (ap not (sym (elem_true x Δ h) ∙ ap (λ (z : VarId). elem z Δ) q) ∙ (both_true (not (elem y Δ)) _ e).0)
every-new Δ (y ∷ xs) e x h (inr k) = every-new Δ xs (both_true (not (elem y Δ)) _ e).1 x h k

-- binders that are new are apart from the scope
new_apart : (Δ xs : List VarId) → new Δ xs ≡ true → (x : VarId) → x ∈ Δ → x ∈ xs → ⊥
new_apart Δ xs e = every-new Δ xs (both_true (every (λ (x : VarId). not (elem x Δ)) xs) (distinct xs) e).0

new-here : (t : Stmt) (Δ : List VarId) → asked t any_stmt new Δ ≡ true → (x : VarId) → x ∈ Δ → x ∈ binders (record_of t) → ⊥
unfolding asked
new-here (Substitute ps next) Δ h x a b = b
new-here (Call label args) Δ h x a b = b
new-here (Let var ty tag args next) Δ h x a b = new_apart Δ (var.id ∷ []) (both_true (new Δ (var.id ∷ [])) _ h).0 x a b
new-here (Switch var ty cs) Δ h x a b = b
new-here (Create var ty env cs next) Δ h x a b = new_apart Δ (var.id ∷ []) (both_true (new Δ (var.id ∷ [])) _ (both_true (asked_clauses cs any_stmt new Δ) _ h).1).0 x a b
new-here (Invoke var tag ty args) Δ h x a b = b
new-here (Literal lit var next) Δ h x a b = new_apart Δ (var.id ∷ []) (both_true (new Δ (var.id ∷ [])) _ h).0 x a b
new-here (Op fst op snd var next) Δ h x a b = new_apart Δ (var.id ∷ []) (both_true (new Δ (var.id ∷ [])) _ h).0 x a b
new-here (IfC sort fst snd thenc elsec) Δ h x a b = b
new-here (PrintI64 newline var next) Δ h x a b = b
new-here (Exit var) Δ h x a b = b

-- ── what its parts are told ──

within_more : (B Δ xs : List VarId) → ((x : VarId) → x ∈ B → x ∈ Δ) → (x : VarId) → x ∈ (B ++ xs) → x ∈ (xs ++ Δ)
within_more B Δ xs w x h = go (∈_split x B xs h)
  where
    go : (x ∈ B) ⊎ (x ∈ xs) → x ∈ (xs ++ Δ)
    go (inl k) = ∈_right x xs Δ (w x k)
    go (inr k) = ∈_left x xs Δ k

module _ {B : List VarId} where
  pub sourced-plain : {t : Stmt} → Sourced B t → Plain t
  sourced-plain {t} q = plain_here t q.scope q.six

  pub sourced-apart : {t : Stmt} → Sourced B t → (x : VarId) → x ∈ B → x ∈ binders (record_of t) → ⊥
  sourced-apart {t} q x h = new-here t q.scope q.eight x (q.within x h)

  pub sourced-clauses : {t : Stmt} → Sourced B t → SourcedClauses B (clauses_in t)
  sourced-clauses {t} q = record {
    room = room-clauses B t q.room;
    scope = q.scope;
    within = q.within;
    six = (asked-parts t plain any_binders q.scope q.six).0;
    eight = (asked-parts t any_stmt new q.scope q.eight).0;
  }

  pub sourced-bodies : {t : Stmt} → Sourced B t → All (Sourced (B ++ binders (record_of t))) (bodies_of t)
  sourced-bodies {t} q =
      each (bodies_of t) (room-bodies B t q.room) (asked-parts t plain any_binders q.scope q.six).1 (asked-parts t any_stmt new q.scope q.eight).1
    where
      each : (ts : List Stmt) → All (RoomFor (B ++ binders (record_of t))) ts
          → All (λ (s : Stmt). asked s plain any_binders (binders (record_of t) ++ q.scope) ≡ true) ts
          → All (λ (s : Stmt). asked s any_stmt new (binders (record_of t) ++ q.scope) ≡ true) ts → All (Sourced (B ++ binders (record_of t))) ts
      each [] r a b = tt
      each (s ∷ ts) r a b = (
        record { room = r.0; scope = binders (record_of t) ++ q.scope; within = within_more B q.scope (binders (record_of t)) q.within; six = a.0; eight = b.0 },
        each ts r.1 a.1 b.1,
      )

  module _ (x : Identifier) (Γ : Context) (body : Stmt) (rest : Clauses) (q : SourcedClauses B (clause x Γ body rest)) where
    pub clause-apart : (y : VarId) → y ∈ B → y ∈ ids Γ → ⊥
    unfolding asked
    clause-apart y h = new_apart q.scope (ids Γ) (both_true (new q.scope (ids Γ)) _ q.eight).0 y (q.within y h)

    pub clause-body : Sourced (B ++ ids Γ) body
    clause-body = record {
      room = (room-clause B x Γ body rest q.room).0;
      scope = ids Γ ++ q.scope;
      within = within_more B q.scope (ids Γ) q.within;
      six = (asked-clause x Γ body rest plain any_binders q.scope q.six).0;
      eight = (asked-clause x Γ body rest any_stmt new q.scope q.eight).0;
    }

    pub clause-rest : SourcedClauses B rest
    clause-rest = record {
      room = (room-clause B x Γ body rest q.room).1;
      scope = q.scope;
      within = q.within;
      six = (asked-clause x Γ body rest plain any_binders q.scope q.six).1;
      eight = (asked-clause x Γ body rest any_stmt new q.scope q.eight).1;
    }

-- .. and of definitions
module _ (d : Def) (ds : List Def) (q : SourcedDefs (d ∷ ds)) where
  pub def_body : Sourced (ids d.context) d.body
  def_body = record {
    room = record { scope = ids d.context; longer = omega arith; room = (both_true (asked d.body in_room any_binders (ids d.context)) _ q.room).0 };
    scope = ids d.context;
    within = λ x h. h;
    six = (both_true (asked d.body plain any_binders (ids d.context)) _ q.six).0;
    eight = (both_true (asked d.body any_stmt new (ids d.context)) _ (both_true (new [] (ids d.context)) _ q.eight).1).0;
  }

  pub def-rest : SourcedDefs ds
  def-rest = record {
    room = (both_true (asked d.body in_room any_binders (ids d.context)) _ q.room).1;
    six = (both_true (asked d.body plain any_binders (ids d.context)) _ q.six).1;
    eight = (both_true (asked d.body any_stmt new (ids d.context)) _ (both_true (new [] (ids d.context)) _ q.eight).1).1;
  }
