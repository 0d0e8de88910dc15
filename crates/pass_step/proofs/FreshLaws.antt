-- Fresh names where the context is not right: what is drawn, and how many there are. (How far their IDs go: `unless-near` of
-- pass_work_spec/proofs/Bounds.antt.) Assumes nothing.
use Prim.Native.Nat.{ℕ}
use mathlib.Core.Path.{◌≡◌, refl, sym, ◌∙◌}
use mathlib.Core.Bool.{Bool, true, false}
use mathlib.Core.List.{List}
use Rattle.syntax.specs.Context.{Context}
use Rattle.syntax.specs.Arrays.{context_of, Freshens}
use Rattle.syntax.specs.Fresh.{freshen}
use Rattle.syntax.specs.declared.names.VarId.{VarId}
use Rattle.syntax.specs.declared.context.TypingContext.{TypingContext}
use Rattle.syntax.specs.declared.context.Freshened.{Freshened}
use Rattle.syntax.proofs.Counts.{context-count}
use Rattle.model.specs.Rules.{freshen_unless_lem}
use Rattle.model.proofs.Widths.{unless-length}

-- ── what is drawn ──

pub freshens_nothing : (c : TypingContext) (C : List VarId) (m : ℕ) → Freshens (record { context = c; max_id = record { 0 = m } }) (freshen_unless_lem true (context_of c) C m)
unfolding freshen_unless_lem
freshens_nothing c C m = record { holds = record { count = context-count c; list = refl }; max = refl }

pub freshens_all : {r : Freshened} (Γ : Context) (C : List VarId) (m : ℕ) → Freshens r (freshen Γ C m) → Freshens r (freshen_unless_lem false Γ C m)
unfolding freshen_unless_lem
freshens_all Γ C m h = h

-- ── how many there are ──

-- as many fresh names as what they stand for
pub fresh-count : (right : Bool) (c : TypingContext) (C : List VarId) (m : ℕ) {f : Freshened} → Freshens f (freshen_unless_lem right (context_of c) C m) → f.context.len ≡ c.len
fresh-count right c C m h = h.holds.count ∙ unless-length right (context_of c) C m ∙ sym (context-count c)
