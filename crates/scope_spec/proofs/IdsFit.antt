-- Records that a layout can hold name IDs of its width only; so the IDs that a statement uses fit a row for them. Assumes nothing.
use Prim.Native.Nat.{ℕ, zero, suc, ◌^◌, ◌≤◌, ◌<◌}
use mathlib.Core.Path.{subst, sym}
use mathlib.Core.Logic.{◌⊎◌, inl, inr}
use mathlib.Core.List.{List, [], ◌∷◌, ◌++◌}
use mathlib.Core.Option.{none, some}
use native.Mathlib.Omega.{arith}
use Rattle.syntax.specs.Sets.{◌∈◌}
use Rattle.syntax.specs.Context.{Context, id_of, ids}
use Rattle.syntax.specs.declared.names.VarId.{VarId}
use Rattle.syntax.proofs.Members.{∈_split}
use Rattle.model.specs.Syntax.{Stmt, Substitute, Call, Let, Switch, Create, Invoke, Literal, Op, IfC, PrintI64, Exit, Clauses, end, clause}
use Rattle.model.specs.Sizes.{count_clauses}
use Rattle.model.specs.FreeVars.{optional_id}
use Rattle.image_spec.specs.Parse.{All}
use Rattle.image_spec.specs.Fields.{BindingOk}
use Rattle.image_spec.specs.Records.{Record, definition, substitute, call, let', switch, create, invoke, literal, op, ifc, clause', print, exit, RecordOk}
use Rattle.image_spec.specs.Shape.{flatten, flatten_clauses}
use Rattle.image_spec.proofs.ListLaws.{all_left, all_right}
use Rattle.image_places_spec.specs.Views.{uses_of}
use Rattle.scope_spec.proofs.MarkLaws.{FitRow, all_uses, all_uses_clauses}

module _ (w : ℕ) where
  Fits : List VarId → Type 0
  Fits s = FitRow s (256 ^ w)

  none_fit : Fits []
  unfolding Fits
  none_fit x h = absurd h

  one-fits : (i : VarId) (s : List VarId) → i.0 < 256 ^ w → Fits s → Fits (i ∷ s)
  unfolding Fits
  one-fits i s h f x (inl e) = subst (λ (y : VarId). y.0 < 256 ^ w) (sym e) h
  one-fits i s h f x (inr k) = f x k

  both-fit : (s t : List VarId) → Fits s → Fits t → Fits (s ++ t)
  unfolding Fits
  both-fit s t f g x h = go (∈_split x s t h)
    where
      go : (x ∈ s) ⊎ (x ∈ t) → x.0 < 256 ^ w
      go (inl k) = f x k
      go (inr k) = g x k

  ids-fit : (Γ : Context) → All (BindingOk w) Γ → Fits (ids Γ)
  ids-fit [] h = none_fit
  ids-fit (b ∷ Γ) h = one-fits (id_of b) (ids Γ) h.0.0.1 (ids-fit Γ h.1)

  -- the IDs that a record uses
  uses-fit : (r : Record) → RecordOk w r → Fits (uses_of r)
  unfolding RecordOk
  uses-fit (definition x Γ) h = none_fit
  uses-fit (substitute ps) h = none_fit
  uses-fit (call x Γ) h = ids-fit Γ h.1.1
  uses-fit (let' v t g Γ) h = ids-fit Γ h.1.1.1.1
  uses-fit (switch v t n) h = one-fits v.id [] h.0.1 none_fit
  uses-fit (create v t e n) h = none_fit
  uses-fit (invoke v g t Γ) h = one-fits v.id (ids Γ) h.0.1 (ids-fit Γ h.1.1.1.1)
  uses-fit (literal z v) h = none_fit
  uses-fit (op f o s v) h = one-fits f.id (s.id ∷ []) h.0.1 (one-fits s.id [] h.1.1.0.1 none_fit)
  uses-fit (ifc c f none) h = one-fits f.id [] h.1.0.1 none_fit
  uses-fit (ifc c f (some x)) h = one-fits f.id (x.id ∷ []) h.1.0.1 (one-fits x.id [] h.1.1.1 none_fit)
  uses-fit (clause' x Γ) h = none_fit
  uses-fit (print n v) h = one-fits v.id [] h.1.1 none_fit
  uses-fit (exit v) h = one-fits v.id [] h.1 none_fit

  mutual
    unfolding all_uses flatten

    stmt-fits : (t : Stmt) → All (RecordOk w) (flatten t) → Fits (all_uses t)
    stmt-fits (Substitute ps next) h = stmt-fits next h.1
    stmt-fits (Call label args) h = uses-fit (call label args) h.0
    stmt-fits (Let var ty tag args next) h = both-fit (ids args) (all_uses next) (uses-fit (let' var ty tag args) h.0) (stmt-fits next h.1)
    stmt-fits (Switch var ty cs) h = both-fit (var.id ∷ []) (all_uses_clauses cs) (uses-fit (switch var ty (count_clauses cs)) h.0) (clauses-fit cs h.1)
    stmt-fits (Create var ty env cs next) h =
        both-fit (all_uses_clauses cs) (all_uses next) (clauses-fit cs (all_left (RecordOk w) (flatten_clauses cs) (flatten next) h.1)) (stmt-fits next (all_right (RecordOk w) (flatten_clauses cs) (flatten next) h.1))
    stmt-fits (Invoke var tag ty args) h = uses-fit (invoke var tag ty args) h.0
    stmt-fits (Literal lit var next) h = stmt-fits next h.1
    stmt-fits (Op fst o snd var next) h = both-fit (fst.id ∷ snd.id ∷ []) (all_uses next) (uses-fit (op fst o snd var) h.0) (stmt-fits next h.1)
    stmt-fits (IfC sort fst snd thenc elsec) h =
        both-fit (fst.id ∷ optional_id snd) (all_uses thenc ++ all_uses elsec) (uses-fit (ifc sort fst snd) h.0)
        (both-fit (all_uses thenc) (all_uses elsec) (stmt-fits thenc (all_left (RecordOk w) (flatten thenc) (flatten elsec) h.1)) (stmt-fits elsec (all_right (RecordOk w) (flatten thenc) (flatten elsec) h.1)))
    stmt-fits (PrintI64 newline var next) h = both-fit (var.id ∷ []) (all_uses next) (uses-fit (print newline var) h.0) (stmt-fits next h.1)
    stmt-fits (Exit var) h = uses-fit (exit var) h.0

    clauses-fit : (cs : Clauses) → All (RecordOk w) (flatten_clauses cs) → Fits (all_uses_clauses cs)
    clauses-fit end h = none_fit
    clauses-fit (clause xtor context body rest) h =
        both-fit (all_uses body) (all_uses_clauses rest) (stmt-fits body (all_left (RecordOk w) (flatten body) (flatten_clauses rest) h.1)) (clauses-fit rest (all_right (RecordOk w) (flatten body) (flatten_clauses rest) h.1))

  -- a row with a mark for each ID of w bytes is long enough
  pub stmt-ids-fit : (n : ℕ) → 256 ^ w ≤ n → (t : Stmt) → All (RecordOk w) (flatten t) → FitRow (all_uses t) n
  unfolding Fits
  stmt-ids-fit n k t h x e = omega (arith, stmt-fits t h x e)

  pub clauses-ids-fit : (n : ℕ) → 256 ^ w ≤ n → (cs : Clauses) → All (RecordOk w) (flatten_clauses cs) → FitRow (all_uses_clauses cs) n
  unfolding Fits
  clauses-ids-fit n k cs h x e = omega (arith, clauses-fit cs h x e)

-- two bytes
pub two_bytes : (w : ℕ) → w ≤ 2 → 256 ^ w ≤ 65536
two_bytes zero h = omega arith
two_bytes (suc zero) h = omega arith
two_bytes (suc (suc zero)) h = omega arith
two_bytes (suc (suc (suc w))) h = absurd (omega arith)
