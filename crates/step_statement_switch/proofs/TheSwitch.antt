-- The statement at a header's position is a Switch, by its record; its clauses stand behind it. Assumes nothing.
use Prim.Native.Nat.{ℕ, ◌+◌, ◌-◌}
use mathlib.Core.Path.{◌≡◌, refl, sym, ap, ap₂, subst}
use mathlib.Core.List.{List}
use mathlib.Core.Option.{some}
use native.Mathlib.Omega.{arith}
use Rattle.std.specs.Prelude.{Option as Maybe}
use Rattle.syntax.specs.declared.names.Identifier.{Identifier}
use Rattle.syntax.specs.declared.types.Ty.{Ty}
use Rattle.model.specs.Syntax.{Stmt, Switch, Clauses, Prog}
use Rattle.model.specs.Sizes.{count_clauses}
use Rattle.model.specs.Machine.{Switch', find_clause_lem}
use Rattle.image_spec.specs.Records.{Record, switch}
use Rattle.image_spec.specs.Kinds.{kind_of, clauses_of}
use Rattle.image_spec.specs.Shape.{max_depth}
use Rattle.image_places_spec.specs.Views.{clauses_in}
use Rattle.image_places_spec.specs.Places.{StmtStands, ClausesStand}
use Rattle.image_places_spec.proofs.PlaceLaws.{stmt-parts}
use Rattle.image_directory.specs.declared.Frame.{Frame}
use Rattle.image_directory.specs.Slots as image
use Rattle.image_read_parts.specs.Indexed.{record_at, At}
use Rattle.step_spec.specs.Located.{Machine, Located, records_in, stmt_in, clause_place, next_place_lem}
use Rattle.step_header.specs.declared.Header.{Header}
use Rattle.step_places.specs.Searches.{name_of, Finds, FindsClause}
use Rattle.step_rule.specs.Rules.{ImageOf, Stored}
use Rattle.step_rule.proofs.Views.{viewed}
use Rattle.step_rule.proofs.Statements.{Is, is_substitute, is_call, is_let, is_switch, is_create_lem, is_invoke, is_literal, is_op, is_ifc, is_print, is_exit, here, placed}

-- it is a Switch, and this is its record
pub record Switching (t : Stmt) (r : Record) : Type 0 where
  pub var : Identifier
  pub ty : Ty
  pub clauses : Clauses
  pub is : t ≡ Switch var ty clauses
  pub holds : r ≡ switch var ty (count_clauses clauses)

switching : {t : Stmt} {r : Record} → Is t r → kind_of r ≡ 5 → Switching t r
switching (is_substitute next) k = absurd (omega arith)
switching is_call k = absurd (omega arith)
switching (is_let next) k = absurd (omega arith)
switching (is_switch {var} {ty} cs) k = record { var = var; ty = ty; clauses = cs; is = refl; holds = refl }
switching (is_create_lem cs next) k = absurd (omega arith)
switching is_invoke k = absurd (omega arith)
switching (is_literal next) k = absurd (omega arith)
switching (is_op next) k = absurd (omega arith)
switching (is_ifc thenc elsec) k = absurd (omega arith)
switching (is_print next) k = absurd (omega arith)
switching is_exit k = absurd (omega arith)

module _ {M : Machine} {P : Prog} {frame : Frame} {definitions : ℕ} {bytes store : List ℕ} {h : Header} {l : Located} (p : ImageOf P frame definitions bytes) (o : Stored M P store h l) where
  pub the_switch : At frame bytes h.position 5 → Switching (stmt_in P l.position) (record_at frame bytes h.position)
  the_switch a = switching (here p o (record_at frame bytes h.position) refl) a.kind

  module _ (t : Switching (stmt_in P l.position) (record_at frame bytes h.position)) where
    abbrev cs : Clauses
    cs = t.clauses

    -- its clauses are behind its record
    clauses-stand : ClausesStand (max_depth - 1) (clauses_of (record_at frame bytes h.position)) (image.records_in frame bytes) (h.position + 1) cs
    clauses-stand =
        let s : StmtStands max_depth (records_in P) l.position (Switch t.var t.ty cs) = subst (StmtStands max_depth (records_in P) l.position) t.is (placed p o).here in
        let F : ℕ → List Record → ℕ → Type 0 = λ (n : ℕ) (rs : List Record) (i : ℕ). ClausesStand (max_depth - 1) n rs (i + 1) cs in
        subst (λ (n : ℕ). F n (image.records_in frame bytes) h.position) (sym (ap clauses_of t.holds))
        (subst (λ (rs : List Record). F (count_clauses cs) rs h.position) (sym p.records)
        (subst (F (count_clauses cs) (records_in P)) (sym (viewed o).position) (stmt-parts s).clauses))

    -- what a search finds of them
    pub clause-found : (tag : ℕ) {found : Maybe ℕ} → FindsClause frame bytes (clauses_of (record_at frame bytes h.position)) (h.position + 1) tag found
        → Finds (λ c. c.0) (λ c. c.1) 11 (max_depth - 1) (image.records_in frame bytes) (clause_place (name_of tag) cs (h.position + 1)) (find_clause_lem (name_of tag) cs) found
    clause-found tag f = f.finds (max_depth - 1) cs clauses-stand

    -- and where the next statement is
    pub next_is_lem : (k tag : ℕ) → clause_place (name_of tag) cs (h.position + 1) ≡ next_place_lem P l (some (Switch' k (name_of tag)))
    unfolding next_place_lem
    next_is_lem k tag = ap₂ {C = ℕ} (λ (i : ℕ) (t : Stmt). clause_place (name_of tag) (clauses_in t) (i + 1)) (viewed o).position (sym t.is)
