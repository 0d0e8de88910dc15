-- A step goes by the members of its sets alone, and only by those among the sources of the context: `step_same`, `context-same`; so a walk
-- may have the sets in any form. Assumes nothing.
use Prim.Native.Nat.{ℕ}
use mathlib.Core.Path.{◌≡◌, refl, ap, ◌∙◌}
use mathlib.Core.List.{List, ◌∷◌}
use lib.ListN.{length}
use Rattle.syntax.specs.Sets.{elem}
use Rattle.syntax.specs.declared.names.VarId.{VarId}
use Rattle.syntax.proofs.Permutations.{perm_sym}
use Rattle.image_spec.specs.Records.{Record, definition, substitute, call, let', switch, create, invoke, literal, op, ifc, clause', print, exit}
use Rattle.pass_work_spec.specs.declared.Entry.{Entry}
use Rattle.pass_work_spec.specs.Work.{Work, kept, moved_behind}
use Rattle.pass_work_spec.proofs.Lists.{In, in_perm, filtered-same}
use Rattle.pass_work_spec.proofs.Entries.{moved_behind_perm}
use Rattle.pass_step_spec.specs.Fronts.{wanted, right_of, front_records, tail_size, front_bytes}
use Rattle.pass_step_spec.specs.Steps.{environment, step_of, step_let, step_switch, step_create, step_literal, step_op, step_print_i64, clause_context}

-- the sources of the context that are in one set are in the other
pub record SameSet (s t : List VarId) (W : Work) : Type 0 where
  pub same : (e : Entry) → In e W → elem e.source s ≡ elem e.source t

pub kept_same : {s t : List VarId} {W : Work} → SameSet s t W → kept s W ≡ kept t W
kept_same {s} {t} {W} h = filtered-same (λ (e : Entry). elem e.source s) (λ (e : Entry). elem e.source t) W h.same

-- one ID more in both
same_more : (x : VarId) {s t : List VarId} {W : Work} → SameSet s t W → SameSet (x ∷ s) (x ∷ t) W
same_more x h = record { same = λ e k. rw (h.same e k) }

-- the context in another order
same-moved : (j : ℕ) {s t : List VarId} {W : Work} → SameSet s t W → SameSet s t (moved_behind j W)
same-moved j {W = W} h = record { same = λ e k. h.same e (in_perm (perm_sym (moved_behind_perm j W)) k) }

module _ {fc fc' fn fn' : List VarId} {W : Work} (c : SameSet fc fc' W) (d : SameSet fn fn' W) where
  pub environment-same : environment fc fn W ≡ environment fc' fn' W
  unfolding environment
  environment-same = ap (λ (N : Work). kept fc (moved_behind (length N) W)) (kept_same d) ∙ kept_same (same-moved (length (kept fn' W)) c)

  pub context-same : (r : Record) → clause_context r fc fn W ≡ clause_context r fc' fn' W
  context-same (definition x Γ) = refl
  context-same (substitute ps) = refl
  context-same (call label args) = refl
  context-same (let' var ty tag args) = refl
  context-same (switch var ty clauses) = kept_same c
  context-same (create var ty env clauses) = environment-same
  context-same (invoke var tag ty args) = refl
  context-same (literal lit var) = refl
  context-same (op fst o snd var) = refl
  context-same (ifc sort fst snd) = refl
  context-same (clause' x Γ) = refl
  context-same (print newline var) = refl
  context-same (exit var) = refl

  pub step_same : (r : Record) (n m : ℕ) → step_of r fc fn W n m ≡ step_of r fc' fn' W n m
  unfolding step_let step_switch step_create step_literal step_op step_print_i64
  step_same (definition x Γ) n m = refl
  step_same (substitute ps) n m = refl
  step_same (call label args) n m = refl
  step_same (let' var ty tag args) n m = rw (kept_same d)
  step_same (switch var ty clauses) n m = rw (kept_same c)
  step_same (create var ty env clauses) n m = rw (environment-same, kept_same d)
  step_same (invoke var tag ty args) n m = refl
  step_same (literal lit var) n m = rw (kept_same d)
  step_same (op fst o snd var) n m = rw (kept_same (same_more fst.id (same_more snd.id d)))
  step_same (ifc sort fst snd) n m = refl
  step_same (clause' x Γ) n m = refl
  step_same (print newline var) n m = rw (kept_same (same_more var.id d))
  step_same (exit var) n m = refl

  wanted-same : (r : Record) → wanted r fc fn W ≡ wanted r fc' fn' W
  unfolding wanted
  wanted-same (definition x Γ) = refl
  wanted-same (substitute ps) = refl
  wanted-same (call label args) = refl
  wanted-same (let' var ty tag args) = rw (kept_same d)
  wanted-same (switch var ty clauses) = rw (kept_same c)
  wanted-same (create var ty env clauses) = rw (environment-same, kept_same d)
  wanted-same (invoke var tag ty args) = refl
  wanted-same (literal lit var) = rw (kept_same d)
  wanted-same (op fst o snd var) = rw (kept_same (same_more fst.id (same_more snd.id d)))
  wanted-same (ifc sort fst snd) = refl
  wanted-same (clause' x Γ) = refl
  wanted-same (print newline var) = rw (kept_same (same_more var.id d))
  wanted-same (exit var) = refl

  -- so of what is to be written, before the clauses are linearized
  pub right-same : (r : Record) → right_of r fc fn W ≡ right_of r fc' fn' W
  unfolding right_of
  right-same r = rw (wanted-same r)

  pub records-same : (r : Record) → front_records r fc fn W ≡ front_records r fc' fn' W
  unfolding front_records
  records-same r = rw (right-same r)

  tail-same : (w : ℕ) (r : Record) → tail_size w r fc fn W ≡ tail_size w r fc' fn' W
  unfolding tail_size
  tail-same w (definition x Γ) = refl
  tail-same w (substitute ps) = refl
  tail-same w (call label args) = refl
  tail-same w (let' var ty tag args) = refl
  tail-same w (switch var ty clauses) = refl
  tail-same w (create var ty env clauses) = rw environment-same
  tail-same w (invoke var tag ty args) = refl
  tail-same w (literal lit var) = refl
  tail-same w (op fst o snd var) = refl
  tail-same w (ifc sort fst snd) = refl
  tail-same w (clause' x Γ) = refl
  tail-same w (print newline var) = refl
  tail-same w (exit var) = refl

  pub bytes_same : (w : ℕ) (r : Record) → front_bytes w r fc fn W ≡ front_bytes w r fc' fn' W
  unfolding front_bytes
  bytes_same w r = rw (right-same r, wanted-same r, tail-same w r)
