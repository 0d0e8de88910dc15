-- The pass over contexts at work is the pass of `model`: of a statement and of clauses that the questions 6, 8, 9 and 10 say yes to, where
-- the entries stand for their sources, and of programs. Assumes nothing.
use mathlib.Core.Path.{◌≡◌, refl, sym, ap, ap₂, ◌∙◌, subst}
use mathlib.Core.Logic.{inl, inr}
use mathlib.Core.Bool.{Bool, true, false, cond}
use mathlib.Core.List.Memᴰ
use mathlib.Core.List.{List, [], ◌∷◌, ◌++◌, append-nil}
use Prim.Native.Nat.{ℕ, ◌+◌, ◌≤◌}
use native.Mathlib.Nat.{le_refl, le_trans}
use lib.ListN.{length, length-map}
use Rattle.syntax.specs.Context.{Context, ids, same_context}
use Rattle.syntax.specs.Sets.{◌∈◌, without}
use Rattle.syntax.specs.Filter.{filter_by_set_lem}
use Rattle.syntax.specs.declared.names.VarId.{VarId}
use Rattle.syntax.specs.declared.context.Chirality.TheVariants.{Prd, Cns, Ext}
use Rattle.syntax.specs.declared.types.Ty.TheVariants.{I64}
use Rattle.syntax.proofs.Members.{∈_left, ∈_right, without-∈}
use Rattle.model.specs.Syntax.{Stmt, Clauses, Substitute, Call, Let, Switch, Create, Invoke, Literal, Op, IfC, PrintI64, Exit, end, clause, Def, Prog}
use Rattle.model.specs.FreeVars.{free_vars, free_vars_clauses, optional_id}
use Rattle.model.specs.Renaming.{Renaming, no_renaming, rename, rename_ids, rename_option, rename_context, renaming, rename_unless}
use Rattle.model.specs.Rules.{bind, freshen_unless_lem, move_behind_lem}
use Rattle.model.specs.Pass.{linearize_stmt, linearize_clauses, linearize_defs}
use Rattle.model.specs.Questions.{asked, asked_clauses, plain, in_scope_lem, new, up_to, any_stmt, any_binders, question6, question8, question9, question10}
use Rattle.model.proofs.Scoping.{Binds, Scoped, ScopedClauses, ScopedDefs}
use Rattle.model.proofs.Scope.{scoped-free}
use Rattle.model.proofs.Questions.{answered, answered_clauses, scoped-says, scoped_clauses_says, scoped_defs_says}
use Rattle.model.proofs.Grows.{freshen_unless-grows, linearize_stmt-grows, linearize_clauses-grows}
use Rattle.model.proofs.Invariant.{rename-id}
use Rattle.model.proofs.Rearrange.{Drawn, freshen_unless_draws}
use Rattle.pass_work_spec.specs.declared.Entry.{Entry}
use Rattle.pass_work_spec.specs.Work.{Work, bindings, owns, kept, moved_behind, respelled_unless, work_stmt, work_clauses, work_defs}
use Rattle.pass_work_spec.proofs.Entries.{HasEntry, Reads, used-renamed, used_option-renamed, used_all-renamed, moved_behind-bindings, owns-bindings}
use Rattle.pass_work_spec.proofs.Standing.{Standing, later, fewer, kept_is, part, moved, fresh, respelled_is, below-read, behind, behind_is, joined, joined_is, next-stands, next_is_lem}
use Rattle.pass_work_spec.proofs.SameRules.{same-Call, same-Let, same-Switch, same-Create, same-Invoke, same-Literal, same-Op, same-IfC, same-PrintI64, same-Exit, same-Clause}

mutual
  unfolding work_stmt linearize_stmt free_vars Scoped

  pub work_scoped : (t : Stmt) {M : ℕ} {Δ : List VarId} {ρ : Renaming} {W : Work} {m : ℕ} → Scoped t M Δ → Standing M Δ ρ (free_vars t) W m → (n : ℕ)
      → work_stmt t W n m ≡ linearize_stmt t ρ (bindings W) m
  work_scoped (Substitute ps next) sc s n = absurd sc
  work_scoped (Call label args) {ρ = ρ} {W} {m} sc s n = same-Call W n m label args (rename_context ρ args) (used_all-renamed s.stand args s.has)
  work_scoped (Let var ty tag args next) {M} {Δ} {ρ} {W} {m} sc s n =
      let b = bind var Prd ty in
      let fv = free_vars next in
      let args₀ = rename_context ρ args in
      let new = filter_by_set_lem (rename_ids ρ fv) (bindings W) in
      let right = same_context (bindings W) (new ++ args₀) in
      let m₁ = (freshen_unless_lem right args₀ (ids new) m).1 in
      let s₁ : Standing M Δ ρ (without fv (var.id ∷ [])) W m = fewer s (λ x h. ∈_left x (without fv (var.id ∷ [])) (ids args) h) in
      let reads : Reads ρ W fv = below-read fv (b ∷ []) s₁ sc.1 in
      same-Let W n m var ty tag args args₀ (work_stmt next) (linearize_stmt next ρ) fv (rename_ids ρ fv)
      (used_all-renamed s.stand args (λ x h. s.has x (∈_right x (without fv (var.id ∷ [])) (ids args) h)))
      (kept_is s fv reads)
      (work_scoped next sc.2 (next-stands fv b s₁ sc.1 fv reads n (λ x h. h) (freshen_unless-grows right args₀ (ids new) m)) (n + 1)
      ∙ ap (λ (Γ : Context). linearize_stmt next ρ Γ m₁) (next_is_lem fv b s₁ sc.1 fv reads n))
  work_scoped (Switch var ty cs) {M} {Δ} {ρ} {W} {m} sc s n =
      let fv = free_vars_clauses cs in
      let reads : Reads ρ W fv = λ x h. inl (s.has x (inr h)) in
      same-Switch W n m var (rename ρ var) ty (work_clauses cs false) (linearize_clauses cs false ρ) fv (rename_ids ρ fv)
      (used-renamed s.stand var (s.has var.id (inl refl)))
      (kept_is s fv reads)
      (work_scoped_clauses cs false sc.1 (part s fv reads (λ x h. inr h) (λ x h. h)) n
      ∙ ap (λ (Γ : Context). linearize_clauses cs false ρ Γ m) (kept_is s fv reads))
  work_scoped (Create var ty env₀ cs next) {M} {Δ} {ρ} {W} {m} sc s n =
      let b = bind var Cns ty in
      let fv = free_vars next in
      let fc = free_vars_clauses cs in
      let rest = without fv (var.id ∷ []) in
      let s₁ : Standing M Δ ρ rest W m = fewer s (λ x h. ∈_left x rest fc h) in
      let reads : Reads ρ W fv = below-read fv (b ∷ []) s₁ sc.2 in
      let contextNext = kept fv W in
      let N = filter_by_set_lem (rename_ids ρ fv) (bindings W) in
      let eN : bindings contextNext ≡ N = kept_is s fv reads in
      let sN : Standing M Δ ρ rest contextNext m = part s₁ fv reads (λ x h. h) (λ x h. (without-∈ x fv (var.id ∷ []) h).0) in
      let j = length contextNext in
      let ej : j ≡ length N = sym (length-map contextNext (λ (e : Entry). e.binding)) ∙ ap length eN in
      let s₂ : Standing M Δ ρ fc (moved_behind j W) m = moved (fewer s (λ x h. ∈_right x rest fc h)) j in
      let readsE : Reads ρ (moved_behind j W) fc = λ x h. inl (s₂.has x h) in
      let env = kept fc (moved_behind j W) in
      let E = filter_by_set_lem (rename_ids ρ fc) (move_behind_lem (length N) (bindings W)) in
      let eE : bindings env ≡ E = kept_is s₂ fc readsE ∙ ap (filter_by_set_lem (rename_ids ρ fc)) (moved_behind-bindings j W ∙ ap (λ (i : ℕ). move_behind_lem i (bindings W)) ej) in
      let sE : Standing M Δ ρ fc env m = part s₂ fc readsE (λ x h. h) (λ x h. h) in
      let right = same_context (bindings W) (N ++ E) in
      let m₁ = (linearize_clauses cs true ρ E m).1 in
      let grown : m ≤ m₁ = linearize_clauses-grows cs true ρ E m in
      let T = (freshen_unless_lem right N (ids E) m₁).0 in
      let m₂ = (freshen_unless_lem right N (ids E) m₁).1 in
      let upN : (x : VarId) → x ∈ ids N → x.0 ≤ m₁ = subst (λ (Γ : Context). (x : VarId) → x ∈ ids Γ → x.0 ≤ m₁) eN (λ x h. le_trans (sN.good.up_to x h) grown) in
      let upE : (x : VarId) → x ∈ ids E → x.0 ≤ m₁ = subst (λ (Γ : Context). (x : VarId) → x ∈ ids Γ → x.0 ≤ m₁) eE (λ x h. le_trans (sE.good.up_to x h) grown) in
      let dr : Drawn right (bindings contextNext) (ids E) m₁ T m₂ = subst (λ (Γ : Context). Drawn right Γ (ids E) m₁ T m₂) (sym eN) (freshen_unless_draws right N (ids E) m₁ upN upE) in
      let ρ₁ = rename_unless right ρ (renaming N T) in
      let sT : Standing M Δ ρ₁ rest (respelled_unless right contextNext T) m₂ =
      subst (λ (Γ : Context). Standing M Δ (rename_unless right ρ (renaming Γ T)) rest (respelled_unless right contextNext T) m₂) eN (fresh (later sN grown) right (ids E) T dr) in
      same-Create W n m var ty (work_clauses cs true) (linearize_clauses cs true ρ) fc (rename_ids ρ fc) (work_stmt next) (λ r σ. linearize_stmt next (rename_unless r ρ σ)) fv (rename_ids ρ fv)
      eN eE
      (work_scoped_clauses cs true sc.1 sE n ∙ ap (λ (Γ : Context). linearize_clauses cs true ρ Γ m) eE)
      (work_scoped next sc.3 (behind fv (b ∷ []) sT sc.2 n) (n + 1)
      ∙ ap (λ (Γ : Context). linearize_stmt next ρ₁ Γ m₂) (behind_is fv (b ∷ []) sT sc.2 n ∙ ap (λ (Γ : Context). Γ ++ (b ∷ [])) (respelled_is (later sN grown) right (ids E) T dr)))
  work_scoped (Invoke var tag ty args) {ρ = ρ} {W} {m} sc s n =
      same-Invoke W n m var (rename ρ var) tag ty args (rename_context ρ args) (used-renamed s.stand var (s.has var.id (inl refl))) (used_all-renamed s.stand args (λ x h. s.has x (inr h)))
  work_scoped (Literal lit var next) {M} {Δ} {ρ} {W} {m} sc s n =
      let b = bind var Ext I64 in
      let fv = free_vars next in
      let reads : Reads ρ W fv = below-read fv (b ∷ []) s sc.0 in
      same-Literal W n m lit var (work_stmt next) (linearize_stmt next ρ) fv (rename_ids ρ fv)
      (kept_is s fv reads)
      (work_scoped next sc.1 (next-stands fv b s sc.0 fv reads n (λ x h. h) (le_refl m)) (n + 1)
      ∙ ap (λ (Γ : Context). linearize_stmt next ρ Γ m) (next_is_lem fv b s sc.0 fv reads n))
  work_scoped (Op fst op snd var next) {M} {Δ} {ρ} {W} {m} sc s n =
      let b = bind var Ext I64 in
      let fv = free_vars next in
      let z = fst.id ∷ snd.id ∷ fv in
      let s₁ : Standing M Δ ρ (without fv (var.id ∷ [])) W m = fewer s (λ x h. inr (inr h)) in
      let reads : Reads ρ W z = also fst.id (snd.id ∷ fv) (s.has fst.id (inl refl)) (also snd.id fv (s.has snd.id (inr (inl refl))) (below-read fv (b ∷ []) s₁ sc.2)) in
      let ids₀ : rename_ids ρ z ≡ (rename ρ fst).id ∷ (rename ρ snd).id ∷ rename_ids ρ fv = ap₂ (λ (x y : VarId). x ∷ y ∷ rename_ids ρ fv) (sym (rename-id ρ fst)) (sym (rename-id ρ snd)) in
      let e = ap (λ (r : List VarId). filter_by_set_lem r (bindings W)) ids₀ in
      same-Op W n m fst (rename ρ fst) op snd (rename ρ snd) var (work_stmt next) (linearize_stmt next ρ) fv (rename_ids ρ fv)
      (used-renamed s.stand fst (s.has fst.id (inl refl)))
      (used-renamed s.stand snd (s.has snd.id (inr (inl refl))))
      (kept_is s z reads ∙ e)
      (work_scoped next sc.3 (next-stands fv b s₁ sc.2 z reads n (λ x h. inr (inr h)) (le_refl m)) (n + 1)
      ∙ ap (λ (Γ : Context). linearize_stmt next ρ Γ m) (next_is_lem fv b s₁ sc.2 z reads n ∙ ap (λ (Γ : Context). Γ ++ (b ∷ [])) e))
    where
      also : (y : VarId) (q : List VarId) → HasEntry W y → Reads ρ W q → Reads ρ W (y ∷ q)
      also y q h r x (inl p) = inl (subst (HasEntry W) (sym p) h)
      also y q h r x (inr k) = r x k
  work_scoped (IfC sort fst snd thenc elsec) {M} {Δ} {ρ} {W} {m} sc s n =
      let both = free_vars thenc ++ free_vars elsec in
      same-IfC W n m sort fst (rename ρ fst) snd (rename_option ρ snd) (work_stmt thenc) (work_stmt elsec) (linearize_stmt thenc ρ) (linearize_stmt elsec ρ)
      (used-renamed s.stand fst (s.has fst.id (inl refl)))
      (used_option-renamed s.stand snd (λ x h. s.has x (inr (∈_left x (optional_id snd) both h))))
      (work_scoped thenc sc.2 (fewer s (λ x h. inr (∈_right x (optional_id snd) both (∈_left x (free_vars thenc) (free_vars elsec) h)))) n)
      (work_scoped elsec sc.3 (later (fewer s (λ x h. inr (∈_right x (optional_id snd) both (∈_right x (free_vars thenc) (free_vars elsec) h)))) (linearize_stmt-grows thenc ρ (bindings W) m)) n)
  work_scoped (PrintI64 newline var next) {ρ = ρ} {W} {m} sc s n =
      let fv = free_vars next in
      let z = var.id ∷ fv in
      let reads : Reads ρ W z = λ x h. inl (s.has x h) in
      let e : bindings (kept z W) ≡ filter_by_set_lem ((rename ρ var).id ∷ rename_ids ρ fv) (bindings W) =
      kept_is s z reads ∙ ap (λ (x : VarId). filter_by_set_lem (x ∷ rename_ids ρ fv) (bindings W)) (sym (rename-id ρ var)) in
      same-PrintI64 W n m newline var (rename ρ var) (work_stmt next) (linearize_stmt next ρ) fv (rename_ids ρ fv)
      (used-renamed s.stand var (s.has var.id (inl refl)))
      e
      (work_scoped next sc.1 (part s z reads (λ x h. inr h) (λ x h. inr h)) n ∙ ap (λ (Γ : Context). linearize_stmt next ρ Γ m) e)
  work_scoped (Exit var) {ρ = ρ} {W} {m} sc s n = same-Exit W n m var (rename ρ var) (used-renamed s.stand var (s.has var.id (inl refl)))

  pub work_scoped_clauses : (cs : Clauses) (before : Bool) {M : ℕ} {Δ : List VarId} {ρ : Renaming} {W : Work} {m : ℕ} → ScopedClauses cs M Δ
      → Standing M Δ ρ (free_vars_clauses cs) W m → (n : ℕ) → work_clauses cs before W n m ≡ linearize_clauses cs before ρ (bindings W) m
  work_scoped_clauses end before sc s n = refl
  work_scoped_clauses (clause xtor context body rest) before {M} {Δ} {ρ} {W} {m} sc s n =
      let fv = free_vars body in
      let Γ = cond before (context ++ bindings W) (bindings W ++ context) in
      let s₁ : Standing M Δ ρ (without fv (ids context)) W m = fewer s (λ x h. ∈_left x (without fv (ids context)) (free_vars_clauses rest) h) in
      let s₂ : Standing M Δ ρ (free_vars_clauses rest) W m = fewer s (λ x h. ∈_right x (without fv (ids context)) (free_vars_clauses rest) h) in
      same-Clause W n m xtor context before (work_stmt body) (linearize_stmt body ρ) (work_clauses rest before) (linearize_clauses rest before ρ)
      (work_scoped body sc.1 (joined fv context s₁ sc.0 n before) (n + length context) ∙ ap (λ (r : Context). linearize_stmt body ρ r m) (joined_is fv context s₁ sc.0 n before))
      (work_scoped_clauses rest before sc.2 (later s₂ (linearize_stmt-grows body ρ Γ m)) n)

-- ── under the questions ──

-- a statement with a yes to 6, 8, 9 and 10, with Δ in scope and under a max_id M
pub work_stmt_lem : (t : Stmt) {M : ℕ} {Δ : List VarId} {ρ : Renaming} {W : Work} {m : ℕ}
    → asked t plain any_binders Δ ≡ true → asked t any_stmt new Δ ≡ true → asked t in_scope_lem any_binders Δ ≡ true → asked t any_stmt (up_to M) Δ ≡ true
    → Standing M Δ ρ (free_vars t) W m → (n : ℕ) → work_stmt t W n m ≡ linearize_stmt t ρ (bindings W) m
work_stmt_lem t {M} {Δ} six eight nine ten s n =
    work_scoped t (scoped-says t M Δ (answered t plain any_binders Δ six) (answered t any_stmt new Δ eight) (answered t in_scope_lem any_binders Δ nine) (answered t any_stmt (up_to M) Δ ten)) s n

pub work_clauses_lem : (cs : Clauses) (before : Bool) {M : ℕ} {Δ : List VarId} {ρ : Renaming} {W : Work} {m : ℕ}
    → asked_clauses cs plain any_binders Δ ≡ true → asked_clauses cs any_stmt new Δ ≡ true → asked_clauses cs in_scope_lem any_binders Δ ≡ true → asked_clauses cs any_stmt (up_to M) Δ ≡ true
    → Standing M Δ ρ (free_vars_clauses cs) W m → (n : ℕ) → work_clauses cs before W n m ≡ linearize_clauses cs before ρ (bindings W) m
work_clauses_lem cs before {M} {Δ} six eight nine ten s n =
    let scoped = scoped_clauses_says cs M Δ (answered_clauses cs plain any_binders Δ six) (answered_clauses cs any_stmt new Δ eight)
    (answered_clauses cs in_scope_lem any_binders Δ nine) (answered_clauses cs any_stmt (up_to M) Δ ten) in
    work_scoped_clauses cs before scoped s n

-- ── programs ──

-- a body begins with its parameters, which stand for themselves
pub body-stands : (M m : ℕ) (ps : Context) (t : Stmt) → M ≤ m → Binds M [] (ids ps) → Scoped t M (ids ps) → Standing M (ids ps) no_renaming (free_vars t) (owns 0 ps) m
body-stands M m ps t h b sc = subst (λ (Δ : List VarId). Standing M Δ no_renaming (free_vars t) (owns 0 ps) m) (append-nil (ids ps)) (behind (free_vars t) ps none_yet b 0)
  where
    none_yet : Standing M [] no_renaming (without (free_vars t) (ids ps)) [] m
    none_yet = record {
      good = record { once = tt; known = λ x k. absurd k; up_to = λ x k. absurd k; above = h; moved = λ x. inl refl };
      stand = λ e k. absurd (Memᴰ.not-nil k);
      has = λ x k. let w = without-∈ x (free_vars t) (ids ps) k in absurd (w.1 (scoped-free t M (ids ps) sc x w.0));
    }

pub work_scoped_defs : (ds : List Def) (M m : ℕ) → M ≤ m → ScopedDefs ds M → work_defs ds m ≡ linearize_defs ds m
unfolding work_defs linearize_defs
work_scoped_defs [] M m h sc = refl
work_scoped_defs (d ∷ ds) M m h sc =
    let e : work_stmt d.body (owns 0 d.context) (length d.context) m ≡ linearize_stmt d.body no_renaming d.context m =
    work_scoped d.body sc.1 (body-stands M m d.context d.body h sc.0 sc.1) (length d.context) ∙ ap (λ (Γ : Context). linearize_stmt d.body no_renaming Γ m) (owns-bindings 0 d.context) in
    rw (e, work_scoped_defs ds M (linearize_stmt d.body no_renaming d.context m).1 (le_trans h (linearize_stmt-grows d.body no_renaming d.context m)) sc.2)

-- of a program with a yes to 6, 8, 9 and 10
pub work_defs_lem : (P : Prog) → question6 P ≡ true → question8 P ≡ true → question9 P ≡ true → question10 P ≡ true → work_defs P.defs P.max_id ≡ linearize_defs P.defs P.max_id
work_defs_lem P six eight nine ten = work_scoped_defs P.defs P.max_id P.max_id (le_refl P.max_id) (scoped_defs_says P.defs P.max_id six eight nine ten)
