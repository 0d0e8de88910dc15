-- `Held::same` meets its contract. Assumes nothing.
use Rattle.std.proofs.Common.{rules, tests, ℕ, ◌≡◌, ◌+◌, sym, ◌∙◌, arith, length, get_or, ◌++◌}
use Rattle.std.proofs.lemmas.Iterator.{YieldsList-from_range}
use Rattle.std.proofs.lemmas.Iterator.Search.{all_from_yields_List}
use lib.ListN.{length-append}
use Rattle.syntax.specs.Context.{empty_binding, same_binding}
use Rattle.syntax.specs.Arrays.{context_of}
use Rattle.syntax.proofs.Counts.{context-count}
use Rattle.syntax.proofs.Same.{same-lengths}
use Rattle.pass_work_spec.specs.Work.{bindings}
use Rattle.pass_context.specs.Holding.{entries_in, work_of}
use Rattle.pass_context.proofs.Counts.{held-fits}
use Rattle.pass_context.proofs.Elements.{bindings-count}
use Rattle.pass_context.proofs.Comparisons.{same_by_places}
use Rattle.pass_context.proofs.Held.same.Goals as goal
use Rattle.pass_context.proofs.Held.same.Goals.{Start}

-- the counts of the bindings and of the two contexts
count_self : (c : Start) → length (bindings (work_of c.args.self)) ≡ c.args.self.len
count_self c = bindings-count (entries_in c.args.self) c.args.self.len (held-fits c.args.self)

count_both : (c : Start) → length (context_of c.args.front ++ context_of c.args.back) ≡ c.args.front.len + c.args.back.len
count_both c = omega (arith, length-append (context_of c.args.front) (context_of c.args.back), context-count c.args.front, context-count c.args.back)

pub returns-then-n-front : goal.returns-then-n-front
returns-then-n-front c =
    let s = (goal.at.returns-then-n-front c).Start in
    sym (same-lengths (bindings (work_of c.args.self)) (context_of c.args.front ++ context_of c.args.back) (λ e. c.if-n-front.true (omega (arith, e, count_self s, count_both s))))

pub returns : goal.returns
returns c =
    let s = (goal.at.returns c).Start in
    let Γ = bindings (work_of c.args.self) in
    let Δ = context_of c.args.front ++ context_of c.args.back in
    let n = c.args.self.len in
    all_from_yields_List (λ (i : ℕ). same_binding (get_or Γ i empty_binding) (get_or Δ i empty_binding)) _ _ c.all.result c.all.ensures.ran
    (YieldsList-from_range 0 n n (cc) (omega arith)) (λ y b q k. search (rules, tests))
    ∙ same_by_places Γ Δ n empty_binding (count_self s) (count_both s ∙ sym c.if-n-front.false)
