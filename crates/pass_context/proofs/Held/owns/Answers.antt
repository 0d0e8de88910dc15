-- `Held::owns` meets its contract: i binders are stored behind the others. Assumes nothing.
use mathlib.Core.Path.{refl, sym, ◌≡◌, ap, ◌∙◌}
use mathlib.Core.List.{◌++◌}
use Prim.Native.Nat.{◌+◌}
use native.Mathlib.Omega.{arith}
use lib.ListN.{length, length-append}
use Rattle.syntax.specs.Flat.{binding_of, empty_flat}
use Rattle.syntax.specs.Arrays.{bindings_in, context_of}
use Rattle.syntax.proofs.Counts.{context-fits, context-count}
use Rattle.syntax.proofs.Flats.{seen_at}
use Rattle.pass_work_spec.specs.Work.{own, owns}
use Rattle.pass_work_spec.proofs.Lengths.{owns-length}
use Rattle.pass_entries.specs.Entries.{entry_in, empty_entry}
use Rattle.pass_context.specs.Holding.{entries_in, work_of}
use Rattle.pass_context.proofs.Counts.{entries-size, work-count}
use Rattle.pass_context.proofs.Stores.{built-behind, built-seen}
use Rattle.pass_context.proofs.Elements.{owned_behind}
use Rattle.pass_context.proofs.HeldLaws.{stored-all}
use Rattle.pass_context.proofs.Held.owns.Goals as goal
use Rattle.pass_context.proofs.Held.owns.Goals.{Start}

-- the counts of the binders, and of all
count_owns : (c : Start) → length (owns c.args.n (context_of c.args.params)) ≡ c.args.params.len
count_owns c = owns-length c.args.n (context_of c.args.params) ∙ sym (context-count c.args.params)

counted : (c : Start) → length (work_of c.args.self ++ owns c.args.n (context_of c.args.params)) ≡ c.args.self.len + c.args.params.len
counted c = omega (arith, length-append (work_of c.args.self) (owns c.args.n (context_of c.args.params)), work-count c.args.self, count_owns c)

pub loop-i-init : goal.loop-i-init
loop-i-init c =
    let q : c.args.self.len + 0 ≡ c.args.self.len = omega arith in
    rw q (built-behind (entries_in c.args.self) (owns c.args.n (context_of c.args.params)) c.args.self.len (entries-size c.args.self) (omega (arith, count_owns c)))

pub loop-i-preserved : goal.loop-i-preserved
loop-i-preserved c =
    let l = c.loop-i in
    let s = (goal.at.loop-i-preserved c).Start in
    let b = c.binding.ensures ∙ seen_at binding_of c.args.params.bindings l.i empty_flat in
    let self = c.args.self in
    let params = c.args.params in
    let e = owned_behind (work_of self) (bindings_in params) params.len self.len c.args.n l.i (self.len + l.i) (c.args.n + l.i) (sym (work-count self)) c.loop-i-test.true (context-fits params) refl refl in
    let q : c.args.self.len + (l.i + 1) ≡ c.args.self.len + l.i + 1 = omega arith in
    rw q (built-seen entry_in l.out.0 empty_entry c.from.result (omega (arith, counted s)) (c.from.ensures ∙ c.owned.ensures ∙ ap (own (c.args.n + l.i)) b ∙ e) l.invariant)

pub returns : goal.returns
returns c =
    let q = sym (counted (goal.at.returns c).Start) in
    stored-all q (omega (arith, c.loop-i-test.false)) c.loop-i.invariant
