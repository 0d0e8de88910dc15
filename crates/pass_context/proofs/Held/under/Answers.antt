-- `Held::under` meets its contract: i entries are stored. Assumes nothing.
use mathlib.Core.Path.{◌≡◌, sym, ap, ◌∙◌}
use mathlib.Core.List.{◌++◌}
use Prim.Native.Nat.{◌+◌, ◌-◌}
use native.Mathlib.Omega.{arith}
use lib.ListN.{length, get_or}
use Rattle.syntax.specs.Flat.{binding_of, empty_flat}
use Rattle.syntax.specs.Arrays.{bindings_in, context_of}
use Rattle.syntax.proofs.Counts.{context-fits}
use Rattle.syntax.proofs.Flats.{seen_at}
use Rattle.pass_work_spec.specs.Work.{own, owns}
use Rattle.pass_entries.specs.Entries.{entry_in, empty_flat_entry, empty_entry}
use Rattle.pass_context.specs.Holding.{entries_in, work_of}
use Rattle.pass_context.proofs.Counts.{entries-size, held-fits}
use Rattle.pass_context.proofs.Stores.{built-start, built-seen}
use Rattle.pass_context.proofs.Elements.{entry_at, under-count, under_left, under-right}
use Rattle.pass_context.proofs.HeldLaws.{stored-all}
use Rattle.pass_context.proofs.Held.under.Goals as goal
use Rattle.pass_context.proofs.Held.under.Goals.{Start, then-i-k, else-i-k}

counted : (c : Start) → length (owns c.args.n (context_of c.args.params) ++ work_of c.args.self) ≡ c.args.params.len + c.args.self.len
counted c = under-count (bindings_in c.args.params) c.args.params.len c.args.n (entries_in c.args.self) c.args.self.len (context-fits c.args.params) (held-fits c.args.self)

pub loop-i-init : goal.loop-i-init
loop-i-init c = built-start _ (entries_in c.args.self) (entries-size c.args.self) (omega (arith, counted c))

pub loop-i-preserved : goal.loop-i-preserved
loop-i-preserved c =
    let l = c.loop-i in
    let s = (goal.at.loop-i-preserved c).Start in
    let k = c.args.params.len in
    elim c.if-i-k.branch [
      | then-i-k w ↦
          let b = w.binding.ensures ∙ seen_at binding_of c.args.params.bindings l.i empty_flat in
          let e = under_left (bindings_in c.args.params) k c.args.n (entries_in c.args.self) c.args.self.len (context-fits c.args.params) l.i w.if-i-k.true in
          rw w.out-is (built-seen entry_in l.out.0 empty_entry w.from.result (omega (arith, counted s)) (w.from.ensures ∙ w.owned.ensures ∙ ap (own (c.args.n + l.i)) b ∙ e) l.invariant)
      | else-i-k w ↦
          let e = under-right (bindings_in c.args.params) k c.args.n (entries_in c.args.self) c.args.self.len (context-fits c.args.params) l.i w.if-i-k.false c.loop-i-test.true in
          rw w.out-is (built-seen entry_in l.out.0 empty_entry (get_or c.args.self.entries (l.i - k) empty_flat_entry) (omega (arith, counted s)) (entry_at c.args.self (l.i - k) ∙ e) l.invariant)
    ]

pub returns : goal.returns
returns c =
    let l = c.loop-i in
    let q = sym (counted (goal.at.returns c).Start) in
    stored-all q c.loop-i-test.false l.invariant
