-- `Held::respelled` meets its contract: i entries are respelled in place. Assumes nothing.
use mathlib.Core.Path.{◌≡◌, refl, sym, ap₂, ◌∙◌}
use native.Mathlib.Omega.{arith}
use lib.ListN.{length}
use lib.Seq.{get_or-take}
use Rattle.syntax.specs.Context.{empty_binding}
use Rattle.syntax.specs.Flat.{binding_of, empty_flat}
use Rattle.syntax.specs.Arrays.{bindings_in, context_of}
use Rattle.syntax.proofs.Counts.{context-count}
use Rattle.syntax.proofs.Flats.{seen_at}
use Rattle.pass_work_spec.specs.Work.{respell, respelled}
use Rattle.pass_entries.specs.Entries.{entry_in, empty_entry}
use Rattle.pass_context.specs.Holding.{entries_in, work_of}
use Rattle.pass_context.proofs.Counts.{entries-size, work-count}
use Rattle.pass_context.proofs.Stores.{built-start, built-seen}
use Rattle.pass_context.proofs.Elements.{entry_at, respelled-at, respelled-count}
use Rattle.pass_context.proofs.HeldLaws.{stored-all}
use Rattle.pass_context.proofs.Held.respelled.Goals as goal
use Rattle.pass_context.proofs.Held.respelled.Goals.{Start}

-- the counts of both
count_names : (c : Start) → length (context_of c.args.names) ≡ length (work_of c.args.self)
count_names c = sym (context-count c.args.names) ∙ c.requires ∙ work-count c.args.self

counted : (c : Start) → length (respelled (work_of c.args.self) (context_of c.args.names)) ≡ c.args.self.len
counted c = respelled-count (work_of c.args.self) (context_of c.args.names) (count_names c) ∙ sym (work-count c.args.self)

pub loop-i-init : goal.loop-i-init
loop-i-init c = record { len-is = refl; turn = built-start _ (entries_in c.args.self) (entries-size c.args.self) (omega (arith, c.args.self.fits, counted c)) }

pub loop-i-preserved : goal.loop-i-preserved
loop-i-preserved c =
    let l = c.loop-i in
    let h = c.loop-i-test.true in
    let e = c.entry.ensures ∙ entry_at c.args.self l.i in
    let b = c.binding.ensures ∙ seen_at binding_of c.args.names.bindings l.i empty_flat in
    record {
      len-is = l.invariant.len-is;
      turn = built-seen entry_in l.out.0 empty_entry c.from.result (omega (arith, counted (goal.at.loop-i-preserved c).Start))
          (c.from.ensures
          ∙ c.respell.ensures
          ∙ ap₂ respell (e ∙ sym (get_or-take c.args.self.len (entries_in c.args.self) l.i empty_entry h)) (b ∙ sym (get_or-take c.args.names.len (bindings_in c.args.names) l.i empty_binding (omega arith)))
          ∙ respelled-at (work_of c.args.self) (context_of c.args.names) l.i empty_entry empty_binding (omega (arith, work-count c.args.self)) (count_names (goal.at.loop-i-preserved c).Start)) l.invariant.turn;
    }

pub returns : goal.returns
returns c =
    let l = c.loop-i in
    let q = sym (counted (goal.at.returns c).Start) in
    stored-all (l.invariant.len-is ∙ q) (omega (arith, l.invariant.len-is)) l.invariant.turn
