-- `Held::move_behind` meets its contract: i entries are stored. Assumes nothing.
use mathlib.Core.Path.{◌≡◌, refl, sym, ◌∙◌}
use Prim.Native.Nat.{◌+◌, ◌-◌}
use native.Mathlib.Omega.{arith}
use lib.ListN.{length, take, get_or}
use Rattle.pass_work_spec.specs.Work.{moved_behind}
use Rattle.pass_work_spec.proofs.Lengths.{moved_length}
use Rattle.pass_entries.specs.Entries.{entry_in, empty_flat_entry, empty_entry}
use Rattle.pass_context.specs.Holding.{entries_in}
use Rattle.pass_context.proofs.Counts.{entries-size, held-fits, work-count}
use Rattle.pass_context.proofs.Stores.{built-start, built-seen}
use Rattle.pass_context.proofs.Elements.{entry_at, moved-left, moved-right}
use Rattle.pass_context.proofs.HeldLaws.{stored-all}
use Rattle.pass_context.proofs.Held.move_behind.Goals as goal
use Rattle.pass_context.proofs.Held.move_behind.Goals.{Start, then-i-k, else-i-k}

-- as many entries as before
counted : (c : Start) → length (moved_behind c.args.j (take c.args.self.len (entries_in c.args.self))) ≡ c.args.self.len
counted c = moved_length c.args.j (take c.args.self.len (entries_in c.args.self)) ∙ sym (work-count c.args.self)

pub loop-i-init : goal.loop-i-init
loop-i-init c = record { len-is = refl; turn = built-start _ (entries_in c.args.self) (entries-size c.args.self) (omega (arith, c.args.self.fits, counted c)) }

pub loop-i-preserved : goal.loop-i-preserved
loop-i-preserved c =
    let l = c.loop-i in
    let s = (goal.at.loop-i-preserved c).Start in
    let j = c.args.j in
    let k = c.args.self.len - j in
    record {
      len-is = l.invariant.len-is;
      turn = elim c.if-i-k.branch [
        | then-i-k w ↦ rw w.out-is
            (built-seen entry_in l.out.0 empty_entry (get_or c.args.self.entries (l.i + j) empty_flat_entry) (omega (arith, counted s))
            (entry_at c.args.self (l.i + j) ∙ moved-left (entries_in c.args.self) c.args.self.len j l.i empty_entry (held-fits c.args.self) (omega arith) w.if-i-k.true) l.invariant.turn)
        | else-i-k w ↦ rw w.out-is
            (built-seen entry_in l.out.0 empty_entry (get_or c.args.self.entries (l.i - k) empty_flat_entry) (omega (arith, counted s))
            (entry_at c.args.self (l.i - k) ∙ moved-right (entries_in c.args.self) c.args.self.len j l.i empty_entry (held-fits c.args.self) (omega arith) w.if-i-k.false c.loop-i-test.true) l.invariant.turn)
      ];
    }

pub returns : goal.returns
returns c =
    let l = c.loop-i in
    let q = sym (counted (goal.at.returns c).Start) in
    stored-all (l.invariant.len-is ∙ q) (omega (arith, l.invariant.len-is)) l.invariant.turn
