use mathlib.Core.Path.{◌≡◌, sym, ◌∙◌}
use mathlib.Core.Bool.{◌&&◌}
use Rattle.step_header.proofs.HeaderLaws.{no_ended, no_stopped, header_parse, chosen}
use Rattle.step_header.proofs.read_header.Goals as goal
use Rattle.step_header.proofs.read_header.Goals.{then-short_zeros, else-short_zeros}

pub returns-in_err-ended : goal.returns-in_err-ended
returns-in_err-ended c = rw c.from_residual.ensures (no_ended c.args.s.now c.requires c.number-position.ensures c.in_err-ended.ensures)

pub returns-in_err-stopped : goal.returns-in_err-stopped
returns-in_err-stopped c = rw c.from_residual-in_err-stopped.ensures (no_stopped c.args.s.now c.requires c.number-position.ensures c.in_ok-ended.ensures c.in_err-stopped.ensures)

pub returns : goal.returns
returns c =
    let y = c.all_zero-short_zeros in
    let z = c.all_zero-long_zeros in
    let zeros_are : y.result && z.result ≡ c.if-short_zeros.then_some = elim c.if-short_zeros.branch [
      | then-short_zeros w ↦ rw w.if-short_zeros.true (sym w.then_some-is)
      | else-short_zeros w ↦ rw w.if-short_zeros.false (sym (w.then_some-is ∙ w.if-short_zeros.false))
    ] in
    header_parse c.args.s.now c.requires c.number-position.ensures c.in_ok-ended.ensures c.in_ok-stopped.ensures y.result z.result
    y.ensures c.long_at-cells.ensures c.long_at-heap.ensures c.long_at-entries.ensures z.ensures
    ∙ rw (c.then_some.ensures, zeros_are) (chosen _ _ _)
