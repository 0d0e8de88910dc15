-- `linearize` of a Switch meets its contract. Assumes nothing.
use mathlib.Core.Path.{refl}
use Rattle.pass_step.proofs.WriteLaws.{recorded, keeps_drawn}
use Rattle.pass_statement_switch.proofs.SwitchLaws.{switch_leaves}
use Rattle.pass_statement_switch.proofs.switch.linearize.Goals as goal

pub fresh_var-fresh-requires : goal.fresh_var-fresh-requires
fresh_var-fresh-requires c =
    c.requires.1.1.1.max_id

pub returns : goal.returns
returns c =
    let l = c.switch-statement in
    let k = c.arrange_one.ensures in
    let z = recorded _ k.1 c.put_switch.ensures c.note.ensures in (
      switch_leaves l.result.var l.result.ty l.result.clauses l.ensures c.requires.1.1.0 c.matched-xtor.ensures c.ids.ensures c.fresh_var-fresh.ensures k.0 z.puts z.noted refl,
      keeps_drawn z.keeps,
    )
