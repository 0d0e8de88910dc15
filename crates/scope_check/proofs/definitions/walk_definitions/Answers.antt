-- `walk_definitions` meets its contract. Assumes nothing.
use Prim.Native.Nat.{ℕ}
use mathlib.Core.Path.{refl, sym, ap, ◌∙◌}
use native.Mathlib.Omega.{arith}
use lib.ListN.{length-replicate}
use Rattle.image_directory.proofs.Places.{records-length}
use Rattle.scope_places.specs.Places.{scope_in}
use Rattle.scope_check.proofs.DefLaws.{recount, def-next, def-kind}
use Rattle.scope_check.proofs.DefWalks.{def-walked, walked-defs}
use Rattle.scope_check.proofs.definitions.walk_definitions.Goals as goal

pub loop-init : goal.loop-init
loop-init c = (
  (length-replicate {A = ℕ} 64 0, refl),
  (
    refl,
    recount {left = c.args.definitions} (omega arith) record { rest = _; stand = c.requires; holds = record { same = refl; masks = λ q. record { sourced = q; rows_are = refl } } },
  ),
)

pub invariant_of-scope : goal.invariant_of-scope
invariant_of-scope c = record { fits = record { small = omega arith; room = omega (arith, length-replicate {A = ℕ} 64 0) } }

pub invariant_of-scope-in-loop : goal.invariant_of-scope-in-loop
invariant_of-scope-in-loop c = let l = c.loop.invariant in record { fits = record { small = omega (arith, l.0.1); room = omega (arith, l.0.0) } }

pub invariant_of-node : goal.invariant_of-node
invariant_of-node c =
    let m = c.args.walkable.now.image in
    let x = def-next c.loop.invariant.1.1 (omega arith) in
    record { there = record { inside = omega (arith, x.inside, records-length m.frame m.bytes.now m.ready); kind = def-kind x } }

pub statement-b-requires : goal.statement-b-requires
statement-b-requires c = (def-next c.loop.invariant.1.1 (omega arith)).body

pub loop-preserved : goal.loop-preserved
loop-preserved c =
    let l = c.loop.invariant in
    let e = c.enter_list-bound in
    let entered = rw c.list_at-list.ensures at e.ensures in
    let w = c.statement-b in
    let p = c.put_row in
    let x = def-next l.1.1 (omega arith) in (
      (w.ensures.1.0.kept.long ∙ (entered.kept.long ∙ l.0.0), refl),
      (p.auto.rows ∙ (w.auto.rows ∙ l.1.0), recount (omega arith) (def-walked x e.new.scope e.result w.result (ap (λ n. scope_in n c.loop.scope.0.now) l.0.1) entered.is w.ensures.0 w.ensures.1.1 p.ensures)),
    )

pub returns : goal.returns
returns c = let w = walked-defs c.loop.invariant.1.1 (omega arith) in (sym w.0, w.1)
