-- `TypingContext::freshen` meets its contract: i places are done, and the rest is as it was. Assumes nothing.
use mathlib.Core.Path.{◌≡◌, sym, ap, ◌∙◌}
use mathlib.Core.List.{List, map}
use Prim.Native.Nat.{ℕ}
use native.Mathlib.Omega.{arith}
use lib.ListN.{length, take, get_or, length-set}
use Rattle.std.proofs.lemmas.List.{take_more_set, map-set, length-take-le}
use Rattle.syntax.specs.Sets.{elem}
use Rattle.syntax.specs.Context.{id_of, empty_binding}
use Rattle.syntax.specs.Flat.{binding_of, empty_flat}
use Rattle.syntax.specs.Fresh.{drawn}
use Rattle.syntax.specs.declared.names.VarId.{VarId}
use Rattle.syntax.specs.declared.context.FlatBinding.{FlatBinding}
use Rattle.syntax.proofs.Flats.{seen_at}
use Rattle.syntax.proofs.Drawing.{freshening-fits, freshening-clash, freshening-kept, freshening-done, freshening-max}
use Rattle.syntax.proofs.context.TypingContext.freshen.Goals as goal
use Rattle.syntax.proofs.context.TypingContext.freshen.Goals.{After-contains, then-contains, else-contains}

-- what is read at i stands there
id_at : (bindings : List FlatBinding) (i : ℕ) → id_of (get_or (map binding_of bindings) i empty_binding) ≡ (get_or bindings i empty_flat).id
id_at bindings i = ap id_of (sym (seen_at binding_of bindings i empty_flat))

-- the test says whether the ID is among those seen
tested : (c : After-contains) →
    let l = c.loop-i in
    elem (id_of (get_or (map binding_of l.out.0) l.i empty_binding)) (take l.seen.1.0 l.seen.0) ≡ c.contains.result
tested c =
    let l = c.loop-i in
    let seen = take l.seen.1.0 l.seen.0 in
    ap (λ (x : VarId). elem x seen) (id_at l.out.0 l.i) ∙ sym c.contains.ensures

pub drawn-renamed-requires : goal.drawn-renamed-requires
drawn-renamed-requires c =
    let l = c.loop-i in
    let e = freshening-fits empty_binding c.loop-i-test.true l.invariant.turn (tested (goal.at.drawn-renamed-requires c).After-contains ∙ c.if-contains.true) in
    omega (arith, e, c.requires.1)

pub loop-i-preserved : goal.loop-i-preserved
loop-i-preserved c =
    let l = c.loop-i in
    let h = c.loop-i-test.true in
    let test = tested (goal.at.loop-i-preserved c).After-contains in
    elim c.if-contains.branch [
      | then-contains w ↦
          let v = w.drawn-renamed in
          let e = map-set binding_of l.out.0 l.i v.result in
          let d = v.ensures ∙ ap (drawn l.max.0) (seen_at binding_of l.out.0 l.i empty_flat) in
          rw (w.out-is, w.seen-is, w.max-is) record {
            size = rw (e, length-set) l.invariant.size;
            len = l.invariant.len;
            wide = l.invariant.wide;
            room = omega (arith, l.invariant.room);
            turn = rw e (freshening-clash empty_binding h l.invariant.turn (binding_of v.result) d (test ∙ w.if-contains.true));
          }
      | else-contains w ↦
          rw (w.out-is, w.seen-is, w.max-is) record {
            size = l.invariant.size;
            len = l.invariant.len;
            wide = rw length-set l.invariant.wide;
            room = omega (arith, l.invariant.room);
            turn = freshening-kept empty_binding h l.invariant.turn _ (rw (id_at l.out.0 l.i) (take_more_set l.seen.0 l.seen.1.0 _ (omega arith))) (test ∙ w.if-contains.false);
          }
    ]

pub returns : goal.returns
returns c =
    let l = c.loop-i in
    let h = c.loop-i-test.false in
    let e = freshening-done h l.invariant.turn in
    record {
      holds = record {
        count = sym (ap length (sym e) ∙ length-take-le _ (map binding_of l.out.0) l.invariant.turn.within ∙ sym l.invariant.len);
        list = rw l.invariant.len e;
      };
      max = freshening-max h l.invariant.turn;
    }
