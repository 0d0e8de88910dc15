-- `gather_from` meets its contract. Assumes nothing.
use Prim.Native.Nat.{ℕ, ◌<◌}
use mathlib.Core.Path.{◌≡◌, sym, ap, ◌∙◌}
use mathlib.Core.Bool.{false≢true}
use mathlib.Core.List.{List}
use native.Mathlib.Omega.{arith}
use lib.ListN.{length, drop, length-map, get_or-map}
use Rattle.syntax.specs.declared.names.VarId.{VarId}
use Rattle.step_slots.specs.Slots.{Slot, as_slot}
use Rattle.step_slots.specs.Views.{no_slot, slots_at, is_slot}
use Rattle.step_slots.proofs.SortLaws.{slot-is}
use Rattle.step_entries.specs.Named.{named, under}
use Rattle.step_rows.specs.Rows.{ids_of, id_at}
use Rattle.step_rows.specs.Placing.{identified}
use Rattle.step_rows.proofs.RowLaws.{ids-length}
use Rattle.step_rows.proofs.RowLoops.{Turns, passed_none, passed-next, passed_not, passed-all, every_turns}
use Rattle.step_gather.specs.Gathering.{all_found_lem, found_slots}
use Rattle.step_gather.proofs.Filling.{filled_none, filled_next, filled_all, filled_same}
use Rattle.step_gather.proofs.gather_from.Goals as goal
use Rattle.step_gather.proofs.gather_from.Goals.{Start}

-- the variables and the slots among which they are looked up
abbrev xs : Start → List VarId
xs c = ids_of c.args.row.now

abbrev E : Start → List Slot
E c = slots_at c.args.store.now c.args.at c.args.n

turns : (c : Start) → Turns c.args.row.now.places.len (λ k. all_found_lem (E c) (drop k (xs c))) (λ k. is_slot (named (id_at c.args.row.now k).0 (E c)))
turns c = every_turns c.args.row.now (λ (x : VarId). is_slot (named x.0 (E c)))

-- the value of one of them
abbrev value : Start → VarId → Slot
value c x = under 0 (named x.0 (E c))

found_length : (c : Start) → length (found_slots (E c) (xs c)) ≡ c.args.row.now.places.len
found_length c = length-map (xs c) (value c) ∙ ids-length c.args.row.now.bytes.now c.args.row.now.places

-- what was found under an ID that was read is the slot of the variable at place j
is_found : (c : Start) (j i : ℕ) {t : Slot} → i ≡ (id_at c.args.row.now j).0 → t ≡ named i (E c) → t ≡ named (id_at c.args.row.now j).0 (E c)
is_found c j i e f = f ∙ ap (λ (k : ℕ). named k (E c)) e

pub loop-j-init : goal.loop-j-init
loop-j-init c = (passed_none, filled_none _ _ _)

pub returns-in_default : goal.returns-in_default
returns-in_default c =
    let s = (goal.at.returns-in_default c).Start in
    let q = is_found s c.loop-j.j c.id_of.result {t = no_slot} c.id_of.ensures c.in_default.ensures in
    record {
      found = passed_not (turns s) c.loop-j.invariant.0 c.loop-j-test.true (ap is_slot (sym q));
      put = λ e. absurd (false≢true e);
    }

pub put_slot-requires : goal.put_slot-requires
put_slot-requires c = omega (arith, c.requires.1.1, filled_same c.loop-j.invariant.1)

pub loop-j-preserved : goal.loop-j-preserved
loop-j-preserved c =
    let s = (goal.at.loop-j-preserved c).Start in
    let h = c.loop-j-test.true in
    let f = is_found s c.loop-j.j c.id_of.result {t = as_slot c.in-Some.found} c.id_of.ensures c.in-Some.ensures in
    let q = ap (under 0) f ∙ sym (get_or-map (value s) (xs s) c.loop-j.j (identified 0)) in
    let k : c.loop-j.j < length (found_slots (E s) (xs s)) = omega (arith, h, found_length s) in (
      passed-next (turns s) c.loop-j.invariant.0 h (ap is_slot (sym f) ∙ slot-is c.in-Some.found),
      filled_next c.loop-j.invariant.1 _ (under 0 (as_slot c.in-Some.found)) k q c.put_slot.ensures,
    )

pub shape_of-out : goal.shape_of-out
shape_of-out c = filled_same c.loop-j.invariant.1

pub shape_of-out-in_default : goal.shape_of-out-in_default
shape_of-out-in_default c = filled_same c.loop-j.invariant.1

pub returns : goal.returns
returns c =
    let s = (goal.at.returns c).Start in
    record {
      found = passed-all (turns s) c.loop-j.invariant.0 c.loop-j-test.false;
      put = λ e. (filled_all c.loop-j.invariant.1 c.args.row.now.places.len (sym (found_length s)) c.loop-j-test.false).holds;
    }
