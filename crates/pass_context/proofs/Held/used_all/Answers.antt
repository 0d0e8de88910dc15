-- `Held::used_all` meets its contract: i bindings are done. Assumes nothing.
use mathlib.Core.Path.{◌≡◌, refl, sym, ap, ◌∙◌}
use mathlib.Core.Option.{some, none}
use native.Mathlib.Omega.{arith}
use Prim.Native.Nat.{◌<◌}
use lib.ListN.{length, get_or}
use Rattle.syntax.specs.Options.{option_of}
use Rattle.syntax.specs.Context.{rebound, empty_binding}
use Rattle.syntax.specs.Flat.{binding_of, empty_flat}
use Rattle.syntax.specs.Arrays.{bindings_in, context_of}
use Rattle.syntax.specs.declared.context.ContextBinding.{ContextBinding}
use Rattle.syntax.proofs.Counts.{bindings-size, context-fits}
use Rattle.syntax.proofs.Flats.{seen_at}
use Rattle.pass_work_spec.specs.Work.{entry_of, spelling, used_binding_lem, used_all_lem}
use Rattle.std.proofs.lemmas.List.{take-map}
use Rattle.pass_entries.specs.Entries.{entry_in}
use Rattle.pass_context.specs.Holding.{work_of}
use Rattle.pass_context.proofs.Stores.{built-start, built-seen, built-done, mapped_at, mapped_count}
use Rattle.pass_context.proofs.Uses.{bound_by}
use Rattle.pass_context.proofs.Held.used_all.Goals as goal
use Rattle.pass_context.proofs.Held.used_all.Goals.{Start, in-Some, in-None}

counted : (c : Start) → length (used_all_lem (work_of c.args.self) (context_of c.args.args)) ≡ c.args.args.len
counted c = mapped_count (used_binding_lem (work_of c.args.self)) (bindings_in c.args.args) c.args.args.len (context-fits c.args.args)

pub loop-i-init : goal.loop-i-init
loop-i-init c = record { len-is = refl; turn = built-start _ (bindings_in c.args.args) (bindings-size c.args.args) (omega (arith, c.args.args.fits, counted c)) }

pub loop-i-preserved : goal.loop-i-preserved
loop-i-preserved c =
    let l = c.loop-i in
    let i = l.i in
    let args = c.args.args in
    let W = work_of c.args.self in
    let b : ContextBinding = binding_of (get_or args.bindings i empty_flat) in
    let found = c.entry_of.ensures ∙ ap (entry_of b.var.id) (sym (take-map entry_in c.args.self.len c.args.self.entries)) in
    let whole = ap (used_binding_lem W) (seen_at binding_of args.bindings i empty_flat) ∙ mapped_at (used_binding_lem W) (bindings_in args) args.len i empty_binding c.loop-i-test.true in
    let room : i < length (used_all_lem W (context_of args)) = omega (arith, counted (goal.at.loop-i-preserved c).Start) in
    record {
      len-is = l.invariant.len-is;
      turn = elim c.match-entry_of.branch [
        | in-Some w ↦
            let here = ap (λ (x : ContextBinding). rebound x (spelling (some w.in-Some.e) x.var)) w.binding.ensures in
            let use' = bound_by W b (some w.in-Some.e) (ap option_of (sym w.in-Some.is) ∙ found) in
            rw w.out-is (built-seen binding_of l.out.0 (used_binding_lem W empty_binding) w.flat.result room (w.flat.ensures ∙ w.used_binding.ensures ∙ here ∙ use' ∙ whole) l.invariant.turn)
        | in-None w ↦
            let use' = bound_by W b none (ap option_of (sym w.in-None.is) ∙ found) in
            rw w.out-is (built-seen binding_of l.out.0 (used_binding_lem W empty_binding) (get_or args.bindings i empty_flat) room (use' ∙ whole) l.invariant.turn)
      ];
    }

pub returns : goal.returns
returns c =
    let l = c.loop-i in
    let q = sym (counted (goal.at.returns c).Start) in
    record { count = l.invariant.len-is ∙ q; list = rw l.invariant.len-is (built-done _ q c.loop-i-test.false l.invariant.turn) }
