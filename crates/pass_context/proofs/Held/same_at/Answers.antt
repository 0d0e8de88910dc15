-- `Held::same_at` meets its contract. Assumes nothing.
use mathlib.Core.Path.{◌≡◌, ap, ap₂, ◌∙◌}
use mathlib.Core.List.{◌++◌}
use Prim.Native.Nat.{◌-◌}
use native.Mathlib.Omega.{arith}
use lib.ListN.{get_or}
use Rattle.syntax.specs.Context.{empty_binding, same_binding}
use Rattle.syntax.specs.Flat.{binding_of, empty_flat}
use Rattle.syntax.specs.Arrays.{bindings_in, context_of}
use Rattle.syntax.proofs.Counts.{context-fits}
use Rattle.syntax.proofs.Flats.{seen_at}
use Rattle.pass_work_spec.specs.Work.{bindings}
use Rattle.pass_context.specs.Holding.{work_of}
use Rattle.pass_context.proofs.Stores.{taken-left, taken-right}
use Rattle.pass_context.proofs.Elements.{binding-at}
use Rattle.pass_context.proofs.Held.same_at.Goals as goal
use Rattle.pass_context.proofs.Held.same_at.Goals.{then-i-k, else-i-k}

pub returns : goal.returns
returns c =
    let h = c.args.self.now in
    let front = c.args.front.now in
    let back = c.args.back.now in
    let i = c.args.i in
    let k = front.len in
    let fits = context-fits front in
    let one : c.binding.result ≡ get_or (bindings (work_of h)) i empty_binding = c.binding.ensures ∙ ap binding_of c.flat_binding-a.ensures ∙ binding-at h h.len i c.requires.0 in
    let other : c.binding-2.result ≡ get_or (context_of front ++ context_of back) i empty_binding =
    c.binding-2.ensures
    ∙ elim c.if-i-k.branch [
      | then-i-k w ↦ rw w.b-is (seen_at binding_of front.bindings i empty_flat ∙ taken-left (bindings_in front) k i empty_binding fits (context_of back) w.if-i-k.true)
      | else-i-k w ↦ rw w.b-is (seen_at binding_of back.bindings (i - k) empty_flat ∙ taken-right (bindings_in front) k i empty_binding fits (bindings_in back) back.len w.if-i-k.false (omega arith))
    ]
    in
    c.same.ensures ∙ ap₂ same_binding one other
