-- `Held::used_all` meets its contract: i bindings are done. Assumes nothing.
use mathlib.Core.Path.{◌≡◌}
use mathlib.Core.List.{List, map}
use Prim.Native.Nat.{ℕ}
use Rattle.syntax.specs.Arrays.{bindings_in, context_of}
use Rattle.syntax.specs.Flat.{binding_of}
use Rattle.syntax.specs.declared.context.FlatBinding.{FlatBinding}
use Rattle.syntax.specs.declared.context.TypingContext.{TypingContext}
use Rattle.pass_work_spec.specs.Work.{used_all_lem}
use Rattle.pass_context.specs.Holding.{work_of}
use Rattle.pass_context.specs.declared.Held.{Held}
use Rattle.pass_context.proofs.Stores.{Built}
use Rattle.pass_context.proofs.Held.used_all.Given as goal

pub record Inv (self : Held) (args : TypingContext) (bindings : List FlatBinding) (len i : ℕ) : Type 0 where
  pub len-is : len ≡ args.len
  pub turn : Built (used_all_lem (work_of self) (context_of args)) (bindings_in args) (map binding_of bindings) 64 i

abbrev pub invariant-loop-i : goal.invariant-loop-i
invariant-loop-i l = Inv l.self l.args l.out.0 l.out.1.0 l.i
