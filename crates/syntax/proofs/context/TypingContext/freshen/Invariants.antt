-- `TypingContext::freshen` meets its contract: i places are done, and the rest is as it was. Assumes nothing.
use mathlib.Core.Path.{◌≡◌}
use mathlib.Core.List.{List, map}
use Prim.Native.Nat.{ℕ, ◌≤◌, ◌+◌}
use lib.ListN.{length, take}
use Rattle.syntax.specs.Context.{Context}
use Rattle.syntax.specs.Flat.{binding_of}
use Rattle.syntax.specs.Fresh.{freshen}
use Rattle.syntax.specs.declared.names.VarId.{VarId}
use Rattle.syntax.specs.declared.context.FlatBinding.{FlatBinding}
use Rattle.syntax.proofs.Drawing.{Freshening}
use Rattle.syntax.proofs.context.TypingContext.freshen.Given as goal

-- i places are done; the arrays keep their lengths, and each place adds at most one ID to those seen
pub record Inv (whole : Context × ℕ) (n : ℕ) (bindings : List FlatBinding) (count : ℕ) (ids : List VarId) (seen : ℕ) (max : VarId) (i : ℕ) : Type 0 where
  pub size : length (map binding_of bindings) ≡ 64
  pub len : count ≡ n
  pub wide : length ids ≡ 128
  pub room : seen ≤ 64 + i
  pub turn : Freshening whole (take seen ids) max.0 (map binding_of bindings) n i

abbrev pub invariant-loop-i : goal.invariant-loop-i
invariant-loop-i l =
    let s = l.initial in
    let whole = freshen (take l.i-end (map binding_of s.out.0)) (take s.seen.1.0 s.seen.0) s.max.0 in
    Inv whole l.i-end l.out.0 l.out.1.0 l.seen.0 l.seen.1.0 l.max l.i
