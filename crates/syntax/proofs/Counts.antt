-- The structs have as many elements as they say. Assumes nothing.
use mathlib.Core.Path.{◌≡◌, sym, ◌∙◌}
use Prim.Native.Nat.{◌≤◌}
use native.Mathlib.Omega.{arith}
use lib.ListN.{length, length-map}
use Rattle.std.proofs.lemmas.List.{length-take-le}
use Rattle.syntax.specs.Flat.{binding_of}
use Rattle.syntax.specs.Arrays.{bindings_in, context_of}
use Rattle.syntax.specs.declared.context.TypingContext.{TypingContext}

-- the array of a context is seen in its full length
pub bindings-size : (c : TypingContext) → length (bindings_in c) ≡ 64
bindings-size c = length-map c.bindings binding_of ∙ c.size

pub context-fits : (c : TypingContext) → c.len ≤ length (bindings_in c)
context-fits c = omega (arith, bindings-size c, c.fits)

pub context-count : (c : TypingContext) → c.len ≡ length (context_of c)
context-count c = sym (length-take-le c.len (bindings_in c) (context-fits c))
