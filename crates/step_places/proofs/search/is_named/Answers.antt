-- `is_named` meets its contract. Assumes nothing.
use borrow.Author.Rules.{rules}
use denote.Enum.Declared.{tag_of}
use mathlib.Core.Path.{◌≡◌, sym, ◌∙◌}
use borrow.Author.Tests.{ne_eqb}
use Prim.Native.Nat.{◌+◌, ◌≤◌}
use native.Mathlib.Omega.{arith}
use lib.ListN.{length}
use Rattle.image_kinds.specs.Codes.{code_of}
use Rattle.image_kinds.specs.contracts.kinds.Kind.{the_type}
use Rattle.image_kinds.specs.declared.kinds.Kind.{Kind}
use Rattle.step_places.proofs.NamedLaws.{StartsAt, named_past, kind-inside, named_other, name-inside, named-read}
use Rattle.step_places.proofs.search.is_named.Goals as goal
use Rattle.step_places.proofs.search.is_named.Goals.{Then-image-start}

-- what `as u8` says of a kind
byte : (k : Kind) → tag_of the_type k + 1 ≡ code_of k
byte k = search rules

-- the name is inside the image where the kind is right
room : (c : Then-image-start) → c.offset-start.result + 1 + 2 ≤ length c.args.image.now.bytes.now
room c =
    let h : StartsAt c.args.image.now.frame c.args.image.now.bytes.now c.args.i c.offset-start.result = record { inside = c.if-image-i.false; stands = c.offset-start.ensures } in
    name-inside (code_of c.args.kind) c.args.name c.args.image.now.ready h c.requires (c.if-image-start.true ∙ byte c.args.kind)

pub returns-then-image-i : goal.returns-then-image-i
returns-then-image-i c = named_past c.args.image.now.frame c.args.image.now.bytes.now c.args.i (code_of c.args.kind) c.args.name c.args.image.now.ready c.if-image-i.true

pub bounds-image-start : goal.bounds-image-start
bounds-image-start c =
    let h : StartsAt c.args.image.now.frame c.args.image.now.bytes.now c.args.i c.offset-start.result = record { inside = c.if-image-i.false; stands = c.offset-start.ensures } in
    kind-inside h

pub returns-else-image-start : goal.returns-else-image-start
returns-else-image-start c =
    let h : StartsAt c.args.image.now.frame c.args.image.now.bytes.now c.args.i c.offset-start.result = record { inside = c.if-image-i.false; stands = c.offset-start.ensures } in
    ne_eqb _ _ c.if-image-start.false ∙ named_other (code_of c.args.kind) c.args.name c.args.image.now.ready h (λ e. c.if-image-start.false (e ∙ sym (byte c.args.kind)))

pub overflow_add-start : goal.overflow_add-start
overflow_add-start c = omega (arith, room (goal.at.overflow_add-start c).Then-image-start)

pub number-requires : goal.number-requires
number-requires c = (room (goal.at.number-requires c).Then-image-start, omega arith)

pub returns-then-image-start : goal.returns-then-image-start
returns-then-image-start c =
    let h : StartsAt c.args.image.now.frame c.args.image.now.bytes.now c.args.i c.offset-start.result = record { inside = c.if-image-i.false; stands = c.offset-start.ensures } in
    named-read (code_of c.args.kind) c.args.name c.args.image.now.ready h c.requires (c.if-image-start.true ∙ byte c.args.kind) c.number.ensures
