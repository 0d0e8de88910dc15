use mathlib.Core.List.{◌∷◌, []}
use mathlib.Core.Path.{◌∙◌}
use native.Mathlib.Omega.{arith}
use lib.ListN.{length-set}
use Rattle.image_spec.specs.Parse.{field}
use Rattle.image_write_parts.proofs.Putting.{puts-byte, puts_then, puts-same}
use Rattle.image_write_parts.proofs.store_type.Goals as goal

pub store_pair-next-requires : goal.store_pair-next-requires
store_pair-next-requires c =
    let a = c.args in
    omega (arith, length-set a.out.now a.at 0)

pub store_pair-requires : goal.store_pair-requires
store_pair-requires c =
    let a = c.args in
    let p = c.store_pair-next.ensures in
    omega (arith, length-set a.out.now a.at 0, p.ends, puts-same p)

pub store_identifier-requires : goal.store_identifier-requires
store_identifier-requires c =
    let a = c.args in
    omega (arith, length-set a.out.now a.at 1)

pub shape_of-out-in-I64 : goal.shape_of-out-in-I64
shape_of-out-in-I64 c =
    let a = c.args in
    puts-same c.store_pair.ensures ∙ (puts-same c.store_pair-next.ensures ∙ length-set a.out.now a.at 0)

pub returns-in-I64 : goal.returns-in-I64
returns-in-I64 c =
    let a = c.args in
    rw c.in-I64.is
    (puts_then {xs = 0 ∷ []} (puts-byte a.out.now a.at 0) (puts_then {xs = field 2 0} c.store_pair-next.ensures c.store_pair.ensures))

pub shape_of-out-in-Decl : goal.shape_of-out-in-Decl
shape_of-out-in-Decl c =
    let a = c.args in
    puts-same c.store_identifier.ensures ∙ length-set a.out.now a.at 1

pub returns-in-Decl : goal.returns-in-Decl
returns-in-Decl c =
    let a = c.args in
    rw c.in-Decl.is (puts_then {xs = 1 ∷ []} (puts-byte a.out.now a.at 1) c.store_identifier.ensures)
