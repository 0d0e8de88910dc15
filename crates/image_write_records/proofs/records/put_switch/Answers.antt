-- `put_switch` meets its contract. Assumes nothing.
use Prim.Native.Nat.{ℕ}
use mathlib.Core.List.{◌∷◌, []}
use native.Mathlib.Omega.{arith}
use Rattle.image_spec.specs.Fields.{identifier_bytes, type_bytes}
use Rattle.image_spec.specs.Records.{record_bytes}
use Rattle.image_write_records.proofs.Joining.{typed-length, then_others}
use Rattle.image_write_records.proofs.records.put_switch.Goals as goal

pub byte-requires : goal.byte-requires
byte-requires c = omega (arith, typed-length c.args.writer.now.id c.args.var c.args.ty)

pub returns : goal.returns
unfolding record_bytes
returns c =
    let a = c.args in
    then_others 5 (identifier_bytes a.writer.now.id a.var) (type_bytes a.writer.now.id a.ty) (λ (_ : ℕ). a.clauses ∷ []) c.put_typed.ensures c.byte.ensures
