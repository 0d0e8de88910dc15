-- `put_create` meets its contract. Assumes nothing.
use Prim.Native.Nat.{ℕ}
use mathlib.Core.List.{◌∷◌, [], ◌++◌}
use native.Mathlib.Omega.{arith}
use Rattle.syntax.specs.Arrays.{context_of}
use Rattle.image_spec.specs.Fields.{identifier_bytes, type_bytes, list_bytes}
use Rattle.image_spec.specs.Records.{record_bytes}
use Rattle.image_write_parts.proofs.WriterLaws.{wrote_then, wrote_next}
use Rattle.image_write_records.proofs.Joining.{typed-length, list_length, then_others}
use Rattle.image_write_records.proofs.records.put_create.Goals as goal

pub byte-requires : goal.byte-requires
byte-requires c = omega (arith, typed-length c.args.writer.now.id c.args.var c.args.ty)

pub put_list-requires : goal.put_list-requires
put_list-requires c = omega (arith, typed-length c.args.writer.now.id c.args.var c.args.ty)

pub byte-requires-2 : goal.byte-requires-2
byte-requires-2 c =
    let w = c.byte.new.self in
    omega (arith, list_length w.id c.args.environment w.narrow, typed-length c.args.writer.now.id c.args.var c.args.ty)

pub returns : goal.returns
unfolding record_bytes
returns c =
    let a = c.args in
    let list = wrote_next {xs = 1 ∷ []} (λ (k : ℕ). list_bytes k (context_of a.environment)) c.byte.ensures c.put_list.ensures in
    let k = c.put_typed.new.writer.id in
    let after = wrote_then {xs = 1 ∷ list_bytes k (context_of a.environment)} list c.byte-2.ensures in
    then_others 6 (identifier_bytes a.writer.now.id a.var) (type_bytes a.writer.now.id a.ty)
    (λ (k : ℕ). (1 ∷ list_bytes k (context_of a.environment)) ++ a.clauses ∷ []) c.put_typed.ensures after
