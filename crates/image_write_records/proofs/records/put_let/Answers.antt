-- `put_let` meets its contract. Assumes nothing.
use Prim.Native.Nat.{ℕ}
use mathlib.Core.List.{◌++◌}
use native.Mathlib.Omega.{arith}
use Rattle.syntax.specs.Arrays.{context_of}
use Rattle.image_spec.specs.Fields.{identifier_bytes, type_bytes, list_bytes}
use Rattle.image_spec.specs.Records.{record_bytes}
use Rattle.image_spec.proofs.FieldLaws.{identifier-length}
use Rattle.image_write_parts.proofs.WriterLaws.{wrote_next}
use Rattle.image_write_records.proofs.Joining.{typed-length, then_others}
use Rattle.image_write_records.proofs.records.put_let.Goals as goal

pub identifier-requires : goal.identifier-requires
identifier-requires c = omega (arith, typed-length c.args.writer.now.id c.args.var c.args.ty)

pub put_list-requires : goal.put_list-requires
put_list-requires c = omega (arith, typed-length c.args.writer.now.id c.args.var c.args.ty, identifier-length)

pub returns : goal.returns
unfolding record_bytes
returns c =
    let a = c.args in
    let after = wrote_next {xs = identifier_bytes c.put_typed.new.writer.id a.tag} (λ (k : ℕ). list_bytes k (context_of a.args)) c.identifier.ensures c.put_list.ensures in
    then_others 4 (identifier_bytes a.writer.now.id a.var) (type_bytes a.writer.now.id a.ty)
    (λ (k : ℕ). identifier_bytes k a.tag ++ list_bytes k (context_of a.args)) c.put_typed.ensures after
