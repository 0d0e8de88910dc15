-- `put_op` meets its contract. Assumes nothing.
use Prim.Native.Nat.{ℕ}
use mathlib.Core.List.{◌∷◌, [], ◌++◌}
use native.Mathlib.Omega.{arith}
use Rattle.image_spec.specs.Fields.{identifier_bytes, operator_code_lem}
use Rattle.image_spec.specs.Records.{record_bytes}
use Rattle.image_spec.proofs.FieldLaws.{identifier-length}
use Rattle.image_write_parts.proofs.Codes.{operator-number}
use Rattle.image_write_parts.proofs.WriterLaws.{wrote_next}
use Rattle.image_write_records.proofs.records.put_op.Goals as goal

pub byte-requires : goal.byte-requires
byte-requires c = omega (arith, c.put_named.ensures.puts.ends, identifier-length)

pub identifier-requires : goal.identifier-requires
identifier-requires c = omega (arith, identifier-length)

pub identifier-requires-2 : goal.identifier-requires-2
identifier-requires-2 c = omega (arith, identifier-length)

pub returns : goal.returns
unfolding record_bytes
returns c =
    let a = c.args in
    let code = rw operator-number at c.byte.ensures in
    let last = wrote_next {xs = identifier_bytes c.byte.new.self.id a.snd} (λ (k : ℕ). identifier_bytes k a.var) c.identifier.ensures c.identifier-2.ensures in
    let after = wrote_next {xs = operator_code_lem a.operator ∷ []} (λ (k : ℕ). identifier_bytes k a.snd ++ identifier_bytes k a.var) code last in
    wrote_next {xs = 9 ∷ identifier_bytes a.writer.now.id a.fst} (λ (k : ℕ). operator_code_lem a.operator ∷ (identifier_bytes k a.snd ++ identifier_bytes k a.var)) c.put_named.ensures after
