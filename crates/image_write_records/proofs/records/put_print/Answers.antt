-- `put_print` meets its contract. Assumes nothing.
use Prim.Native.Nat.{ℕ}
use mathlib.Core.Path.{ap}
use mathlib.Core.List.{◌∷◌, []}
use Rattle.image_spec.specs.Fields.{newline_code_lem, identifier_bytes}
use Rattle.image_spec.specs.Records.{record_bytes}
use Rattle.image_write_parts.proofs.Writing.{alone}
use Rattle.image_write_parts.proofs.WriterLaws.{wrote_as, wrote_next}
use Rattle.image_write_records.proofs.records.put_print.Goals as goal

pub returns : goal.returns
unfolding record_bytes
returns c =
    let a = c.args in
    let code = wrote_as (ap alone c.newline_code.ensures) c.byte-2.ensures in
    let after = wrote_next {xs = newline_code_lem a.newline ∷ []} (λ (k : ℕ). identifier_bytes k a.var) code c.identifier.ensures in
    wrote_next {xs = 12 ∷ []} (λ (k : ℕ). newline_code_lem a.newline ∷ identifier_bytes k a.var) c.byte.ensures after
