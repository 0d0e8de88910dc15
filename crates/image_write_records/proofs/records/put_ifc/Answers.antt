-- `put_ifc` meets its contract. Assumes nothing.
use Prim.Native.Nat.{ℕ}
use mathlib.Core.List.{◌∷◌, [], ◌++◌}
use native.Mathlib.Omega.{arith}
use Rattle.syntax.specs.Options.{option_of}
use Rattle.image_spec.specs.Parse.{mark}
use Rattle.image_spec.specs.Fields.{identifier_bytes, sort_code_lem}
use Rattle.image_spec.specs.Records.{record_bytes}
use Rattle.image_spec.proofs.FieldLaws.{identifier-length}
use Rattle.image_write_parts.proofs.Codes.{sort-number}
use Rattle.image_write_parts.proofs.WriterLaws.{wrote_next}
use Rattle.image_write_records.proofs.records.put_ifc.Goals as goal

pub put_marked-requires : goal.put_marked-requires
put_marked-requires c = omega (arith, identifier-length)

pub returns : goal.returns
unfolding record_bytes
returns c =
    let a = c.args in
    let code = rw sort-number at c.byte-2.ensures in
    let last = wrote_next {xs = identifier_bytes c.byte-2.new.self.id a.fst} (λ (k : ℕ). mark (identifier_bytes k) (option_of a.snd)) c.identifier.ensures c.put_marked.ensures in
    let after = wrote_next {xs = sort_code_lem a.sort ∷ []} (λ (k : ℕ). identifier_bytes k a.fst ++ mark (identifier_bytes k) (option_of a.snd)) code last in
    wrote_next {xs = 10 ∷ []} (λ (k : ℕ). sort_code_lem a.sort ∷ (identifier_bytes k a.fst ++ mark (identifier_bytes k) (option_of a.snd))) c.byte.ensures after
