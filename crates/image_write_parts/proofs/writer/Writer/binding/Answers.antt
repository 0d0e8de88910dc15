use Prim.Native.Nat.{ℕ}
use mathlib.Core.List.{◌∷◌}
use native.Mathlib.Omega.{arith}
use Rattle.image_spec.specs.Fields.{chirality_code_lem, identifier_bytes, type_bytes}
use Rattle.image_spec.proofs.FieldLaws.{identifier-length}
use Rattle.image_write_parts.proofs.Codes.{chirality-number}
use Rattle.image_write_parts.proofs.WriterLaws.{wrote_next}
use Rattle.image_write_parts.proofs.writer.Writer.binding.Goals as goal

pub byte-requires : goal.byte-requires
byte-requires c = omega (arith, c.identifier.ensures.puts.ends, identifier-length c.args.self.now.id c.args.b.var, c.requires)

pub ty-requires : goal.ty-requires
ty-requires c =
    let w = c.args.self.now in
    omega (arith, c.byte.ensures.puts.ends, c.byte.ensures.id, c.identifier.ensures.puts.ends, c.identifier.ensures.id, identifier-length w.id c.args.b.var, c.requires)

pub returns : goal.returns
returns c =
    let w = c.args.self.now in
    let b = c.args.b in
    let chi = rw chirality-number at c.byte.ensures in
    let after = wrote_next (λ (k : ℕ). type_bytes k b.ty) chi c.ty.ensures in
    wrote_next {xs = identifier_bytes w.id b.var} (λ (k : ℕ). chirality_code_lem b.chi ∷ type_bytes k b.ty) c.identifier.ensures after
