-- document 01, "The image", whole case: one definition (name 1, ID 0), Literal 7 to name 2 ID 1, Call of name 1 with it: 55 bytes.
-- Linearized it has 45. Each is written and read, by computation. Assumes nothing.
use Prim.Native.Nat.{ℕ}
use mathlib.Core.List.{List, [], ◌∷◌}
use mathlib.Core.Path.{◌≡◌, refl}
use lib.IntN.{pos}
use Rattle.syntax.specs.Context.{Context}
use Rattle.syntax.specs.declared.names.Identifier.{Identifier}
use Rattle.syntax.specs.declared.types.Ty.TheVariants.{I64}
use Rattle.syntax.specs.declared.context.Chirality.TheVariants.{Ext}
use Rattle.model.specs.Syntax.{Call, Literal, Prog}
use Rattle.image_spec.specs.Layout.{layout1}
use Rattle.image_spec.specs.Fields.{identifier, type, binding, pair, list, integer}
use Rattle.image_spec.specs.Records.{contents, content, one_record, decode_record, record_bytes}
use Rattle.image_spec.specs.Shape.{clauses, step, stmt, one_def, definitions, flatten, flatten_defs}
use Rattle.image_spec.specs.Image.{records_at, tiled_from, records_from, image}
use Rattle.image_spec.specs.Reading.{accept, reading, records_of, definitions_of, question1, question2, question3, question4, question5, program_of}

abbrev pub label : Identifier
label = record { name = record { 0 = 1 }; id = record { 0 = 0 } }

abbrev pub x : Identifier
x = record { name = record { 0 = 2 }; id = record { 0 = 1 } }

-- the program, with what it calls with
abbrev pub program : Context → Prog
program args = record { defs = record { name = label; context = []; body = Literal (pos 7) x (Call label args) } ∷ []; max_id = 1 }

abbrev pub source : Prog
source = program (record { var = x; chi = Ext; ty = I64 } ∷ [])

abbrev pub linearized : Prog
linearized = program []

abbrev pub source-bytes : List ℕ
source-bytes =
    0x01 ∷ 0x00 ∷ 0x01 ∷ 0x00 ∷ 0x01 ∷ 0x00 ∷ 0x03 ∷ 0x00
    ∷ 0x14 ∷ 0x00 ∷ 0x06 ∷ 0x00 ∷ 0x1A ∷ 0x00 ∷ 0x0D ∷ 0x00 ∷ 0x27 ∷ 0x00 ∷ 0x10 ∷ 0x00
    ∷ 0x01 ∷ 0x01 ∷ 0x00 ∷ 0x00 ∷ 0x00 ∷ 0x00
    ∷ 0x08 ∷ 0x07 ∷ 0x00 ∷ 0x00 ∷ 0x00 ∷ 0x00 ∷ 0x00 ∷ 0x00 ∷ 0x00 ∷ 0x02 ∷ 0x00 ∷ 0x01 ∷ 0x00
    ∷ 0x03 ∷ 0x01 ∷ 0x00 ∷ 0x00 ∷ 0x00 ∷ 0x01 ∷ 0x02 ∷ 0x00 ∷ 0x01 ∷ 0x00 ∷ 0x02 ∷ 0x00 ∷ 0x00 ∷ 0x00 ∷ 0x00 ∷ 0x00 ∷ []

-- the last pair becomes 27 00 06 00 and the Call ends after a zero count
abbrev pub linearized-bytes : List ℕ
linearized-bytes =
    0x01 ∷ 0x00 ∷ 0x01 ∷ 0x00 ∷ 0x01 ∷ 0x00 ∷ 0x03 ∷ 0x00
    ∷ 0x14 ∷ 0x00 ∷ 0x06 ∷ 0x00 ∷ 0x1A ∷ 0x00 ∷ 0x0D ∷ 0x00 ∷ 0x27 ∷ 0x00 ∷ 0x06 ∷ 0x00
    ∷ 0x01 ∷ 0x01 ∷ 0x00 ∷ 0x00 ∷ 0x00 ∷ 0x00
    ∷ 0x08 ∷ 0x07 ∷ 0x00 ∷ 0x00 ∷ 0x00 ∷ 0x00 ∷ 0x00 ∷ 0x00 ∷ 0x00 ∷ 0x02 ∷ 0x00 ∷ 0x01 ∷ 0x00
    ∷ 0x03 ∷ 0x01 ∷ 0x00 ∷ 0x00 ∷ 0x00 ∷ 0x00 ∷ []

pub source-written : image layout1 source ≡ source-bytes
unfolding image flatten_defs flatten record_bytes
source-written = refl

pub linearized-written : image layout1 linearized ≡ linearized-bytes
unfolding image flatten_defs flatten record_bytes
linearized-written = refl

pub source-read : reading layout1 source-bytes ≡ accept source
unfolding reading question1 question2 question3 question4 question5 program_of definitions_of records_of records_at tiled_from records_from
    decode_record one_record content contents identifier type binding pair list integer definitions one_def stmt step clauses
source-read = refl

pub linearized-read : reading layout1 linearized-bytes ≡ accept linearized
unfolding reading question1 question2 question3 question4 question5 program_of definitions_of records_of records_at tiled_from records_from
    decode_record one_record content contents identifier type binding pair list integer definitions one_def stmt step clauses
linearized-read = refl
