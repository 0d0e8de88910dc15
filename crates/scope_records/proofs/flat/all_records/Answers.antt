-- `all_records` meets its contract. Assumes nothing.
use Rattle.std.proofs.Common.{rules, tests, ℕ, drop, ◌∙◌, arith}
use Rattle.std.proofs.lemmas.Iterator.{YieldsList-from_range}
use Rattle.std.proofs.lemmas.Iterator.Search.{all_from_yields_List}
use Rattle.image_directory.specs.Images.{records_of}
use Rattle.image_directory.proofs.Places.{records-length}
use Rattle.image_read_parts.specs.Standing.{head_of}
use Rattle.scope_records.specs.Tests.{test_of}
use Rattle.scope_records.proofs.FlatLaws.{all-listed}
use Rattle.scope_records.proofs.flat.all_records.Goals as goal

pub returns : goal.returns
returns c =
    let m = c.args.image.now in
    let rs = records_of m in
    let f = test_of c.args.question in
    let n = m.frame.count in
    let tested =
    all_from_yields_List (λ (j : ℕ). f (head_of (drop j rs))) _ _ c.all.result c.all.ensures.ran (YieldsList-from_range 0 n n (cc) (omega arith))
    (λ x b q k. search (rules, tests)) in
    tested ∙ all-listed f rs 0 n (omega (arith, records-length m.frame m.bytes.now m.ready))
