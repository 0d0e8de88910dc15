use Rattle.std.proofs.Common.{sym, ◌∙◌}
use Rattle.image_spec.specs.Parse.{code}
use Rattle.image_spec.specs.Fields.{max_count, pair}
use Rattle.image_fields.proofs.Stops.{stop-counted, stop-within, code-inside}
use Rattle.image_fields.proofs.fields.Fields.skip_substitution.Goals as goal

pub returns-in_err-pairs : goal.returns-in_err-pairs
returns-in_err-pairs c =
    let a = c.args in
    let f = a.self.now in
    rw (stop-counted max_count (pair f.id) f.bytes.now a.at, ← c.skip_code.ensures, c.in_err-pairs.was) c.from_residual.ensures

pub bounds-self-at : goal.bounds-self-at
bounds-self-at c = let f = c.args.self.now in code-inside max_count f.bytes.now c.args.at _ (sym c.skip_code.ensures ∙ c.in_ok-pairs.was)

pub skip_pairs-requires : goal.skip_pairs-requires
skip_pairs-requires c = let f = c.args.self.now in stop-within (code max_count) f.bytes.now c.args.at _ (sym c.skip_code.ensures ∙ c.in_ok-pairs.was)

pub returns : goal.returns
returns c =
    let a = c.args in
    let f = a.self.now in
    rw (stop-counted max_count (pair f.id) f.bytes.now a.at, ← c.skip_code.ensures, c.in_ok-pairs.was, ← c.from.ensures) c.skip_pairs.ensures
