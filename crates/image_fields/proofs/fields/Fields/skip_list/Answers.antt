use Rattle.std.proofs.Common.{sym, ◌∙◌}
use Rattle.image_spec.specs.Parse.{code}
use Rattle.image_spec.specs.Fields.{max_count, binding}
use Rattle.image_fields.proofs.Stops.{stop-counted, stop-within, code-inside}
use Rattle.image_fields.proofs.FieldStops.{stop-list}
use Rattle.image_fields.proofs.fields.Fields.skip_list.Goals as goal

pub returns-in_err-bindings : goal.returns-in_err-bindings
returns-in_err-bindings c =
    let a = c.args in
    let f = a.self.now in
    rw (stop-list f.id, stop-counted max_count (binding f.id) f.bytes.now a.at, ← c.skip_code.ensures, c.in_err-bindings.was) c.from_residual.ensures

pub bounds-self-at : goal.bounds-self-at
bounds-self-at c = let f = c.args.self.now in code-inside max_count f.bytes.now c.args.at _ (sym c.skip_code.ensures ∙ c.in_ok-bindings.was)

pub skip_bindings-requires : goal.skip_bindings-requires
skip_bindings-requires c = let f = c.args.self.now in stop-within (code max_count) f.bytes.now c.args.at _ (sym c.skip_code.ensures ∙ c.in_ok-bindings.was)

pub returns : goal.returns
returns c =
    let a = c.args in
    let f = a.self.now in
    rw (stop-list f.id, stop-counted max_count (binding f.id) f.bytes.now a.at, ← c.skip_code.ensures, c.in_ok-bindings.was, ← c.from.ensures) c.skip_bindings.ensures
