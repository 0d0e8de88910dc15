-- The record that a `RecordAt` stands for is of the kind that it names. Assumes nothing.
use mathlib.Core.Path.{◌≡◌, subst}
use Rattle.image_kinds.specs.Codes.{code_of}
use Rattle.image_kinds.specs.declared.kinds.Kind.{Kind}
use Rattle.image_read_parts.specs.Indexed.{IsAt}
use Rattle.image_read_parts.specs.declared.record.RecordAt.{RecordAt}

pub at-kind : (r : RecordAt) {k : Kind} → r.kind ≡ k → IsAt r.image r.index (code_of k)
at-kind r e = subst (λ k. IsAt r.image r.index (code_of k)) e r.there
