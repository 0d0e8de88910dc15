-- The record of a source, as the laws of steps take it. Assumes nothing.
use mathlib.Core.Path.{◌≡◌, refl}
use Rattle.image_kinds.specs.Codes.{code_of}
use Rattle.image_kinds.specs.declared.kinds.Kind.{Kind}
use Rattle.image_read_parts.proofs.Indexing.{at-kind}
use Rattle.pass_step.specs.Stepping.{SourceAt}
use Rattle.pass_step.specs.declared.source.SourceRecord.{SourceRecord}

pub source-at-kind : (r : SourceRecord) {k : Kind} → r.node.kind ≡ k → SourceAt r.node.image.frame r.node.image.bytes.now r.node.index (code_of k)
source-at-kind r e = record { at = at-kind r.node e; small = r.source.small; plain = r.source.plain }

-- .. of its own kind
pub source-at : (r : SourceRecord) → SourceAt r.node.image.frame r.node.image.bytes.now r.node.index (code_of r.node.kind)
source-at r = source-at-kind r refl
