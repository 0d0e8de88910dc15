use Prim.Native.Nat.{◌+◌}
use mathlib.Core.Path.{◌≡◌, sym, ap, ◌∙◌}
use mathlib.Core.List.{[]}
use native.Mathlib.Omega.{arith}
use borrow.Author.Rules.{rules}
use lib.ListN.{length, replicate}
use Rattle.model.specs.Syntax.{Clauses}
use Rattle.model.specs.FreeVars.{annotations}
use Rattle.image_spec.specs.Shape.{flatten_clauses, max_depth}
use Rattle.image_directory.specs.Images.{records_of}
use Rattle.image_places_spec.specs.Places.{stmt_at, clauses_at}
use Rattle.image_kinds.specs.Codes.{code_of}
use Rattle.image_kinds.specs.declared.kinds.Kind.TheVariants.{Switch, Create}
use Rattle.image_kinds.proofs.KindNames.{same_code}
use Rattle.scope_spec.specs.Marking.{mark_clauses}
use Rattle.annotate.proofs.AnnotateLaws.{clauses-same, clauses-stand, clauses-marked, next-stands, clauses-size, next-marked, switched, created, followed, behind, set-short, wrote_one, wrote_two}
use Rattle.annotate.proofs.annotate.put_annotation.Goals as goal

pub put_clauses-requires : goal.put_clauses-requires
put_clauses-requires c =
    let h = c.requires in
    let k = clauses-stand h.0.0 _ h.0.1.clauses in
    (k.0, (k.1, omega arith))

pub returns-in-Switch : goal.returns-in-Switch
returns-in-Switch c =
    let a = c.args in
    let h = c.requires in
    let f = h.0.1 in
    let full : length a.row.now ≡ 65536 = search rules in
    wrote_one (annotations (stmt_at max_depth (records_of a.image.now) a.i)) _ _ c.put_clauses.ensures.wrote (clauses-marked h.0.0 _ f.clauses a.image.now.ready _ full)
    (switched h.0.0 (f.at.kind ∙ ap code_of c.in-Switch.is))

pub put_clauses-next-requires : goal.put_clauses-next-requires
put_clauses-next-requires c =
    let h = c.requires in
    let k = clauses-stand h.0.0 _ h.0.1.clauses in
    (k.0, (k.1, omega arith))

pub put_statement-requires : goal.put_statement-requires
put_statement-requires c =
    let a = c.args in
    let h = c.requires in
    let f = h.0.1 in
    let full : length a.row.now ≡ 65536 = search rules in
    let n = a.follows.clauses in
    let w = a.writer.now in
    let r = c.put_clauses-next.ensures in
    let b = created h.0.0 (f.at.kind ∙ ap code_of c.in-Create.is) in
    let k = next-stands h.0.0 b.has _ (r.next_is ∙ ap (λ (z : Clauses). a.i + 1 + length (flatten_clauses z)) (clauses-same h.0.0 n f.clauses)) in
    let e = clauses-size h.0.0 n f.clauses a.image.now.ready (length a.row.now) full in
    let short = set-short w.id (mark_clauses (clauses_at 127 n (records_of a.image.now) (a.i + 1)) [] (replicate (length a.row.now) 0)) (length a.row.now) w.narrow e in
    (k.0, (k.1, omega (arith, r.wrote.puts.ends, short, h.1)))

pub returns-in-Create : goal.returns-in-Create
returns-in-Create c =
    let a = c.args in
    let h = c.requires in
    let f = h.0.1 in
    let full : length a.row.now ≡ 65536 = search rules in
    let n = a.follows.clauses in
    let r = c.put_clauses-next.ensures in
    let b = created h.0.0 (f.at.kind ∙ ap code_of c.in-Create.is) in
    let k = length c.put_clauses-next.new.row in
    let e : k ≡ 65536 = search rules in
    wrote_two (annotations (stmt_at max_depth (records_of a.image.now) a.i)) _ _ _ _ r.wrote c.put_statement.ensures.wrote (clauses-marked h.0.0 n f.clauses a.image.now.ready (length a.row.now) full)
    (next-marked h.0.0 b.has _ (r.next_is ∙ ap (λ (z : Clauses). a.i + 1 + length (flatten_clauses z)) (clauses-same h.0.0 n f.clauses)) a.image.now.ready k e) b.sets

pub put_statement-requires-in_default : goal.put_statement-requires-in_default
put_statement-requires-in_default c =
    let h = c.requires in
    let f = h.0.1 in
    let b = followed h.0.0 (λ e. c.in_default.not-Switch (same_code _ Switch (sym f.at.kind ∙ e))) (λ e. c.in_default.not-Create (same_code _ Create (sym f.at.kind ∙ e))) in
    let k = next-stands h.0.0 b.has _ (behind h.0.0 b) in
    (k.0, (k.1, omega arith))

pub returns-in_default : goal.returns-in_default
returns-in_default c =
    let a = c.args in
    let h = c.requires in
    let f = h.0.1 in
    let full : length a.row.now ≡ 65536 = search rules in
    let b = followed h.0.0 (λ e. c.in_default.not-Switch (same_code _ Switch (sym f.at.kind ∙ e))) (λ e. c.in_default.not-Create (same_code _ Create (sym f.at.kind ∙ e))) in
    wrote_one (annotations (stmt_at max_depth (records_of a.image.now) a.i)) _ _ c.put_statement-in_default.ensures.wrote (next-marked h.0.0 b.has _ (behind h.0.0 b) a.image.now.ready _ full) b.sets
