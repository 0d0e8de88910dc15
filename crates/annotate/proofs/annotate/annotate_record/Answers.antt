use Prim.Native.Nat.{ℕ}
use mathlib.Core.Path.{◌≡◌, subst, ◌∙◌}
use mathlib.Core.List.{List}
use borrow.Author.Rules.{rules}
use native.Mathlib.Omega.{arith}
use Rattle.image_spec.specs.Answers.{Answer}
use Rattle.scope_spec.specs.Calls.{has_annotation_lem}
use Rattle.image_read_parts.specs.Indexed.{record_of}
use Rattle.annotate.specs.Annotating.{Settled}
use Rattle.annotate.proofs.AnnotateLaws.{has-by, place-yes, place-no, limited_annotated, settled, misplaced}
use Rattle.annotate.proofs.annotate.annotate_record.Goals as goal
use Rattle.annotate.proofs.annotate.annotate_record.Goals.{After-has_annotation}

pub returns-then-opened-i : goal.returns-then-opened-i
returns-then-opened-i c = misplaced c.requires c.args.i (place-no c.requires c.args.i c.args.opened.now.image.ready c.if-opened-i.true)

pub returns-then-not-has_annotation : goal.returns-then-not-has_annotation
returns-then-not-has_annotation c =
    let place = place-yes c.requires c.args.i c.args.opened.now.image.ready c.if-opened-i.false in
    misplaced c.requires c.args.i (place ∙ (has-by c.parts_of-follows.ensures.at c.has_annotation.ensures ∙ c.if-not-has_annotation.true))

-- the record has an annotation, if its kind has
has : (c : After-has_annotation) → has_annotation_lem (record_of c.args.opened.now.image c.args.i) ≡ c.has_annotation.result
has c = has-by c.parts_of-follows.ensures.at c.has_annotation.ensures

pub put_annotation-requires : goal.put_annotation-requires
put_annotation-requires c =
    let y = has (goal.at.put_annotation-requires c).After-has_annotation ∙ c.if-not-has_annotation.false in
    ((limited_annotated c.requires c.args.i c.args.opened.now.image.ready c.if-opened-i.false y, c.parts_of-follows.ensures), omega arith)

-- of the buffer that the writer left
left : {r : Answer} {mid' mid after : List ℕ} {n m : ℕ} → Settled r mid' after n m → mid' ≡ mid → Settled r mid after n m
left {r} {after = after} {n} {m} p e = subst (λ (z : List ℕ). Settled r z after n m) e p

pub returns : goal.returns
returns c =
    let y = has (goal.at.returns c).After-has_annotation ∙ c.if-not-has_annotation.false in
    settled c.requires c.args.i (place-yes c.requires c.args.i c.args.opened.now.image.ready c.if-opened-i.false ∙ y) c.put_annotation.ensures.puts
    (left {mid = c.put_annotation.new.writer.out.now} c.settle.ensures (search rules))
