use mathlib.Core.Path.{◌≡◌, refl, sym, ap, ◌∙◌}
use native.Mathlib.Omega.{arith}
use lib.ListN.{length, take, get_or, length-map, length-take}
use Rattle.std.proofs.lemmas.List.{take_all, take-map}
use Rattle.syntax.specs.Context.{empty_binding}
use Rattle.syntax.specs.Flat.{binding_of, empty_flat}
use Rattle.syntax.specs.Arrays.{context_of}
use Rattle.syntax.specs.declared.context.TypingContext.{TypingContext}
use Rattle.syntax.proofs.Flats.{seen_at}
use Rattle.image_spec.specs.Fields.{binding_bytes}
use Rattle.image_spec.proofs.FieldLaws.{binding-length}
use Rattle.image_write_parts.proofs.Putting.{puts_as}
use Rattle.image_write_parts.proofs.Writing.{written_none, written_next, counted-put}
use Rattle.image_write_records.proofs.lists.put_list.Goals as goal

count : (c : TypingContext) → length (context_of c) ≡ length (take c.len c.bindings)
count c = ap length (take-map binding_of c.len c.bindings) ∙ length-map (take c.len c.bindings) binding_of

seen : (c : TypingContext) (i : _) → binding_of (get_or (take c.len c.bindings) i empty_flat) ≡ get_or (context_of c) i empty_binding
seen c i = seen_at binding_of (take c.len c.bindings) i empty_flat ∙ ap (λ l. get_or l i empty_binding) (sym (take-map binding_of c.len c.bindings))

pub loop-b-init : goal.loop-b-init
loop-b-init c = (written_none _ _ _ _ _, (refl, refl))

pub binding-requires-in-loop-b : goal.binding-requires-in-loop-b
binding-requires-in-loop-b c =
    let n = length-take c.args.context.len c.args.context.bindings in
    let w = c.loop-b.writer in
    omega (arith, n, c.loop-b.invariant.0.far, c.byte.ensures.puts.ends, w.narrow, c.args.context.fits, c.requires)

pub loop-b-preserved : goal.loop-b-preserved
loop-b-preserved c =
    let l = c.loop-b in
    let i = l.invariant in
    let w = c.byte.new.self in
    let m = c.args.context in
    let k = binding-length w.id (get_or (context_of m) l.b-index empty_binding) in
    let e = c.binding.ensures ∙ seen m l.b-index in
    let p = c.binding-in-loop-b.ensures in
    let bytes = rw i.1.0 at p.puts in (
      written_next (binding_bytes w.id) empty_binding (omega (arith, count m)) (omega (arith, k, w.narrow)) (puts_as (ap (binding_bytes w.id) e) bytes) i.0,
      (p.id ∙ i.1.0, p.same ∙ i.1.1),
    )

pub returns : goal.returns
returns c =
    let l = c.loop-b in
    let m = c.args.context in
    let w = c.byte.new.self in
    let p = c.byte.ensures in
    let n = length-take m.len m.bindings in
    let all = take_all l.b-index (context_of m) (omega (arith, count m)) in
    let list = rw (all, p.id) at l.invariant.0.puts in
    record {
      puts = counted-put (binding_bytes c.args.writer.now.id) (context_of m) p.puts (omega (arith, m.size, m.fits, n, count m)) list;
      id = l.invariant.1.0 ∙ p.id;
      same = l.invariant.1.1 ∙ p.same;
    }
