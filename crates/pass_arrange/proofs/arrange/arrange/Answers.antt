-- `arrange` meets its contract: i pairs are stored, then all are written. Assumes nothing.
use Prim.Native.Nat.{◌+◌, ◌-◌, ◌≤◌, ◌<◌}
use mathlib.Core.Path.{◌≡◌, refl, sym, ap, ◌∙◌}
use mathlib.Core.Bool.{Bool, true, false, cond, not, beq}
use lib.Dec.{ltb}
use native.Mathlib.Omega.{arith}
use lib.ListN.{length}
use Rattle.syntax.specs.Context.{Context, empty_binding}
use Rattle.syntax.specs.Flat.{binding_of}
use Rattle.syntax.specs.Arrays.{context_of}
use Rattle.syntax.specs.declared.context.TypingContext.{TypingContext}
use Rattle.syntax.proofs.Counts.{context-count}
use Rattle.syntax_substitution.specs.declared.Substitution.{Substitution}
use Rattle.syntax_substitution.specs.Pairs.{pair_of}
use Rattle.syntax_substitution.proofs.Pairing.{context-at}
use Rattle.pass_work_spec.specs.Work.{bindings}
use Rattle.pass_context.specs.Holding.{work_of}
use Rattle.pass_context.proofs.Elements.{binding-at}
use Rattle.pass_step.proofs.OpenLaws.{bindings-count}
use Rattle.image_write_directory.proofs.EmitLaws.{keeps_same}
use Rattle.pass_step.proofs.WriteLaws.{noted_up_to}
use Rattle.pass_arrange.specs.Joined.{joined}
use Rattle.pass_arrange.proofs.PairLaws.{joined_length, zipped-joined, zipped_target, zipped-kept, at_target, at-kept}
use Rattle.pass_arrange.proofs.ArrangeLaws.{arranges_nothing, arranges_written}
use Rattle.pass_arrange.proofs.arrange.arrange.Goals as goal
use Rattle.pass_arrange.proofs.arrange.arrange.Goals.{In-loop-i, Start, then-targets_first, else-targets_first, then-i-front, else-i-front}

-- there are at most 128 pairs
few : (s : Start) → s.args.targets.len + s.args.kept.len ≤ 128
few s = omega (arith, s.args.targets.fits, s.args.kept.fits)

-- as many are wanted as there are targets
wanted_count : (targets wanted : TypingContext) → targets.len ≡ wanted.len → length (context_of wanted) ≡ targets.len
wanted_count targets wanted e = sym (e ∙ context-count wanted)

-- what the context becomes, and what is wanted for it
abbrev targets_of : Start → Context
targets_of s = joined s.args.targets_first (context_of s.args.targets) (bindings (work_of s.args.kept))

abbrev wanted_of : Start → Context
wanted_of s = joined s.args.targets_first (context_of s.args.wanted) (bindings (work_of s.args.kept))

-- in front is what the list of targets or of what is kept begins with: there a target stands, else what is kept
module _ (c : In-loop-i) where
  abbrev front : Bool
  front = beq (ltb c.loop-i.i (c.if-targets_first.kept_at.0 + c.if-targets_first.kept_at.1)) c.args.targets_first

  -- what is kept stands behind the targets, or they behind it
  places : (c.if-targets_first.kept_at.0 ≡ cond c.args.targets_first c.args.targets.len 0) × (c.if-targets_first.kept_at.1 ≡ cond (not c.args.targets_first) c.args.kept.len 0)
  places =
      elim c.if-targets_first.branch [
        | then-targets_first w ↦ rw (w.kept_at-is, w.if-targets_first.true) (refl, refl)
        | else-targets_first w ↦ rw (w.kept_at-is, w.if-targets_first.false) (refl, refl)
      ]

  target_here : front ≡ true → (c.if-targets_first.kept_at.1 ≤ c.loop-i.i) × (c.loop-i.i - c.if-targets_first.kept_at.1 < c.args.targets.len)
  target_here e = at_target c.args.targets_first c.args.targets.len c.args.kept.len _ _ _ places.0 places.1 c.loop-i-test.true e

  kept_here : front ≡ false → (c.if-targets_first.kept_at.0 ≤ c.loop-i.i) × (c.loop-i.i - c.if-targets_first.kept_at.0 < c.args.kept.len)
  kept_here e = at-kept c.args.targets_first c.args.targets.len c.args.kept.len _ _ _ places.0 places.1 c.loop-i-test.true e

pub returns-then-right : goal.returns-then-right
returns-then-right c = (arranges_nothing (targets_of (goal.at.returns-then-right c).Start) (wanted_of (goal.at.returns-then-right c).Start) c.if-right.true, keeps_same _)

pub overflow_add-front : goal.overflow_add-front
overflow_add-front c =
    let s = few (goal.at.overflow_add-front c).Start in
    elim c.if-targets_first.branch [
      | then-targets_first w ↦ rw w.kept_at-is (omega (arith, s))
      | else-targets_first w ↦ rw w.kept_at-is (omega (arith, s))
    ]

pub loop-i-init : goal.loop-i-init
loop-i-init c =
    let a = c.args in
    let m = sym (context-count a.targets) in
    let n = wanted_count a.targets a.wanted c.requires.0 in
    (refl, zipped-joined a.targets_first (context_of a.targets) (context_of a.wanted) (bindings (work_of a.kept)) a.targets.len a.kept.len m n (bindings-count a.kept) refl (few (goal.at.loop-i-init c).Start))

pub overflow_sub-at : goal.overflow_sub-at
overflow_sub-at c = (target_here (goal.at.overflow_sub-at c).In-loop-i c.if-i-front.true).0

pub bounds-targets-at : goal.bounds-targets-at
bounds-targets-at c = omega (arith, (target_here (goal.at.bounds-targets-at c).In-loop-i c.if-i-front.true).1, c.args.targets.fits)

pub bounds-wanted-at : goal.bounds-wanted-at
bounds-wanted-at c = omega (arith, (target_here (goal.at.bounds-wanted-at c).In-loop-i c.if-i-front.true).1, c.args.targets.fits)

pub bounds-all-i : goal.bounds-all-i
bounds-all-i c = omega (arith, c.loop-i-test.true, few (goal.at.bounds-all-i c).Start)

pub overflow_sub-i : goal.overflow_sub-i
overflow_sub-i c = (kept_here (goal.at.overflow_sub-i c).In-loop-i c.if-i-front.false).0

pub bounds-kept-i : goal.bounds-kept-i
bounds-kept-i c = omega (arith, (kept_here (goal.at.bounds-kept-i c).In-loop-i c.if-i-front.false).1, c.args.kept.fits)

pub loop-i-preserved : goal.loop-i-preserved
loop-i-preserved c =
    let a = c.args in
    let T = context_of a.targets in
    let W = context_of a.wanted in
    let K = bindings (work_of a.kept) in
    let m = sym (context-count a.targets) in
    let n = wanted_count a.targets a.wanted c.requires.0 in
    let k = bindings-count a.kept in
    let l = c.loop-i.invariant in
    let at = (goal.at.loop-i-preserved c).In-loop-i in
    let most = c.loop-i-test.true in (
      l.0,
      elim c.if-i-front.branch [
        | then-i-front w ↦
            let h = target_here at w.if-i-front.true in
            let i = c.loop-i.i - c.if-targets_first.kept_at.1 in
            zipped_target a.targets_first T W K a.targets.len a.kept.len m n k empty_binding _ _ c.if-i-front.all (ap pair_of w.all-is ∙ w.of.ensures) l.1 most (places at).1 h
            (context-at a.targets i h.1 refl) (context-at a.wanted i (omega (arith, h.1, c.requires.0)) refl)
        | else-i-front w ↦
            let h = kept_here at w.if-i-front.false in
            let b = binding_of w.flat_binding-b.result in
            let e = ap binding_of w.flat_binding-b.ensures ∙ binding-at a.kept a.kept.len (c.loop-i.i - c.if-targets_first.kept_at.0) h.1 in
            zipped-kept a.targets_first T W K a.targets.len a.kept.len m n k empty_binding b b c.if-i-front.all (ap pair_of w.all-is ∙ w.of-else-i-front.ensures) l.1 most (places at).0 h e e
      ],
    )

pub returns : goal.returns
returns c =
    let w = c.args.output.now.writer in
    let T = targets_of (goal.at.returns c).Start in
    let m = c.args.targets.len + c.args.kept.len in
    let size : m ≡ length T = omega (arith, context-count c.args.targets, bindings-count c.args.kept, joined_length c.args.targets_first (context_of c.args.targets) (bindings (work_of c.args.kept))) in
    let s = c.put.ensures in
    let n = c.note.ensures in
    let f = c.loop-i in
    let e : f.all.1.0 ≡ m = f.invariant.0 in
    let all : Substitution = record { pairs = f.all.0; len = f.all.1.0; size = f.invariant.1.size; fits = omega (arith, e, few (goal.at.returns c).Start) } in
    let noted = noted_up_to c.args.output.now n in (
      rw n.out (arranges_written w.id T (wanted_of (goal.at.returns c).Start) all (omega (arith, w.narrow)) c.if-right.false (e ∙ size) (omega (arith, e, c.loop-i-test.false)) f.invariant.1 s.puts noted),
      record { id = n.keeps.id ∙ s.id; out = n.keeps.out ∙ s.same; lengths = n.keeps.lengths },
    )
