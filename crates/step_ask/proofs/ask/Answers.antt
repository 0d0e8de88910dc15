use Prim.Native.Nat.{ℕ}
use mathlib.Core.Path.{subst}
use mathlib.Core.List.{List}
use Rattle.std.proofs.Common.{rules, Result}
use Rattle.image_spec.specs.declared.Refusal.{Refusal}
use Rattle.image_open.specs.declared.opened.Opened.{Opened}
use Rattle.image_open.proofs.OpenedLaws.{IsOpened, opened-image, opened-bytes, opened-refused}
use Rattle.step_spec.specs.declared.MachineKind.{MachineKind}
use Rattle.step_spec.specs.declared.MachineKind.TheVariants.{Source, Linear}
use Rattle.step_ask.specs.Asking.{Asks}
use Rattle.step_spec.proofs.KindLaws.{is-source, is-linear}
use Rattle.step_ask.proofs.AskLaws.{closed-asks, linear-asks, source-asks, source-closed}
use Rattle.step_ask.proofs.ask.Goals as goal
use Rattle.step_ask.proofs.ask.Goals.{In_ok-opened, then-eq+in_ok-check_image, else-eq}

-- the image that was opened
opened : (c : In_ok-opened) → let o = c.in_ok-opened.opened in IsOpened c.args.layout o.image.bytes.now o.image.frame o.definitions o.max_id
opened c = opened-image c.requires c.in_ok-opened.ensures

-- what is said of its bytes is said of the given ones
given : (c : In_ok-opened) (kind : MachineKind) (r : Result Opened Refusal) → Asks c.args.layout kind c.in_ok-opened.opened.image.bytes.now r → Asks c.args.layout kind c.args.image.now r
given c kind r a = subst (λ (s : List ℕ). Asks c.args.layout kind s r) (opened-bytes c.in_ok-opened.ensures) a

pub returns-in_err-opened : goal.returns-in_err-opened
returns-in_err-opened c =
    let a = closed-asks c.args.layout c.args.image.now c.args.machine (opened-refused c.in_err-opened.ensures) in
    search (rules, a)

pub returns-in_err-check_image : goal.returns-in_err-check_image
returns-in_err-check_image c =
    let o = (goal.at.returns-in_err-check_image c).In_ok-opened in
    let a = given o Source _ (source-closed (opened o) c.check_image.ensures.0 c.in_err-check_image.was) in
    rw (is-source c.args.machine c.eq.ensures c.if-eq.true) (search (rules, a))

pub returns : goal.returns
returns c =
    let o = (goal.at.returns c).In_ok-opened in
    let m = c.args.machine in
    elim c.if-eq.branch [
      | then-eq+in_ok-check_image w ↦
          rw (is-source m c.eq.ensures w.if-eq.true) (given o Source _ (source-asks o.in_ok-opened.opened (opened o) w.check_image.ensures.0 w.in_ok-check_image.was))
      | else-eq w ↦ rw (is-linear m c.eq.ensures w.if-eq.false) (given o Linear _ (linear-asks o.in_ok-opened.opened (opened o)))
    ]
