-- The stopped flag is byte 5: setting it makes the bytes those of the state with the flag. Assumes nothing.
use Prim.Native.Nat.{ℕ, ◌+◌}
use mathlib.Core.Path.{◌≡◌, refl, sym, ap, ◌∙◌, subst}
use mathlib.Core.Bool.{Bool, true, false, false≢true}
use mathlib.Core.List.{List, ◌++◌, map}
use native.Mathlib.Omega.{arith}
use lib.ListN.{length, drop, set, length-append}
use lib.Seq.{sets, sets-eq, drop-append_seam}
use Rattle.model.specs.Syntax.{Prog}
use Rattle.model.specs.Linear.{linear_step_lem}
use Rattle.step_spec.specs.declared.MachineKind.{MachineKind}
use Rattle.step_spec.specs.declared.MachineKind.TheVariants.{Source, Linear}
use Rattle.step_spec.specs.Located.{Machine, Located, stmt_in, cell_in, state_of, project, is_stop}
use Rattle.step_spec.proofs.NeverStops.{source-never-stops}
use Rattle.step_spec.specs.Store.{header_of, raw_of, store_bytes}
use Rattle.step_spec.proofs.OneToOne.{only_its_bytes}
use Rattle.step_header.specs.declared.Header.{Header}
use Rattle.step_header.specs.Headers.{tuple_of}
use Rattle.step_write.proofs.Regions.{sets_same}
use Rattle.step_places.specs.declared.stepper.Stepper.{Stepper}
use Rattle.step_rule.specs.Rules.{ProgramOf, machine_for, machine_in, Reads}
use Rattle.step_rule.proofs.Views.{views}
use Rattle.step_settle.specs.Settling.{flagged, stopping, Settles}

module _ {P : Prog} {store : List ℕ} {h : Header} {l : Located} (o : Reads P store h l) where
  -- the bytes that a store begins with, written over it
  pub same_bytes : store ≡ sets store 0 (store_bytes l)
  same_bytes = let s = only_its_bytes P store l o.read in sym (sets_same (store_bytes l) store 0 s.rest s.bytes)

  -- written in front of bytes that are as many as others: these are over-written
  in_front : (xs ys rest : List ℕ) → length ys ≡ length xs → sets (xs ++ rest) 0 ys ≡ ys ++ rest
  in_front xs ys rest e =
      let k : 0 + length ys ≡ length xs = omega (arith, e) in
      sets-eq ys (xs ++ rest) 0 (omega (arith, e, length-append xs rest)) ∙ ap (λ (z : List ℕ). ys ++ z) (ap (λ (n : ℕ). drop n (xs ++ rest)) k ∙ drop-append_seam xs rest)

  flag_set : (rest : List ℕ) → set (store_bytes l ++ rest) 5 1 ≡ store_bytes (flagged true l) ++ rest
  unfolding store_bytes raw_of
  flag_set rest = refl

  flag_length : length (store_bytes (flagged true l)) ≡ length (store_bytes l)
  unfolding store_bytes raw_of
  flag_length = refl

  pub stop-bytes : set store 5 1 ≡ sets store 0 (store_bytes (flagged true l))
  stop-bytes =
      let s = only_its_bytes P store l o.read in
      ap (λ (z : List ℕ). set z 5 1) s.bytes ∙ (flag_set s.rest ∙ sym (ap (λ (z : List ℕ). sets z 0 (store_bytes (flagged true l))) s.bytes ∙ in_front (store_bytes l) (store_bytes (flagged true l)) s.rest flag_length))

  pub stop-heads : tuple_of (stopping h) ≡ header_of (raw_of (flagged true l))
  unfolding raw_of
  stop-heads =
      let t = o.heads in
      λ i. ((t i).0, ((t i).1.0, (1, (tt, ((t i).1.1.1.1.0, ((t i).1.1.1.1.1.0, ((t i).1.1.1.1.1.1.0, tt)))))))

  -- a state that has not stopped is itself with the flag clear
  pub clear_is : l.has_stopped ≡ false → flagged false l ≡ l
  clear_is e = λ i. record { position = l.position; environment = l.environment; cells = l.cells; has_ended = l.has_ended; has_stopped = sym e i }

-- ── what is settled ──

module _ {M : Machine} {stepper : Stepper} {bytes store : List ℕ} {h : Header} where
  -- the machine does not stop there: nothing changes
  pub settles-same : ((P : Prog) (l : Located) → ProgramOf P stepper bytes → Reads P store h l → l.has_stopped ≡ false → is_stop (M.step P (project P l)) ≡ false)
      → Settles M stepper bytes store h store h
  settles-same f = record {
    settles = λ P l p o s.
        let e = f P l p o s in
        rw (e, clear_is o s) (same_bytes o, o.heads);
  }

  -- it does
  pub settles-stopped : ((P : Prog) (l : Located) → ProgramOf P stepper bytes → Reads P store h l → l.has_stopped ≡ false → is_stop (M.step P (project P l)) ≡ true)
      → {store' : List ℕ} {h' : Header} → store' ≡ set store 5 1 → h' ≡ stopping h → Settles M stepper bytes store h store' h'
  settles-stopped f w q = record { settles = λ P l p o s. rw (f P l p o s) (w ∙ stop-bytes o, ap tuple_of q ∙ stop-heads o) }

-- the stepper's machine
pub settles_as : {stepper : Stepper} {bytes store store' : List ℕ} {h h' : Header} {c : MachineKind} → stepper.machine ≡ c → Settles (machine_for c) stepper bytes store h store' h'
    → Settles (machine_in stepper) stepper bytes store h store' h'
settles_as {stepper} {bytes} {store} {store'} {h} {h'} e x = subst (λ (z : MachineKind). Settles (machine_for z) stepper bytes store h store' h') (sym e) x

-- a state that has ended does not stop
pub ended-goes : {P : Prog} {store : List ℕ} {h : Header} {l : Located} (b : MachineKind) → Reads P store h l → h.ended ≡ true → is_stop ((machine_for b).step P (project P l)) ≡ false
unfolding project linear_step_lem
ended-goes {P} {store} {h} {l} b o e = go b l.has_ended (sym (views o).ended ∙ e)
  where
    go : (b : MachineKind) (c : Bool) → c ≡ true → is_stop ((machine_for b).step P (state_of c (stmt_in P l.position) l.environment (map (cell_in P) l.cells))) ≡ false
    go Linear true f = refl
    go Linear false f = absurd (false≢true f)
    go Source c f = source-never-stops P _
