-- A store that was opened is read as a state, whose header was read. Assumes nothing.
use Prim.Native.Nat.{ℕ}
use mathlib.Core.Path.{◌≡◌, sym, ap, ◌∙◌}
use mathlib.Core.List.{List, ◌++◌, append_assoc}
use mathlib.Core.Option.{none, some}
use Rattle.std.specs.Prelude.{Option, Some, None}
use lib.ListN.{drop}
use Rattle.model.specs.Syntax.{Prog}
use Rattle.image_spec.specs.Parse.{got, each}
use Rattle.image_directory.specs.declared.Frame.{Frame}
use Rattle.step_slots.specs.Slots.{slot_bytes}
use Rattle.step_spec.specs.Store.{heap_of, environment_of, header_of, header_bytes, header_parser, raw_of, store_bytes, state_from}
use Rattle.step_spec.specs.Store as store
use Rattle.step_spec.proofs.Slots.{header_exact}
use Rattle.step_spec.proofs.OneToOne.{only_its_bytes}
use Rattle.step_header.specs.declared.Header.{Header}
use Rattle.step_header.specs.Headers.{tuple_of}
use Rattle.step_scan.specs.Pass.{Of, seen}
use Rattle.step_open.specs.Opening.{seen_in, Opens}
use Rattle.step_rule.specs.Rules.{ImageOf, Reads}

module _ {P : Prog} {g : Frame} {D : ℕ} {bytes s : List ℕ} {opened : Option Header} (p : ImageOf P g D bytes) (o : Opens g bytes s opened) where
  of : Of P g bytes
  of = record { records = p.records }

  -- question 14's no
  pub not_opened : opened ≡ None → state_from P s ≡ none
  not_opened e = o.state P of ∙ ap (seen_in s) e

  module _ {h : Header} (e : opened ≡ Some h) where
    found : state_from P s ≡ some (seen s h)
    found = o.state P of ∙ ap (seen_in s) e

    same-header : (x y : store.Header) (m n : List ℕ) → got x m ≡ got y n → x ≡ y
    same-header x y m n q = cc

    pub opened-reads : Reads P s h (seen s h)
    unfolding store_bytes
    opened-reads =
        let w = only_its_bytes P s (seen s h) found in
        let r = raw_of (seen s h) in
        let rest = each slot_bytes r.heap ++ each slot_bytes r.environment in
        let q : header_parser s ≡ got (header_of r) (rest ++ w.rest) = ap header_parser (w.bytes ∙ append_assoc (header_bytes (header_of r)) rest w.rest) ∙ header_exact.left (header_of r) w.slots.header (rest ++ w.rest) in
        record { read = found; heads = same-header (tuple_of h) (header_of r) (drop 64 s) (rest ++ w.rest) (sym (o.header h e) ∙ q) }
