-- What a search and the parameters that were read say of the model: it finds nothing, or another count of parameters than of values; or it enters.
-- Assumes nothing.
use Prim.Native.Nat.{ℕ, ◌+◌, ◌≤◌}
use mathlib.Core.Path.{◌≡◌, refl, sym, ap, ◌∙◌, subst}
use mathlib.Core.List.{List, map}
use mathlib.Core.Option.{Option, none, some}
use native.Mathlib.Omega.{arith}
use lib.ListN.{length}
use Rattle.std.specs.Prelude.{Option as Maybe, Some, None}
use Rattle.syntax.specs.Context.{Context, ids}
use Rattle.syntax.specs.declared.names.VarId.{VarId}
use Rattle.model.specs.Syntax.{Stmt}
use Rattle.model.specs.Machine.{Value, Entries, Outcome, halts, or_halt, pair_up}
use Rattle.image_directory.specs.declared.Frame.{Frame}
use Rattle.image_directory.specs.Slots as image
use Rattle.image_read_parts.specs.Parts.{list_of}
use Rattle.image_read_nodes.specs.declared.Follows.{Follows}
use Rattle.image_read_nodes.specs.Nodes.{Followed}
use Rattle.image_read_parts.specs.Indexed.{record_at}
use Rattle.step_slots.specs.Slots.{Slot, value_slot}
use Rattle.step_spec.specs.Store.{entry_slot}
use Rattle.step_places.specs.Searches.{Finds, FindsClause}
use Rattle.step_places.proofs.NextPlaces.{found_at, none_found}
use Rattle.step_rows.specs.declared.row.Row.{Row}
use Rattle.step_rows.specs.Rows.{ids_of}
use Rattle.step_rows.proofs.RowLaws.{row-length}
use Rattle.step_rule.proofs.Heads.{head-list}
use Rattle.step_gather.specs.Gathering.{renamed}
use Rattle.step_gather.proofs.GatheringLaws.{paired, unpaired}
use Rattle.step_enter.specs.declared.Parameters.{Parameters}
use Rattle.step_enter.specs.Entering.{ParametersOf, absent, listed, ClauseOf}

-- the clauses that are searched are those of the record
pub clause-of : {frame : Frame} {bytes : List ℕ} {i place tag : ℕ} {f : Follows} {found : Maybe ℕ} {r : Maybe Parameters} → i ≡ place → Followed frame bytes i f
    → FindsClause frame bytes f.clauses (i + 1) tag found → ParametersOf frame bytes found r → ClauseOf frame bytes place tag r
clause-of {frame} {bytes} {i} {place} {tag} {f} {found} {r} e g w q =
    subst (λ (k : ℕ). ClauseOf frame bytes k tag r) e
    record { found = found; finds = subst (λ (n : ℕ). FindsClause frame bytes n (i + 1) tag found) g.clauses w; reads = q }

-- what was found, by what was read of it
module _ (frame : Frame) (bytes : List ℕ) where
  parameters_none : {found : Maybe ℕ} {r : Maybe Parameters} → r ≡ None → ParametersOf frame bytes found r → found ≡ None
  parameters_none e absent = refl
  parameters_none e (listed r k b) = cc

  -- it is at j
  record ReadAt (p : Parameters) (found : Maybe ℕ) : Type 0 where
    j : ℕ
    is : found ≡ Some j
    list : ids_of p.row ≡ ids (list_of (record_at frame bytes j))
    next : p.body ≡ j + 1

  parameters_some : {found : Maybe ℕ} {r : Maybe Parameters} {p : Parameters} → r ≡ Some p → ParametersOf frame bytes found r → ReadAt p found
  parameters_some e absent = let z : ◌≡◌ {A = ℕ} 0 1 = cc in absurd (omega arith)
  parameters_some {p = p} e (listed {j = j} {p = q} r k b) =
      let same : q ≡ p = cc in subst (λ (z : Parameters). ReadAt z (Some j)) same record { j = j; is = refl; list = r; next = b }

-- the row is short
pub record Fitting (row : Row) : Type 0 where
  pub short : row.places.len ≤ 128

pub fitting : {frame : Frame} {bytes : List ℕ} {found : Maybe ℕ} {r : Maybe Parameters} {p : Parameters} → r ≡ Some p → ParametersOf frame bytes found r → Fitting p.row
fitting e absent = let z : ◌≡◌ {A = ℕ} 0 1 = cc in absurd (omega arith)
fitting {p = p} e (listed {p = q} r k b) = let same : q ≡ p = cc in subst (λ (z : Parameters). Fitting z.row) same record { short = k }

-- what a machine does with what it finds and these values: each parameter gets one
abbrev pub with_values : {A : Type 0} → (A → Context) → List Value → (A → Entries → Outcome) → Option A → Outcome
with_values context_of vs enter o = or_halt o λ a. or_halt (pair_up (ids (context_of a)) vs) λ new. enter a new

-- it enters what it finds: with these new entries, of which these are the slots, at the place that was read
pub record Entered {A : Type 0} (of : ℕ → ℕ) (enter : A → Entries → Outcome) (ts : List Slot) (body place : ℕ) (r : Outcome) : Type 0 where
  pub what : A
  pub new : Entries
  pub is : r ≡ enter what new
  pub slots : map (entry_slot of) new ≡ ts
  pub next : body ≡ place

module _ {A : Type 0} {context_of : A → Context} {body_of : A → Stmt} {kind d : ℕ} {frame : Frame} {bytes : List ℕ} {place : ℕ} {o : Option A} {found : Maybe ℕ} {r : Maybe Parameters}
    (f : Finds context_of body_of kind d (image.records_in frame bytes) place o found) (q : ParametersOf frame bytes found r) (vs : List Value) (enter : A → Entries → Outcome) where
  -- nothing is found
  pub absent-halts : r ≡ None → with_values context_of vs enter o ≡ halts
  absent-halts e = ap (with_values context_of vs enter) (none_found (parameters_none frame bytes e q) f)

  module _ {p : Parameters} (e : r ≡ Some p) where
    -- what is found, and its row
    record There : Type 0 where
      what : A
      is : o ≡ some what
      list : ids_of p.row ≡ ids (context_of what)
      next : p.body ≡ place

    there : There
    there =
        let w = parameters_some frame bytes e q in
        let t = found_at w.j w.is f in
        record {
          what = t.what;
          is = t.is;
          list = w.list ∙ ap ids (ap list_of t.head ∙ head-list kind t.name (context_of t.what));
          next = w.next ∙ t.next;
        }

    -- another count
    pub uneven_halts : (p.row.places.len ≡ length vs → ⊥) → with_values context_of vs enter o ≡ halts
    uneven_halts n =
        let t = there in
        let u : pair_up (ids (context_of t.what)) vs ≡ none = unpaired (ids (context_of t.what)) vs (λ c. n (sym (row-length p.row t.list) ∙ c)) in
        ap (with_values context_of vs enter) t.is ∙ ap (λ (z : Option Entries). or_halt z (enter t.what)) u

    pub enters_with : (of : ℕ → ℕ) → p.row.places.len ≡ length vs → Entered of enter (renamed (ids_of p.row) (map (value_slot of 0) vs)) p.body place (with_values context_of vs enter o)
    enters_with of c =
        let t = there in
        let w = paired of (ids (context_of t.what)) vs (row-length p.row t.list ∙ c) in
        record {
          what = t.what;
          new = w.new;
          is = ap (with_values context_of vs enter) t.is ∙ ap (λ (z : Option Entries). or_halt z (enter t.what)) w.pairs;
          slots = w.slots ∙ ap (λ (xs : List VarId). renamed xs (map (value_slot of 0) vs)) (sym t.list);
          next = t.next;
        }
