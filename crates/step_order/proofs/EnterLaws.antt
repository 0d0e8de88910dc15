-- When the linear machine stops as it enters a definition or a clause: it was found, the counts agree, and an ID is then twice in the list.
-- Assumes nothing.
use Prim.Native.Nat.{ℕ, suc}
use mathlib.Core.Path.{◌≡◌, refl, sym, ap, ◌∙◌}
use mathlib.Core.Bool.{Bool, true, false, not}
use mathlib.Core.List.{List, [], ◌∷◌}
use mathlib.Core.Option.{Option, none, some}
use native.Mathlib.Omega.{arith}
use lib.ListN.{length}
use Rattle.syntax.specs.Sets.{distinct}
use Rattle.syntax.specs.Context.{Context, ids}
use Rattle.syntax.specs.declared.names.VarId.{VarId}
use Rattle.model.specs.Syntax.{Stmt}
use Rattle.model.specs.Machine.{Value, Entries, keys, Cells, at, Event, Outcome, shows, or_halt, and_first, pair_up}
use Rattle.model.specs.Linear.{stop_unless, shows_unless_twice}
use Rattle.std.specs.Prelude as code
use Rattle.std.specs.Prelude.{Some, None}
use Rattle.image_directory.specs.declared.Frame.{Frame}
use Rattle.image_directory.specs.Slots.{records_in}
use Rattle.image_read_parts.specs.Parts.{list_of}
use Rattle.image_read_parts.specs.Indexed.{record_at}
use Rattle.step_spec.specs.Located.{is_stop}
use Rattle.step_places.specs.Searches.{Finds}
use Rattle.step_places.proofs.NextPlaces.{FoundAt, found_at, none_found}
use Rattle.step_rows.specs.declared.row.Row.{Row}
use Rattle.step_rows.specs.Rows.{ids_of}
use Rattle.step_rows.proofs.RowLaws.{ids-length}
use Rattle.step_rule.proofs.Heads.{head-list}

-- ---- IDs and values side by side

data Paired (xs : List VarId) (vs : List Value) : Option Entries → Type 0 where
  unpaired : (length xs ≡ length vs → ⊥) → Paired xs vs none
  paired : {l : Entries} → length xs ≡ length vs → keys l ≡ xs → Paired xs vs (some l)

pairs : (xs : List VarId) (vs : List Value) → Paired xs vs (pair_up xs vs)
pairs [] [] = paired refl refl
pairs [] (v ∷ vs) = unpaired (λ e. omega (arith, e))
pairs (x ∷ xs) [] = unpaired (λ e. omega (arith, e))
pairs (x ∷ xs) (v ∷ vs) = go (pairs xs vs)
  where
    go : {o : Option Entries} → Paired xs vs o → Paired (x ∷ xs) (v ∷ vs) (and_first x v o)
    go (unpaired n) = unpaired (λ e. n (omega (arith, e)))
    go (paired e k) = paired (ap suc e) (ap (λ (l : List VarId). x ∷ l) k)

unless-stops : (b : Bool) (o : Outcome) → is_stop o ≡ false → is_stop (stop_unless b o) ≡ not b
unless-stops true o e = e
unless-stops false o e = refl

-- ---- entering what was found

module _ {A : Type 0} (context_of : A → Context) (body_of : A → Stmt) (o : Option A) (vs : List Value) (e : Event) (place : Entries → Entries) (K : Cells) where
  -- the parameters get the values, and the new entries their place in the list
  abbrev pub entering : Outcome
  entering = or_halt o λ a. or_halt (pair_up (ids (context_of a)) vs) λ new. shows_unless_twice e (body_of a) (place new) K

  pub enter_none : o ≡ none → is_stop entering ≡ false
  enter_none f = ap (λ (z : Option A). is_stop (or_halt z λ a. or_halt (pair_up (ids (context_of a)) vs) λ new. shows_unless_twice e (body_of a) (place new) K)) f

  module _ (a : A) (f : o ≡ some a) where
    entered : is_stop entering ≡ is_stop (or_halt (pair_up (ids (context_of a)) vs) λ new. shows_unless_twice e (body_of a) (place new) K)
    entered = ap (λ (z : Option A). is_stop (or_halt z λ a. or_halt (pair_up (ids (context_of a)) vs) λ new. shows_unless_twice e (body_of a) (place new) K)) f

    pub enter-fewer : (length (ids (context_of a)) ≡ length vs → ⊥) → is_stop entering ≡ false
    enter-fewer n = entered ∙ go (pairs (ids (context_of a)) vs)
      where
        go : {l : Option Entries} → Paired (ids (context_of a)) vs l → is_stop (or_halt l λ new. shows_unless_twice e (body_of a) (place new) K) ≡ false
        go (unpaired m) = refl
        go (paired m k) = absurd (n m)

    pub enter-all : length (ids (context_of a)) ≡ length vs → (zs : List VarId) → ((new : Entries) → keys new ≡ ids (context_of a) → keys (place new) ≡ zs) → is_stop entering ≡ not (distinct zs)
    enter-all n zs p = entered ∙ go (pairs (ids (context_of a)) vs)
      where
        go : {l : Option Entries} → Paired (ids (context_of a)) vs l → is_stop (or_halt l λ new. shows_unless_twice e (body_of a) (place new) K) ≡ not (distinct zs)
        go (unpaired m) = absurd (m n)
        go (paired {l = l} m k) = unless-stops (distinct (keys (place l))) (shows e (at (body_of a) (place l) K)) refl ∙ ap (λ (z : List VarId). not (distinct z)) (p l k)

-- ---- what code found, and the row of its parameters

-- b is whether the machine stops, which enters what a search for f answers, with these values for the parameters and this place for the new entries
pub record Enters (g : Frame) (bytes : List ℕ) (f : code.Option ℕ) (vs : List Value) (place : Entries → Entries) (b : Bool) : Type 1 where
  pub A : Type 0
  pub context_of : A → Context
  pub body_of : A → Stmt
  pub kind : ℕ
  pub depth : ℕ
  pub body : ℕ
  pub what : Option A
  pub event : Event
  pub cells : Cells
  pub finds : Finds context_of body_of kind depth (records_in g bytes) body what f
  pub stops : b ≡ is_stop (entering context_of body_of what vs event place cells)

module _ {g : Frame} {bytes : List ℕ} {f : code.Option ℕ} {vs : List Value} {place : Entries → Entries} {b : Bool} (w : Enters g bytes f vs place b) where
  pub missing : f ≡ None → false ≡ b
  missing q = sym (w.stops ∙ enter_none w.context_of w.body_of w.what vs w.event place w.cells (none_found q w.finds))

  module _ {j : ℕ} (q : f ≡ Some j) (row : Row) (listed : ids_of row ≡ ids (list_of (record_at g bytes j))) where
    abbrev there : FoundAt w.context_of w.body_of w.kind w.depth (records_in g bytes) w.body w.what j
    there = found_at j q w.finds

    abbrev context : Context
    context = w.context_of there.what

    parameters : ids_of row ≡ ids context
    parameters = listed ∙ ap ids (ap list_of there.head ∙ head-list w.kind there.name context)

    count : length (ids context) ≡ row.places.len
    count = ap length (sym parameters) ∙ ids-length row.bytes.now row.places

    pub fewer : (row.places.len ≡ length vs → ⊥) → false ≡ b
    fewer n = sym (w.stops ∙ enter-fewer w.context_of w.body_of w.what vs w.event place w.cells there.what there.is (λ m. n (sym count ∙ m)))

    pub as_many : row.places.len ≡ length vs → (zs : List VarId) → ((new : Entries) → keys new ≡ ids_of row → keys (place new) ≡ zs) → {a : Bool} → a ≡ not (distinct zs) → a ≡ b
    as_many n zs k t =
        t ∙ sym (w.stops ∙ enter-all w.context_of w.body_of w.what vs w.event place w.cells there.what there.is (count ∙ n) zs (λ new m. k new (m ∙ sym parameters)))
