-- The whole image: header, directory, records; and the image of a program.
use Rattle.std.specs.Prelude.{ℕ, ◌+◌, ◌^◌, ◌≤◌, ◌<◌, List, [], ◌∷◌, ◌++◌, Bool, true, false, ◌&&◌, eqb, length, take, drop}
use Rattle.std.proofs.Math.Option.{Option, none, some}
use Rattle.model.specs.Syntax.{Prog}
use Rattle.image_spec.specs.declared.Layout.{Layout}
use Rattle.image_spec.specs.Parse.{Parsed, refused, got, Parser, both, times, each, All, number, field}
use Rattle.image_spec.specs.Layout.{max_records, body_at}
use Rattle.image_spec.specs.Records.{Record, record_bytes, RecordOk, decode_record}
use Rattle.image_spec.specs.Shape.{flatten_defs, DefOk}

abbrev pub if_got : {X A R : Type 0} → Parsed X A → R → (A → List X → R) → R
if_got refused r k = r
if_got (got a m) r k = k a m

abbrev pub if_some : {A R : Type 0} → Option A → R → (A → R) → R
if_some none r k = r
if_some (some a) r k = k a

abbrev pub is_some : {A : Type 0} → Option A → Bool
is_some o = if_some o false (λ _. true)

-- document 01, "The image": Header: layout number, definitions D, max_id, records N
abbrev pub Header : Type 0
Header = ℕ × (ℕ × (ℕ × ℕ))

abbrev pub header_bytes : Layout → Header → List ℕ
header_bytes L h = field 2 h.0 ++ (field 2 h.1.0 ++ (field L.id h.1.1.0 ++ field L.place h.1.1.1))

abbrev pub header : Layout → Parser ℕ Header
header L = both (number 2) (both (number 2) (both (number L.id) (number L.place)))

-- document 01, "The image": N pairs of offset and length, of p bytes each
abbrev pub Entry : Type 0
Entry = ℕ × ℕ

abbrev pub entry_bytes : ℕ → Entry → List ℕ
entry_bytes p e = field p e.0 ++ field p e.1

abbrev pub entry : ℕ → Parser ℕ Entry
entry p = both (number p) (number p)

-- document 01, "The image": sorted by offset; the records follow without gaps. Question 3: the pairs tile the bytes to the end:
-- the first begins at `at`, each of the others where the one before it ends, and the last ends at `end`
abbrev pub tiles : (at : ℕ) → List Entry → (end : ℕ) → Bool
tiles at [] end = eqb at end
tiles at (e ∷ es) end = eqb e.0 at && tiles (at + e.1) es end

-- the records that the pairs cut the bytes into, with IDs of w bytes
unfoldable pub records_at : (w : ℕ) → List Entry → List ℕ → Option (List Record)
records_at w [] l = some []
records_at w (e ∷ es) l = if_some (decode_record w (take e.1 l)) none (λ r. if_some (records_at w es (drop e.1 l)) none (λ rs. some (r ∷ rs)))

-- n pairs of p bytes each begin at `at`, and tile s from `here` to its end
unfoldable pub tiled_from : (p n at here : ℕ) → List ℕ → Bool
tiled_from p n at here s = if_got (times n (entry p) (drop at s)) false (λ es _. tiles here es (length s))

-- the records of n pairs of p bytes each that begin at `at`, where the first record begins at `here`, with IDs of w bytes
unfoldable pub records_from : (w p n at here : ℕ) → List ℕ → Option (List Record)
records_from w p n at here s = if_got (times n (entry p) (drop at s)) none (λ es _. records_at w es (drop here s))

module _ (L : Layout) where
  -- the directory of records that begin at `at`
  abbrev pub entries_of : (at : ℕ) → List Record → List Entry
  entries_of at [] = []
  entries_of at (r ∷ rs) = (at, length (record_bytes L.id r)) ∷ entries_of (at + length (record_bytes L.id r)) rs

  -- the image of D definitions with these records
  abbrev pub image_of : (D max_id : ℕ) → List Record → List ℕ
  image_of D m rs =
      header_bytes L (L.number, (D, (m, length rs)))
      ++ (each (entry_bytes L.place) (entries_of (body_at L (length rs)) rs) ++ each (record_bytes L.id) rs)

  -- the image of a program
  unfoldable pub image : Prog → List ℕ
  image p = image_of (length p.defs) p.max_id (flatten_defs p.defs)

  -- the programs that have an image of the layout
  pub record ImageOk (p : Prog) : Type 0 where
    pub definitions_fit : length p.defs < 256 ^ 2
    pub max_id_fits : p.max_id < 256 ^ L.id
    pub few : length (flatten_defs p.defs) ≤ max_records
    pub short : length (image p) ≤ L.largest
    pub formed : All (RecordOk L.id) (flatten_defs p.defs)
    pub shallow : All DefOk p.defs
