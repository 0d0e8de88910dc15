-- Where the cell of a Create was made: the record of a Create is at that place of the image, and its clauses stand behind it. Assumes nothing.
use Prim.Native.Nat.{ℕ, ◌+◌, ◌-◌}
use mathlib.Core.Path.{◌≡◌, refl, sym, ap, ◌∙◌}
use mathlib.Core.Bool.{true, false≢true}
use mathlib.Core.List.{List, [], ◌∷◌}
use mathlib.Core.Option.{Option}
use native.Mathlib.Omega.{arith}
use borrow.Author.Tests.{eqb-true}
use lib.Dec.{eqb}
use lib.ListN.{length, drop}
use Rattle.model.specs.Syntax.{Prog}
use Rattle.model.specs.Machine.{Value}
use Rattle.image_spec.specs.Records.{Record, definition, substitute, call, let', switch, create, invoke, literal, op, ifc, clause', print, exit}
use Rattle.image_spec.specs.Kinds.{kind_of, clauses_of}
use Rattle.image_spec.specs.Shape.{max_depth}
use Rattle.image_places_spec.specs.Views.{record_of, clauses_in}
use Rattle.image_places_spec.specs.Places.{ClausesStand}
use Rattle.image_places_spec.proofs.PlaceLaws.{stmt-parts, head-within}
use Rattle.image_directory.specs.Slots as image
use Rattle.image_directory.specs.Slots.{Ready}
use Rattle.image_directory.specs.declared.Frame.{Frame}
use Rattle.image_directory.proofs.Places.{records-length}
use Rattle.image_read_parts.specs.Standing.{head_of}
use Rattle.image_read_parts.specs.Indexed.{record_at, At}
use Rattle.step_spec.specs.Located.{Machine, made, Located, records_in, stmt_in}
use Rattle.step_spec.specs.Store.{first_record, is_a_create, create_at}
use Rattle.step_spec.proofs.Lists.{all-at}
use Rattle.step_spec.proofs.Standing.{Stands, KeptStands}
use Rattle.step_header.specs.declared.Header.{Header}
use Rattle.step_rule.specs.Rules.{ImageOf, Stored}
use Rattle.step_rule.proofs.Statements.{placed}
use Rattle.step_cells.specs.Cells.{Cell}
use Rattle.step_cells.proofs.CellLaws.{OfCreate}

-- the statement at this place is a Create: its record can be read, and it stands there with its clauses
pub record Created (P : Prog) (g : Frame) (bytes : List ℕ) (place : ℕ) : Type 0 where
  pub at : At g bytes place 6
  pub stands : Stands P place
  pub is : record_at g bytes place ≡ record_of (stmt_in P place)
  pub clauses : ClausesStand (max_depth - 1) (clauses_of (record_at g bytes place)) (image.records_in g bytes) (place + 1) (clauses_in (stmt_in P place))

create-kind : (r : Record) → is_a_create r ≡ eqb (kind_of r) 6
create-kind (definition x Γ) = refl
create-kind (substitute ps) = refl
create-kind (call x Γ) = refl
create-kind (let' v t g Γ) = refl
create-kind (switch v t n) = refl
create-kind (create v t e n) = refl
create-kind (invoke v g t Γ) = refl
create-kind (literal z v) = refl
create-kind (op f o s v) = refl
create-kind (ifc c f s) = refl
create-kind (clause' x Γ) = refl
create-kind (print n v) = refl
create-kind (exit v) = refl

create-first : (rs : List Record) → first_record is_a_create rs ≡ true → kind_of (head_of rs) ≡ 6
create-first [] e = absurd (false≢true e)
create-first (r ∷ rs) e = eqb-true (kind_of r) 6 (sym (create-kind r) ∙ e)

module _ {M : Machine} {P : Prog} {g : Frame} {definitions : ℕ} {bytes store : List ℕ} {h : Header} {l : Located} (p : ImageOf P g definitions bytes) (o : Stored M P store h l) where
  pub created : {w : Option Value} {r : Cell} → Ready g bytes → OfCreate P store h l w r → Created P g bytes r.id
  unfolding create_at
  created {r = r} ready c =
      let i = r.id in
      let rs = image.records_in g bytes in
      let s : Stands P i × (create_at P i ≡ true) = all-at (KeptStands P) l.cells r.number (made i c.entries) (placed p o).cells c.kept in
      let parts = stmt-parts s.0 in
      let is : record_at g bytes i ≡ record_of (stmt_in P i) = ap (λ (rs : List Record). head_of (drop i rs)) p.records ∙ ap head_of parts.head in
      let f : first_record is_a_create (drop i rs) ≡ true = ap (λ (rs : List Record). first_record is_a_create (drop i rs)) p.records ∙ s.1 in
      record {
        at = record {
          inside = omega (arith, head-within (records_in P) i _ parts.head, ap length p.records, records-length g bytes ready);
          kind = create-first (drop i rs) f;
        };
        stands = s.0;
        is = is;
        clauses = rw (is, p.records) parts.clauses;
      }
