-- The list of a record: where it stands, and the loops over its bindings. Assumes nothing.
use Prim.Native.Nat.{ℕ, zero, suc, ◌+◌, ◌-◌, ◌*◌, ◌≤◌, ◌<◌}
use mathlib.Core.Path.{◌≡◌, refl, sym, ap, ◌∙◌, subst}
use mathlib.Core.Bool.{true, false}
use mathlib.Core.List.{List, [], ◌∷◌, ◌++◌, append-nil, append_assoc}
use native.Mathlib.Omega.{arith}
use lib.ListN.{length, drop, get_or, length-append, length-drop, drop_of_length-le}
use lib.Seq.{drop-drop, drop_at}
use Rattle.syntax.specs.Context.{Context, ids, empty_binding}
use Rattle.syntax.specs.declared.names.VarId.{VarId}
use Rattle.syntax.specs.declared.context.ContextBinding.{ContextBinding}
use Rattle.syntax.proofs.Filters.{ids-length}
use Rattle.image_spec.specs.Parse.{each, All}
use Rattle.image_spec.specs.Fields.{chirality_code_lem, identifier_bytes, type_bytes, binding_bytes, list_bytes, IdentifierOk, BindingOk, ListOk}
use Rattle.image_spec.specs.Records.{Record, definition, substitute, call, let', switch, create, invoke, literal, op, ifc, clause', print, exit, record_bytes, RecordOk}
use Rattle.image_spec.specs.Kinds.{kind_of, fixed, tail_bytes}
use Rattle.image_spec.proofs.FieldLaws.{binding-length}
use Rattle.image_spec.proofs.KindLaws.{fixed_le}
use Rattle.image_directory.specs.Slots.{Ready}
use Rattle.image_directory.specs.declared.Frame.{Frame}
use Rattle.image_read_parts.specs.Standing.{Stands}
use Rattle.image_read_parts.proofs.StandingLaws.{inner, byte-run, first_run, second_run, stands_in, stands-room}
use Rattle.image_read_parts.specs.Parts.{list_of, HasList}
use Rattle.image_read_parts.proofs.TailPlaces.{list_place}
use Rattle.image_read_parts.proofs.NamedPlaces.{tail-list, list-ok}
use Rattle.image_read_nodes.specs.Nodes.{has_list, ListAt, IsNext}
use Rattle.image_kinds.specs.Codes.{code_of}
use Rattle.image_read_parts.specs.Indexed.{record_at, At}
use Rattle.image_read_parts.specs.Recorded.{record_in}
use Rattle.image_read_parts.specs.declared.record.RecordAt.{RecordAt}
use Rattle.image_read_nodes.proofs.TailLaws.{tail_from}
use Rattle.image_read_nodes.proofs.NodeLaws.{record_ok}

no : {A : Type 0} → false ≡ true → A
no e = let z : ◌≡◌ {A = ℕ} 0 1 = cc (e) in absurd (omega arith)

-- a record of a kind that has a list has one
kind-lists : (r : Record) → has_list (kind_of r) ≡ true → HasList r
kind-lists (definition x Γ) a = tt
kind-lists (substitute ps) a = no a
kind-lists (call x Γ) a = tt
kind-lists (let' v t h Γ) a = tt
kind-lists (switch v t n) a = no a
kind-lists (create v t e n) a = no a
kind-lists (invoke v h t Γ) a = tt
kind-lists (literal z v) a = no a
kind-lists (op f o j v) a = no a
kind-lists (ifc c f j) a = no a
kind-lists (clause' x Γ) a = tt
kind-lists (print n v) a = no a
kind-lists (exit v) a = no a

module _ (w : ℕ) where
  list-tail : (r : Record) → has_list (kind_of r) ≡ true → RecordOk w r → (tail_bytes w r ≡ list_bytes w (list_of r)) × ListOk w (list_of r)
  list-tail r a ok = let h = kind-lists r a in (tail-list w r h, list-ok w r ok h)

  pub list-stands : (r : Record) (k : ℕ) → kind_of r ≡ k → has_list k ≡ true → RecordOk w r → Stands (list_bytes w) (ListOk w) (record_bytes w r) (fixed w k) (list_of r)
  list-stands r k e h ok =
      let t = list-tail r (ap has_list e ∙ h) ok in
      record { others = []; bytes = tail_from w k r e ∙ (t.0 ∙ sym (append-nil (list_bytes w (list_of r)))); fits = t.1 }

  -- n bindings from `at`
  pub record Run (s : List ℕ) (at n : ℕ) (Γ : Context) : Type 0 where
    pub others : List ℕ
    pub bytes : drop at s ≡ each (binding_bytes w) Γ ++ others
    pub fits : All (BindingOk w) Γ
    pub count : length Γ ≡ n

  pub record Listed (s : List ℕ) (at : ℕ) (Γ : Context) : Type 0 where
    pub inside : at < length s
    pub count : get_or s at 0 ≡ length Γ
    pub run : Run s (at + 1) (length Γ) Γ

  pub list-run : {s : List ℕ} {at : ℕ} {Γ : Context} → Stands (list_bytes w) (ListOk w) s at Γ → Listed s at Γ
  list-run {s} {at} {Γ} h = record {
    inside = omega (arith, stands-room {e = list_bytes w} (omega arith) h);
    count = byte-run s _ at _ h.bytes;
    run = record {
      others = h.others;
      bytes = sym (drop-drop 1 at s) ∙ ap (drop 1) h.bytes;
      fits = h.fits.1;
      count = refl;
    };
  }

  -- the first of them
  pub record Next (s : List ℕ) (at n : ℕ) (b : ContextBinding) (Γ : Context) : Type 0 where
    pub inside : at + (6 + (w + w)) ≤ length s
    pub var : Stands (identifier_bytes w) (IdentifierOk w) s at b.var
    pub run : Run s (at + (6 + (w + w))) (n - 1) Γ

  pub run-next : {s : List ℕ} {at n : ℕ} (b : ContextBinding) (Γ : Context) → Run s at n (b ∷ Γ) → Next s at n b Γ
  run-next {s} {at} {n} b Γ h =
      let x = identifier_bytes w b.var in
      let y = (chirality_code_lem b.chi ∷ []) ++ type_bytes w b.ty in
      let e = each (binding_bytes w) Γ in
      let k = first_run s h.others at (binding_bytes w b) e h.bytes in
      let m = binding-length w b in
      record {
        inside = omega (arith, length-drop at s, ap length k, length-append (binding_bytes w b) (e ++ h.others));
        var = record { others = y ++ (e ++ h.others); bytes = k ∙ append_assoc x y (e ++ h.others); fits = h.fits.0.0 };
        run = record {
          others = h.others;
          bytes = second_run s h.others at (binding_bytes w b) e (6 + (w + w)) m h.bytes;
          fits = h.fits.1;
          count = omega (arith, h.count);
        };
      }

  -- the one at place j
  pub record Placed (s : List ℕ) (place : ℕ) (Γ : Context) (j : ℕ) : Type 0 where
    pub binding : ContextBinding
    pub inside : place + (6 + (w + w)) ≤ length s
    pub var : Stands (identifier_bytes w) (IdentifierOk w) s place binding.var
    pub next : drop j (ids Γ) ≡ binding.var.id ∷ drop (suc j) (ids Γ)

  run-placed : {s : List ℕ} (Γ : Context) (j : ℕ) {n : ℕ} (at place : ℕ) → place ≡ at + j * (6 + (w + w)) → j < n → Run s at n Γ → Placed s place Γ j
  run-placed [] j at place e h r = absurd (omega (arith, r.count))
  run-placed {s} (b ∷ Γ) zero at place e h r =
      let n = run-next b Γ r in
      let q : at ≡ place = omega (arith, e) in
      record { binding = b; inside = omega (arith, n.inside, q); var = subst (λ (z : ℕ). Stands (identifier_bytes w) (IdentifierOk w) s z b.var) q n.var; next = refl }
  run-placed (b ∷ Γ) (suc j) at place e h r =
      let p = run-placed Γ j (at + (6 + (w + w))) place (omega (arith, e)) (omega arith) (run-next b Γ r).run in
      record { binding = p.binding; inside = p.inside; var = p.var; next = p.next }

  pub list-placed : {s : List ℕ} {at : ℕ} {Γ : Context} (j : ℕ) → Stands (list_bytes w) (ListOk w) s at Γ → j < length Γ → Placed s (at + (1 + j * (6 + (w + w)))) Γ j
  list-placed {s} {at} {Γ} j h k = run-placed Γ j (at + 1) _ (omega arith) k (list-run h).run

  -- .. whole
  pub binding_in : {s : List ℕ} {at : ℕ} {Γ : Context} (j : ℕ) → Stands (list_bytes w) (ListOk w) s at Γ → j < length Γ
      → Stands (binding_bytes w) (BindingOk w) s (at + (1 + j * (6 + (w + w)))) (get_or Γ j empty_binding)
  binding_in {s} {at} {Γ} j h k = inner (6 + (w + w)) (binding-length w (get_or Γ j empty_binding)) (omega arith) h (list_place w Γ j empty_binding k h.fits)

-- the list of the record at an index
module _ (g : Frame) (s : List ℕ) (i : ℕ) where
  pub list-there : (k o : ℕ) → Ready g s → At g s i k → has_list k ≡ true → Stands (record_bytes g.id) (RecordOk g.id) s o (record_at g s i)
      → Stands (list_bytes g.id) (ListOk g.id) s (o + fixed g.id k) (list_of (record_at g s i))
  list-there k o ready a h t =
      let r = record_at g s i in
      stands_in (subst (λ (z : ℕ). fixed g.id z ≤ length (record_bytes g.id r)) a.kind (fixed_le g.id r)) t (list-stands g.id r k a.kind h (record_ok g s i k ready a))

-- .. and of a record whose list begins at a place
module _ (r : RecordAt) {at : ℕ} where
  pub list-from : ListAt r at → Stands (list_bytes r.image.frame.id) (ListOk r.image.frame.id) r.image.bytes.now at (list_of (record_in r))
  list-from h =
      let m = r.image in
      let k = code_of r.kind in
      record { others = _; bytes = h.stands; fits = (list-stands m.frame.id (record_in r) k r.there.kind h.list (record_ok m.frame m.bytes.now r.index k m.ready r.there)).fits }

  pub list-to : has_list (code_of r.kind) ≡ true → Stands (list_bytes r.image.frame.id) (ListOk r.image.frame.id) r.image.bytes.now at (list_of (record_in r)) → ListAt r at
  list-to h stands =
      let list = list_bytes r.image.frame.id (list_of (record_in r)) in
      let n = length list in
      let behind = sym (drop-drop n at r.image.bytes.now) ∙ (ap (drop n) stands.bytes ∙ drop_at list stands.others n refl) in
      record { list = h; stands = stands.bytes ∙ ap (λ (l : List ℕ). list ++ l) (sym behind) }

-- a loop over IDs, with a state: those from place j on give what the whole gives
module _ {S : Type 0} (F : List VarId → S → S) {whole : S} where
  pub ids-turn : (f : VarId → S → S) → ((x : VarId) (xs : List VarId) (v : S) → F (x ∷ xs) v ≡ F xs (f x v)) → {xs : List VarId} {j : ℕ} {x : VarId} {v next : S}
      → whole ≡ F (drop j xs) v → IsNext xs j x → next ≡ f x v → whole ≡ F (drop (j + 1) xs) next
  ids-turn f step {xs} {j} {x} {v} h n e =
      h ∙ (ap (λ (ys : List VarId). F ys v) n.is ∙ (step x (drop (j + 1) xs) v ∙ ap (F (drop (j + 1) xs)) (sym e)))

  pub ids_end : ((v : S) → F [] v ≡ v) → (Γ : Context) {j : ℕ} {v : S} → whole ≡ F (drop j (ids Γ)) v → length Γ ≤ j → whole ≡ v
  ids_end empty Γ {j} {v} h n = h ∙ (ap (λ (xs : List VarId). F xs v) (drop_of_length-le (ids Γ) (omega (arith, ids-length Γ))) ∙ empty v)
