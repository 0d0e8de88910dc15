-- Over all records of a program, the questions of each record alone are what the tests of the tree say. Assumes nothing.
use Prim.Native.Nat.{ℕ, max}
use mathlib.Core.Path.{◌≡◌, refl, sym, ap, ap₂, ◌∙◌}
use mathlib.Core.Bool.{Bool, true, false, ◌&&◌, and_assoc}
use mathlib.Core.List.{List, [], ◌∷◌, ◌++◌}
use native.Mathlib.Omega.{arith}
use borrow.Author.Tests.{le-leb, lt-leb, leb-true, leb-false}
use lib.Dec.{leb}
use lib.ListN.{length, length-map}
use Rattle.syntax.specs.Context.{Context, id_of, ids}
use Rattle.syntax.specs.declared.names.VarId.{VarId}
use Rattle.model.specs.Syntax.{Stmt, Substitute, Call, Let, Switch, Create, Invoke, Literal, Op, IfC, PrintI64, Exit, Clauses, end, clause, Def, Prog}
use Rattle.model.specs.Sizes.{count_clauses, count_environment}
use Rattle.model.specs.Questions.{asked, asked_clauses, asked_defs, any_binders, plain, small, small_binders, question6, is_none}
use Rattle.image_spec.specs.Records.{Record}
use Rattle.image_spec.specs.Shape.{flatten, flatten_clauses, flatten_defs}
use Rattle.scope_spec.specs.Flat.{all_records_lem, plain_record_lem, small_record_lem}
use Rattle.scope_spec.specs.Rooms.{in_room}

all_records-++ : (f : Record → Bool) (a b : List Record) → all_records_lem f (a ++ b) ≡ all_records_lem f a && all_records_lem f b
all_records-++ f [] b = refl
all_records-++ f (r ∷ a) b = ap (λ (t : Bool). f r && t) (all_records-++ f a b) ∙ sym (and_assoc (f r) (all_records_lem f a) (all_records_lem f b))

-- ── question 6 ──

mutual
  unfolding asked flatten

  plain-stmt : (t : Stmt) (Δ : List VarId) → asked t plain any_binders Δ ≡ all_records_lem plain_record_lem (flatten t)
  plain-stmt (Substitute ps next) Δ = refl
  plain-stmt (Call label args) Δ = refl
  plain-stmt (Let var ty tag args next) Δ = plain-stmt next (var.id ∷ Δ)
  plain-stmt (Switch var ty cs) Δ = plain-clauses cs Δ
  plain-stmt (Create var ty env cs next) Δ =
      ap (λ (b : Bool). is_none env && b) (ap₂ (λ (a b : Bool). a && b) (plain-clauses cs Δ) (plain-stmt next (var.id ∷ Δ)) ∙ sym (all_records-++ plain_record_lem (flatten_clauses cs) (flatten next)))
  plain-stmt (Invoke var tag ty args) Δ = refl
  plain-stmt (Literal lit var next) Δ = plain-stmt next (var.id ∷ Δ)
  plain-stmt (Op fst op snd var next) Δ = plain-stmt next (var.id ∷ Δ)
  plain-stmt (IfC sort fst snd thenc elsec) Δ = ap₂ (λ (a b : Bool). a && b) (plain-stmt thenc Δ) (plain-stmt elsec Δ) ∙ sym (all_records-++ plain_record_lem (flatten thenc) (flatten elsec))
  plain-stmt (PrintI64 newline var next) Δ = plain-stmt next Δ
  plain-stmt (Exit var) Δ = refl

  plain-clauses : (cs : Clauses) (Δ : List VarId) → asked_clauses cs plain any_binders Δ ≡ all_records_lem plain_record_lem (flatten_clauses cs)
  plain-clauses end Δ = refl
  plain-clauses (clause xtor context body rest) Δ = ap₂ (λ (a b : Bool). a && b) (plain-stmt body (ids context ++ Δ)) (plain-clauses rest Δ) ∙ sym (all_records-++ plain_record_lem (flatten body) (flatten_clauses rest))

plain-defs : (ds : List Def) → asked_defs ds plain any_binders ≡ all_records_lem plain_record_lem (flatten_defs ds)
unfolding flatten_defs
plain-defs [] = refl
plain-defs (d ∷ ds) = ap₂ (λ (a b : Bool). a && b) (plain-stmt d.body (ids d.context)) (plain-defs ds) ∙ sym (all_records-++ plain_record_lem (flatten d.body) (flatten_defs ds))

pub question6-flat : (P : Prog) → question6 P ≡ all_records_lem plain_record_lem (flatten_defs P.defs)
question6-flat P = plain-defs P.defs

-- ── the counts of question 7 ──

inter : (a b c d : Bool) → (a && b) && (c && d) ≡ (a && c) && (b && d)
inter true true c d = refl
inter true false true d = refl
inter true false false d = refl
inter false b c d = refl

-- a count c and a room r here, and the counts s and rooms R below
below : (c r s R : Bool) {x : Bool} → x ≡ s && R → (c && r) && x ≡ (c && s) && (r && R)
below c r s R e = ap (λ (b : Bool). (c && r) && b) e ∙ inter c r s R

-- two parts, with the rooms R and S
two : (a b : List Record) (R S : Bool) {x y : Bool} → x ≡ all_records_lem small_record_lem a && R → y ≡ all_records_lem small_record_lem b && S → x && y ≡ all_records_lem small_record_lem (a ++ b) && (R && S)
two a b R S e h =
    ap₂ (λ (p q : Bool). p && q) e h
    ∙ inter (all_records_lem small_record_lem a) R (all_records_lem small_record_lem b) S
    ∙ ap (λ (p : Bool). p && (R && S)) (sym (all_records-++ small_record_lem a b))

-- the larger of two counts
pub leb_max : (a b n : ℕ) → leb (max a b) n ≡ leb a n && leb b n
leb_max a b n = go (leb a n) refl (leb b n) refl
  where
    go : (s : Bool) → leb a n ≡ s → (t : Bool) → leb b n ≡ t → leb (max a b) n ≡ s && t
    go true e true h = le-leb (max a b) n (omega (arith, leb-true a n e, leb-true b n h))
    go true e false h = lt-leb (max a b) n (omega (arith, leb-false b n h))
    go false e t h = lt-leb (max a b) n (omega (arith, leb-false a n e))

-- a list of binders, and what follows it
listed : (Γ : Context) (a : List Record) (R : Bool) {x : Bool} → x ≡ all_records_lem small_record_lem a && R → leb (length (ids Γ)) 32 && x ≡ (leb (length Γ) 32 && all_records_lem small_record_lem a) && R
listed Γ a R e =
    ap₂ (λ (n : ℕ) (b : Bool). leb n 32 && b) (length-map Γ id_of) e
    ∙ sym (and_assoc (leb (length Γ) 32) (all_records_lem small_record_lem a) R)

-- a leaf
leaf : (c r : Bool) → c && r ≡ (c && true) && r
leaf true r = refl
leaf false r = refl

mutual
  unfolding asked flatten

  small-stmt : (t : Stmt) (Δ : List VarId) → asked t small small_binders Δ ≡ all_records_lem small_record_lem (flatten t) && asked t in_room any_binders Δ
  small-stmt (Substitute ps next) Δ = below (leb (length ps) 32) (leb (length Δ) 64) (all_records_lem small_record_lem (flatten next)) (asked next in_room any_binders Δ) (small-stmt next Δ)
  small-stmt (Call label args) Δ = leaf (leb (length args) 32) (leb (length Δ) 64)
  small-stmt (Let var ty tag args next) Δ = below (leb (length args) 32) (leb (length Δ) 64) (all_records_lem small_record_lem (flatten next)) (asked next in_room any_binders (var.id ∷ Δ)) (small-stmt next (var.id ∷ Δ))
  small-stmt (Switch var ty cs) Δ = below (leb (count_clauses cs) 32) (leb (length Δ) 64) (all_records_lem small_record_lem (flatten_clauses cs)) (asked_clauses cs in_room any_binders Δ) (small-clauses cs Δ)
  small-stmt (Create var ty env cs next) Δ =
      let here = leb (length Δ) 64 in
      let flat = all_records_lem small_record_lem (flatten_clauses cs ++ flatten next) in
      let room = asked_clauses cs in_room any_binders Δ && asked next in_room any_binders (var.id ∷ Δ) in
      below (leb (max (count_environment env) (count_clauses cs)) 32) here flat room
      (two (flatten_clauses cs) (flatten next) (asked_clauses cs in_room any_binders Δ) (asked next in_room any_binders (var.id ∷ Δ)) (small-clauses cs Δ) (small-stmt next (var.id ∷ Δ)))
      ∙ ap (λ (c : Bool). (c && flat) && (here && room)) (leb_max (count_environment env) (count_clauses cs) 32)
  small-stmt (Invoke var tag ty args) Δ = leaf (leb (length args) 32) (leb (length Δ) 64)
  small-stmt (Literal lit var next) Δ = below true (leb (length Δ) 64) (all_records_lem small_record_lem (flatten next)) (asked next in_room any_binders (var.id ∷ Δ)) (small-stmt next (var.id ∷ Δ))
  small-stmt (Op fst op snd var next) Δ = below true (leb (length Δ) 64) (all_records_lem small_record_lem (flatten next)) (asked next in_room any_binders (var.id ∷ Δ)) (small-stmt next (var.id ∷ Δ))
  small-stmt (IfC sort fst snd thenc elsec) Δ =
      below true (leb (length Δ) 64) (all_records_lem small_record_lem (flatten thenc ++ flatten elsec)) (asked thenc in_room any_binders Δ && asked elsec in_room any_binders Δ)
      (two (flatten thenc) (flatten elsec) (asked thenc in_room any_binders Δ) (asked elsec in_room any_binders Δ) (small-stmt thenc Δ) (small-stmt elsec Δ))
  small-stmt (PrintI64 newline var next) Δ = below true (leb (length Δ) 64) (all_records_lem small_record_lem (flatten next)) (asked next in_room any_binders Δ) (small-stmt next Δ)
  small-stmt (Exit var) Δ = leaf true (leb (length Δ) 64)

  small-clauses : (cs : Clauses) (Δ : List VarId) → asked_clauses cs small small_binders Δ ≡ all_records_lem small_record_lem (flatten_clauses cs) && asked_clauses cs in_room any_binders Δ
  small-clauses end Δ = refl
  small-clauses (clause xtor context body rest) Δ =
      listed context (flatten body ++ flatten_clauses rest) (asked body in_room any_binders (ids context ++ Δ) && asked_clauses rest in_room any_binders Δ)
      (two (flatten body) (flatten_clauses rest) (asked body in_room any_binders (ids context ++ Δ)) (asked_clauses rest in_room any_binders Δ) (small-stmt body (ids context ++ Δ)) (small-clauses rest Δ))

small-defs : (ds : List Def) → asked_defs ds small small_binders ≡ all_records_lem small_record_lem (flatten_defs ds) && asked_defs ds in_room any_binders
unfolding flatten_defs
small-defs [] = refl
small-defs (d ∷ ds) =
    listed d.context (flatten d.body ++ flatten_defs ds) (asked d.body in_room any_binders (ids d.context) && asked_defs ds in_room any_binders)
    (two (flatten d.body) (flatten_defs ds) (asked d.body in_room any_binders (ids d.context)) (asked_defs ds in_room any_binders) (small-stmt d.body (ids d.context)) (small-defs ds))

pub question7-flat : (P : Prog) → asked_defs P.defs small small_binders ≡ all_records_lem small_record_lem (flatten_defs P.defs) && asked_defs P.defs in_room any_binders
question7-flat P = small-defs P.defs
