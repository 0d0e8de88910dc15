-- Room for a statement is room for its clauses and its bodies, with what it binds. Assumes nothing.
use Prim.Native.Nat.{◌≤◌}
use mathlib.Core.Path.{◌≡◌}
use mathlib.Core.Bool.{true}
use mathlib.Core.List.{List, [], ◌∷◌, ◌++◌, append-nil}
use native.Mathlib.Omega.{arith}
use borrow.Author.Tests.{leb-true}
use lib.Dec.{leb}
use lib.ListN.{length, length-append}
use Rattle.syntax.specs.Context.{Context, ids}
use Rattle.syntax.specs.declared.names.VarId.{VarId}
use Rattle.syntax.specs.declared.names.Identifier.{Identifier}
use Rattle.syntax.proofs.Bools.{both_true}
use Rattle.model.specs.Syntax.{Stmt, Substitute, Call, Let, Switch, Create, Invoke, Literal, Op, IfC, PrintI64, Exit, Clauses, clause}
use Rattle.model.specs.Questions.{asked, any_binders}
use Rattle.image_spec.specs.Parse.{All}
use Rattle.image_places_spec.specs.Views.{record_of, clauses_in, bodies_of, binders}
use Rattle.scope_spec.specs.Rooms.{in_room, RoomFor, RoomForClauses}
use Rattle.scope_spec.proofs.Inside.{asked-parts, asked-clause}

module _ (B : List VarId) where
  -- what is bound is within the limit
  pub room-here : (t : Stmt) → RoomFor B t → length B ≤ 64
  unfolding asked
  room-here (Substitute ps next) r = omega (arith, r.longer, leb-true (length r.scope) 64 (both_true (leb (length r.scope) 64) _ r.room).0)
  room-here (Call label args) r = omega (arith, r.longer, leb-true (length r.scope) 64 r.room)
  room-here (Let var ty tag args next) r = omega (arith, r.longer, leb-true (length r.scope) 64 (both_true (leb (length r.scope) 64) _ r.room).0)
  room-here (Switch var ty cs) r = omega (arith, r.longer, leb-true (length r.scope) 64 (both_true (leb (length r.scope) 64) _ r.room).0)
  room-here (Create var ty env cs next) r = omega (arith, r.longer, leb-true (length r.scope) 64 (both_true (leb (length r.scope) 64) _ r.room).0)
  room-here (Invoke var tag ty args) r = omega (arith, r.longer, leb-true (length r.scope) 64 r.room)
  room-here (Literal lit var next) r = omega (arith, r.longer, leb-true (length r.scope) 64 (both_true (leb (length r.scope) 64) _ r.room).0)
  room-here (Op fst op snd var next) r = omega (arith, r.longer, leb-true (length r.scope) 64 (both_true (leb (length r.scope) 64) _ r.room).0)
  room-here (IfC sort fst snd thenc elsec) r = omega (arith, r.longer, leb-true (length r.scope) 64 (both_true (leb (length r.scope) 64) _ r.room).0)
  room-here (PrintI64 newline var next) r = omega (arith, r.longer, leb-true (length r.scope) 64 (both_true (leb (length r.scope) 64) _ r.room).0)
  room-here (Exit var) r = omega (arith, r.longer, leb-true (length r.scope) 64 r.room)

  pub room-clauses : (t : Stmt) → RoomFor B t → RoomForClauses B (clauses_in t)
  room-clauses t r = record { scope = r.scope; longer = r.longer; room = (asked-parts t in_room any_binders r.scope r.room).0 }

  longer-all : (xs Δ : List VarId) → length B ≤ length Δ → length (B ++ xs) ≤ length (xs ++ Δ)
  longer-all xs Δ h = omega (arith, length-append B xs, length-append xs Δ)

  each-room : (xs Δ : List VarId) (ts : List Stmt) → length B ≤ length Δ → All (λ (s : Stmt). asked s in_room any_binders (xs ++ Δ) ≡ true) ts → All (RoomFor (B ++ xs)) ts
  each-room xs Δ [] h a = tt
  each-room xs Δ (t ∷ ts) h a = (record { scope = xs ++ Δ; longer = longer-all xs Δ h; room = a.0 }, each-room xs Δ ts h a.1)

  pub room-bodies : (t : Stmt) → RoomFor B t → All (RoomFor (B ++ binders (record_of t))) (bodies_of t)
  room-bodies t r = each-room (binders (record_of t)) r.scope (bodies_of t) r.longer (asked-parts t in_room any_binders r.scope r.room).1

  -- .. and of a clause, for its body and the clauses after it
  pub room-clause : (x : Identifier) (Γ : Context) (body : Stmt) (rest : Clauses) → RoomForClauses B (clause x Γ body rest) → RoomFor (B ++ ids Γ) body × RoomForClauses B rest
  room-clause x Γ body rest r =
      let a = asked-clause x Γ body rest in_room any_binders r.scope r.room in (
        record { scope = ids Γ ++ r.scope; longer = longer-all (ids Γ) r.scope r.longer; room = a.0 },
        record { scope = r.scope; longer = r.longer; room = a.1 },
      )

-- there is room for what a statement binds
pub room-binders : (B : List VarId) (t : Stmt) → RoomFor B t → length (B ++ binders (record_of t)) ≤ 64
room-binders B (Substitute ps next) r = room-here (B ++ []) next (room-bodies B (Substitute ps next) r).0
room-binders B (Call label args) r = rw append-nil (room-here B (Call label args) r)
room-binders B (Let var ty tag args next) r = room-here (B ++ (var.id ∷ [])) next (room-bodies B (Let var ty tag args next) r).0
room-binders B (Switch var ty cs) r = rw append-nil (room-here B (Switch var ty cs) r)
room-binders B (Create var ty env cs next) r = room-here (B ++ (var.id ∷ [])) next (room-bodies B (Create var ty env cs next) r).0
room-binders B (Invoke var tag ty args) r = rw append-nil (room-here B (Invoke var tag ty args) r)
room-binders B (Literal lit var next) r = room-here (B ++ (var.id ∷ [])) next (room-bodies B (Literal lit var next) r).0
room-binders B (Op fst o snd var next) r = room-here (B ++ (var.id ∷ [])) next (room-bodies B (Op fst o snd var next) r).0
room-binders B (IfC sort fst snd thenc elsec) r = room-here (B ++ []) thenc (room-bodies B (IfC sort fst snd thenc elsec) r).0
room-binders B (PrintI64 newline var next) r = room-here (B ++ []) next (room-bodies B (PrintI64 newline var next) r).0
room-binders B (Exit var) r = rw append-nil (room-here B (Exit var) r)
