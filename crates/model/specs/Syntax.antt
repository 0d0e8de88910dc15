-- Programs as trees (statements/*.rs, clause.rs, def.rs, program.rs), over the types that the code declares.
use Rattle.std.specs.Prelude.{ℕ, Bool, List, ℤ}
use Rattle.std.proofs.Math.Option.{Option}
use Rattle.syntax.specs.Context.{Context}
use Rattle.syntax.specs.declared.names.Identifier.{Identifier}
use Rattle.syntax.specs.declared.types.Ty.{Ty}
use Rattle.syntax.specs.declared.context.ContextBinding.{ContextBinding}
use Rattle.syntax.specs.declared.op.BinOp.{BinOp}
use Rattle.syntax.specs.declared.ifc.IfSort.{IfSort}

-- statements/mod.rs, `Statement`, in the order of the image's kinds; and clause.rs, `Clause`: a list of clauses
mutual
  pub data Stmt : Type 0 where
    Substitute : (rearrange : List (ContextBinding × Identifier)) (next : Stmt) → Stmt
    Call : (label : Identifier) (args : Context) → Stmt
    Let : (var : Identifier) (ty : Ty) (tag : Identifier) (args : Context) (next : Stmt) → Stmt
    Switch : (var : Identifier) (ty : Ty) (clauses : Clauses) → Stmt
    Create : (var : Identifier) (ty : Ty) (environment : Option Context) (clauses : Clauses) (next : Stmt) → Stmt
    Invoke : (var : Identifier) (tag : Identifier) (ty : Ty) (args : Context) → Stmt
    Literal : (lit : ℤ) (var : Identifier) (next : Stmt) → Stmt
    Op : (fst : Identifier) (op : BinOp) (snd : Identifier) (var : Identifier) (next : Stmt) → Stmt
    IfC : (sort : IfSort) (fst : Identifier) (snd : Option Identifier) (thenc elsec : Stmt) → Stmt
    PrintI64 : (newline : Bool) (var : Identifier) (next : Stmt) → Stmt
    Exit : (var : Identifier) → Stmt

  pub data Clauses : Type 0 where
    end : Clauses
    clause : (xtor : Identifier) (context : Context) (body : Stmt) (rest : Clauses) → Clauses

-- def.rs, `Def`
pub record Def : Type 0 where
  pub name : Identifier
  pub context : Context
  pub body : Stmt

-- program.rs, `Prog`. document 01, "The Rust": type declarations pass by
pub record Prog : Type 0 where
  pub defs : List Def
  pub max_id : ℕ
