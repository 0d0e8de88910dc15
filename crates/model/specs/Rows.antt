-- The rows of document 01, as rows of one table under one theorem: a to e of `syntax`, f to k, the lines below them, and the order of
-- draws that "The Rust" states; and rows for print.rs and exit.rs (document 02, A.1).
use Rattle.std.specs.Prelude.{ℕ, ◌≡◌, refl, true, false, List, [], ◌∷◌, ◌++◌, map}
use Rattle.std.proofs.Math.Option.{none, some}
use Rattle.syntax.specs.Context.{Context}
use Rattle.syntax.specs.Filter.{retained, fill, filtered}
use Rattle.syntax.specs.Fresh.{fresh, freshen}
use Rattle.syntax.specs.Rows as context
use Rattle.syntax.specs.Rows.{All, done, ◌&◌}
use Rattle.syntax.specs.declared.names.Identifier.{Identifier}
use Rattle.syntax.specs.declared.types.Ty.{Ty}
use Rattle.syntax.specs.declared.types.Ty.TheVariants.{I64, Decl}
use Rattle.syntax.specs.declared.context.Chirality.TheVariants.{Prd, Cns, Ext}
use Rattle.syntax.specs.declared.context.ContextBinding.{ContextBinding}
use Rattle.syntax.specs.declared.op.BinOp.TheVariants.{Sum}
use Rattle.model.specs.Syntax.{Stmt, Substitute, Call, Let, Switch, Create, Invoke, Op, PrintI64, Exit, end, clause}
use Rattle.model.specs.FreeVars.{free_vars}
use Rattle.model.specs.Renaming.{no_renaming, rename_unless}
use Rattle.model.specs.Rules.{bind, arrange, freshen_unless_lem, fresh_var_unless, move_behind_lem}
use Rattle.model.specs.Pass.{linearize_stmt}

-- a name and an ID
abbrev pub identifier : (name id : ℕ) → Identifier
identifier n i = record { name = record { 0 = n }; id = record { 0 = i } }

-- document 01, "Rows": IDs only; names and types agree. The variable of an ID, the label and tag, and the type
abbrev v : ℕ → Identifier
v i = identifier 0 i

abbrev K : Identifier
K = v 0

abbrev T : Ty
T = Decl K

-- a binding as an integer, as a producer and as a consumer of T
abbrev e : ℕ → ContextBinding
e i = bind (v i) Ext I64

abbrev p : ℕ → ContextBinding
p i = bind (v i) Prd T

abbrev c : ℕ → ContextBinding
c i = bind (v i) Cns T

-- a variable and a binding under another name
abbrev v' : ℕ → Identifier
v' i = identifier 1 i

abbrev e' : ℕ → ContextBinding
e' i = bind (v' i) Ext I64

-- a row: one of contexts, or a linearization in a context at a max_id
pub data Row : Type 0 where
  of_contexts : context.Row → Row
  linearizing : (context : Context) (s : Stmt) (max_id : ℕ) (result : Stmt) (closing : ℕ) → Row

abbrev pub Claim : Row → Type 0
Claim (of_contexts r) = context.Claim r
Claim (linearizing Γ s m result closing) = linearize_stmt s no_renaming Γ m ≡ (result, closing)

abbrev pub table : List Row
table =
    -- a to e
    map of_contexts context.rows ++
    -- f. Context [1], Call args [1 1], max_id 1: 1←1, 2←1
    (linearizing (e 1 ∷ []) (Call K (e 1 ∷ e 1 ∷ [])) 1
    (Substitute ((e 1, v 1) ∷ (e 2, v 1) ∷ []) (Call K [])) 2
    -- g. Context [1 2], Invoke 2 with [2], max_id 2: 3←2, 2←2
    ∷ linearizing (e 1 ∷ c 2 ∷ []) (Invoke (v 2) K T (c 2 ∷ [])) 2
    (Substitute ((c 3, v 2) ∷ (c 2, v 2) ∷ []) (Invoke (v 2) K T [])) 3
    -- h. Context [1 2], Switch 1, its one clause without parameters calling with [1 2], max_id 2: 1←1, 2←2, 3←1; Switch 3
    ∷ linearizing (p 1 ∷ e 2 ∷ []) (Switch (v 1) T (clause K [] (Call K (p 1 ∷ e 2 ∷ [])) end)) 2
    (Substitute ((p 1, v 1) ∷ (e 2, v 2) ∷ (p 3, v 1) ∷ []) (Switch (v 3) T (clause K [] (Call K []) end))) 3
    -- i. Context [1], Let 2 = K(1), Call [1 2], max_id 2: 1←1, 3←1; Let 2 = K(3)
    ∷ linearizing (e 1 ∷ []) (Let (v 2) T K (e 1 ∷ []) (Call K (e 1 ∷ p 2 ∷ []))) 2
    (Substitute ((e 1, v 1) ∷ (e 3, v 1) ∷ []) (Let (v 2) T K (e 3 ∷ []) (Call K []))) 3
    -- j. Context [1 2], Create 3 (clause [4], Call [4 1]), next Call [1 3], max_id 4: 5←1, 1←1; environment [1]; next has context [5 3]
    ∷ linearizing (e 1 ∷ e 2 ∷ []) (Create (v 3) T none (clause K (e 4 ∷ []) (Call K (e 4 ∷ e 1 ∷ [])) end) (Call K (e 1 ∷ c 3 ∷ []))) 4
    (Substitute ((e 5, v 1) ∷ (e 1, v 1) ∷ []) (Create (v 3) T (some (e 1 ∷ [])) (clause K (e 4 ∷ []) (Call K []) end) (Call K []))) 5
    -- k. Context [1 2 3], Op 4 from 1, 2, Call [4]: 1←1, 2←2; then 4←4
    ∷ linearizing (e 1 ∷ e 2 ∷ e 3 ∷ []) (Op (v 1) Sum (v 2) (v 4) (Call K (e 4 ∷ []))) 4
    (Substitute ((e 1, v 1) ∷ (e 2, v 2) ∷ []) (Op (v 1) Sum (v 2) (v 4) (Substitute ((e 4, v 4) ∷ []) (Call K [])))) 4
    -- Equal IDs with another name or type in args: a substitution is inserted
    ∷ linearizing (e 1 ∷ []) (Call K (p 1 ∷ [])) 1 (Substitute ((p 1, v 1) ∷ []) (Call K [])) 1
    ∷ linearizing (e 1 ∷ []) (Call K (e' 1 ∷ [])) 1 (Substitute ((e' 1, v' 1) ∷ []) (Call K [])) 1
    -- After Create's renaming, uses take the context's spelling: j, with the use in the next spelled another way
    ∷ linearizing (e 1 ∷ e 2 ∷ []) (Create (v 3) T none (clause K (e 4 ∷ []) (Call K (e 4 ∷ e 1 ∷ [])) end) (Call K (e' 1 ∷ c 3 ∷ []))) 4
    (Substitute ((e 5, v 1) ∷ (e 1, v 1) ∷ []) (Create (v 3) T (some (e 1 ∷ [])) (clause K (e 4 ∷ []) (Call K []) end) (Call K []))) 5
    -- an environment that is right only by the split at the next context's length
    ∷ linearizing (e 1 ∷ e 2 ∷ e 3 ∷ []) (Create (v 4) T none (clause K [] (Call K (e 2 ∷ e 3 ∷ [])) end) (Call K (e 1 ∷ c 4 ∷ []))) 4
    (Create (v 4) T (some (e 2 ∷ e 3 ∷ [])) (clause K [] (Call K []) end) (Call K [])) 4
    -- Switch linearizes its clauses before it draws an ID
    ∷ linearizing (p 1 ∷ e 2 ∷ []) (Switch (v 1) T (clause K [] (Call K (p 1 ∷ p 1 ∷ e 2 ∷ [])) end)) 2
    (Substitute ((p 1, v 1) ∷ (e 2, v 2) ∷ (p 4, v 1) ∷ []) (Switch (v 4) T
    (clause K [] (Substitute ((p 1, v 1) ∷ (p 3, v 1) ∷ (e 2, v 2) ∷ []) (Call K [])) end))) 4
    -- Let draws before its next
    ∷ linearizing (e 1 ∷ []) (Let (v 2) T K (e 1 ∷ []) (Call K (e 1 ∷ e 1 ∷ p 2 ∷ []))) 2
    (Substitute ((e 1, v 1) ∷ (e 3, v 1) ∷ []) (Let (v 2) T K (e 3 ∷ [])
    (Substitute ((e 1, v 1) ∷ (e 4, v 1) ∷ (p 2, v 2) ∷ []) (Call K [])))) 4
    -- Create does clauses, draw, next
    ∷ linearizing (e 1 ∷ []) (Create (v 2) T none (clause K [] (Call K (e 1 ∷ e 1 ∷ [])) end) (Call K (e 1 ∷ e 1 ∷ c 2 ∷ []))) 2
    (Substitute ((e 4, v 1) ∷ (e 1, v 1) ∷ []) (Create (v 2) T (some (e 1 ∷ [])) (clause K [] (Substitute ((e 1, v 1) ∷ (e 3, v 1) ∷ []) (Call K [])) end)
    (Substitute ((e 4, v 4) ∷ (e 5, v 4) ∷ (c 2, v 2) ∷ []) (Call K [])))) 5
    -- PrintI64 retains its var beside what its next needs, in one filter: 1←1, 4←4; what it kept is the next's context
    ∷ linearizing (e 1 ∷ e 2 ∷ e 3 ∷ e 4 ∷ []) (PrintI64 true (v 1) (Call K (e 1 ∷ e 4 ∷ []))) 4
    (Substitute ((e 1, v 1) ∷ (e 4, v 4) ∷ []) (PrintI64 true (v 1) (Call K []))) 4
    -- the same where its next does not use the var
    ∷ linearizing (e 1 ∷ e 2 ∷ e 3 ∷ e 4 ∷ []) (PrintI64 false (v 1) (Call K (e 4 ∷ []))) 4
    (Substitute ((e 1, v 1) ∷ (e 4, v 4) ∷ []) (PrintI64 false (v 1) (Substitute ((e 4, v 4) ∷ []) (Call K [])))) 4
    -- .. and where the context is right there is no Substitute; the spelling is the use's own
    ∷ linearizing (e 1 ∷ e 2 ∷ []) (PrintI64 false (v' 1) (Call K (e 1 ∷ e 2 ∷ []))) 2 (PrintI64 false (v' 1) (Call K [])) 2
    -- Exit is left as it is, whatever the context holds
    ∷ linearizing (e 1 ∷ p 2 ∷ c 3 ∷ []) (Exit (v 1)) 3 (Exit (v 1)) 3
    ∷ linearizing (e 1 ∷ []) (Exit (v' 1)) 1 (Exit (v' 1)) 1
    -- under a Create's renaming: 5←1, 1←1; the next has context [5 3] and uses 5
    ∷ linearizing (e 1 ∷ e 2 ∷ []) (Create (v 3) T none (clause K (e 4 ∷ []) (Exit (v 1)) end) (PrintI64 true (v 1) (Exit (v' 1)))) 4
    (Substitute ((e 5, v 1) ∷ (e 1, v 1) ∷ []) (Create (v 3) T (some (e 1 ∷ [])) (clause K (e 4 ∷ []) (Exit (v 1)) end)
    (Substitute ((e 5, v 5) ∷ []) (PrintI64 true (v 5) (Exit (v 5)))))) 5
    -- a Create that inserts a Substitute renames to the context's spelling also where the ID stays; one that inserts none does not
    ∷ linearizing (e 1 ∷ e 2 ∷ []) (Create (v 3) T none end (PrintI64 true (v' 1) (Exit (v' 1)))) 3
    (Substitute ((e 1, v 1) ∷ []) (Create (v 3) T (some []) end (Substitute ((e 1, v 1) ∷ []) (PrintI64 true (v 1) (Exit (v 1)))))) 3
    ∷ linearizing (e 1 ∷ []) (Create (v 3) T none end (PrintI64 true (v' 1) (Exit (v' 1)))) 3
    (Create (v 3) T (some []) end (Substitute ((e 1, v 1) ∷ []) (PrintI64 true (v' 1) (Exit (v' 1))))) 3
    ∷ [])

pub rows_hold : All Claim table
unfolding fresh freshen retained fill filtered arrange freshen_unless_lem rename_unless fresh_var_unless move_behind_lem linearize_stmt free_vars
rows_hold = refl & refl & refl & refl & refl & refl & refl & refl & refl & refl & refl & refl & refl & refl & refl & refl & refl & refl & refl & refl & refl & refl & refl & refl & refl & refl & done
