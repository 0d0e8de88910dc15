-- Fresh IDs (names.rs, `fresh_identifier`) and the rule of `freshen` (context.rs).
use Rattle.std.specs.Prelude.{ℕ, ◌+◌, true, false, List, [], ◌∷◌, ◌++◌}
use Rattle.syntax.specs.Sets.{elem}
use Rattle.syntax.specs.Context.{Context, id_of, rebound}
use Rattle.syntax.specs.declared.names.VarId.{VarId}
use Rattle.syntax.specs.declared.names.Name.{Name}
use Rattle.syntax.specs.declared.names.Identifier.{Identifier}
use Rattle.syntax.specs.declared.context.ContextBinding.{ContextBinding}

-- the ID that is drawn at a max_id, and the max_id after it. Used through its laws only (proofs/Drawing.antt).
-- document 01, "The Rust": `fresh_identifier` adds 1 to max_id
unfoldable pub fresh : ℕ → ℕ
fresh m = m + 1

-- .. and copies the name
abbrev pub fresh_identifier : ℕ → Name → Identifier
fresh_identifier m n = record { name = n; id = record { 0 = fresh m } }

-- the binding under the ID that is drawn at a max_id
abbrev pub drawn : ℕ → ContextBinding → ContextBinding
drawn m b = rebound b (fresh_identifier m b.var.name)

-- a renamed context and the max_id after it, with a binding before the context
abbrev pub prepend : ContextBinding → Context × ℕ → Context × ℕ
prepend b r = (b ∷ r.0, r.1)

-- document 01, "The Rust": `freshen` renames a binding whose ID is in the clash set or came earlier in the list, from left to right.
-- The answer is the renamed context and the max_id after it.
unfoldable pub freshen : Context → (clashes : List VarId) → (max_id : ℕ) → Context × ℕ
freshen [] clashes m = ([], m)
freshen (b ∷ Γ) clashes m =
    elim (elem (id_of b) clashes) [
      | true ↦ prepend (drawn m b) (freshen Γ clashes (fresh m))
      | false ↦ prepend b (freshen Γ (clashes ++ (id_of b ∷ [])) m)
    ]
