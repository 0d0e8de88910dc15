-- The list that an array of pairs with a count holds: what a `Substitution` stands for.
use Rattle.std.specs.Prelude.{◌≡◌, false, List, map, take, length}
use Rattle.syntax.specs.Context.{empty_binding}
use Rattle.syntax.specs.Flat.{binding_of}
use Rattle.syntax.specs.declared.names.Identifier.{Identifier}
use Rattle.syntax.specs.declared.context.Chirality.TheVariants.{Prd}
use Rattle.syntax.specs.declared.context.ContextBinding.{ContextBinding}
use Rattle.syntax_substitution.specs.declared.Pair.{Pair}
use Rattle.syntax_substitution.specs.declared.FlatPair.{FlatPair}
use Rattle.syntax_substitution.specs.declared.Substitution.{Substitution}

-- what a pair that stands in an array says
abbrev pub pair_of : FlatPair → Pair
pair_of f = record {
  target = binding_of (record { id = f.id; ty_id = f.ty_id; name = f.name; ty_name = f.ty_name; chi = f.chi; declared = f.declared; unused = 0 });
  source = record { name = f.source_name; id = f.source };
}

-- document 01, "The image": pairs of binding and identifier
abbrev pub parts_of : Pair → ContextBinding × Identifier
parts_of p = (p.target, p.source)

-- all that stands in the array, and the list: document 01, "Rust forms": arrays with a count
abbrev pub pairs_in : Substitution → List Pair
pairs_in s = map pair_of s.pairs

abbrev pub pairs_of : Substitution → List (ContextBinding × Identifier)
pairs_of s = map parts_of (take s.len (pairs_in s))

-- the struct holds exactly this list
pub record HoldsPairs (s : Substitution) (ps : List (ContextBinding × Identifier)) : Type 0 where
  pub count : s.len ≡ length ps
  pub list : pairs_of s ≡ ps

-- the pair that stands in the unused places of an array
abbrev pub empty_pair : Pair
empty_pair = record { target = empty_binding; source = empty_binding.var }

-- and how it stands there: all 0
abbrev pub empty_flat_pair : FlatPair
empty_flat_pair = record {
  id = record { 0 = 0 };
  ty_id = record { 0 = 0 };
  source = record { 0 = 0 };
  name = record { 0 = 0 };
  ty_name = record { 0 = 0 };
  source_name = record { 0 = 0 };
  chi = Prd;
  declared = false;
}
