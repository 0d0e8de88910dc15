-- The scope that is only read.
use Rattle.std.specs.Prelude.{List}
use Rattle.syntax.specs.declared.names.VarId.{VarId}
use Rattle.scope_places.specs.Places.{scope_in}
use Rattle.scope_places.specs.declared.scope.ScopeView.{ScopeView}

abbrev pub viewed : ScopeView → List VarId
viewed s = scope_in s.n s.ids.now
