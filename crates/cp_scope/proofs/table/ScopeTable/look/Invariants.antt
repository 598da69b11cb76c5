use Rattle.std.proofs.Common.{◌≡◌, drop, map, option_map}
use Rattle.cp_scope.specs.Scopes.{look_outer, or_else}
use Rattle.cp_scope.specs.View.{scope_of}
use Rattle.cp_scope.proofs.Names.{shown}
use Rattle.cp_scope.proofs.table.ScopeTable.look.Given as goal

abbrev pub invariant-loop-scope : goal.invariant-loop-scope
invariant-loop-scope l = record {
  same : l.scope-items ≡ l.self.outer.items;
  found : look_outer l.name (map scope_of l.self.outer.items) ≡ or_else (look_outer l.name (map scope_of (drop l.scope-index l.scope-items))) (option_map shown l.found);
}
