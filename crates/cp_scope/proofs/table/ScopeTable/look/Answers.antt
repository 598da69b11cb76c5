use Rattle.std.proofs.Common.{◌≡◌, ◌∙◌, ap, sym, map, option_map, Option, arith}
use Rattle.cp_scope.specs.declared.types.Meaning.{Meaning}
use Rattle.cp_scope.specs.Scopes.{look_outer, look_in, or_else}
use Rattle.cp_scope.specs.View.{scopes_of, scope_of}
use Rattle.cp_scope.proofs.Names.{shown, or_none, look_more, look_none, or_map}
use Rattle.cp_scope.proofs.table.ScopeTable.look.Goals as goal

pub loop-scope-init : goal.loop-scope-init
loop-scope-init c = record {
  same = c.deref-scope-items.ensures.value;
  found = rw c.deref-scope-items.ensures.value (sym (or_none _));
}

pub loop-scope-preserved : goal.loop-scope-preserved
loop-scope-preserved c =
    let got : option_map shown c.look.result ≡ look_in c.args.name.now (scope_of c.scope-item.result) = rw (← c.as_str.ensures) c.look.ensures in
    record {
      same = c.loop-scope.invariant.same;
      found = c.loop-scope.invariant.found ∙ look_more c.args.name.now c.deref-scope-items.result.now c.loop-scope.scope-index c.scope-item.result c.loop-scope.found c.look.result c.or-found.result c.loop-scope-test.true c.scope-item.is got c.or-found.ensures;
    }

pub returns : goal.returns
unfolding scopes_of
returns c =
    let got : option_map shown c.look-2.result ≡ look_in c.args.name.now (scope_of c.args.self.now.inner) = rw (← c.as_str-2.ensures) c.look-2.ensures in
    let outer : look_outer c.args.name.now (map scope_of c.args.self.now.outer.items) ≡ option_map shown c.loop-scope.found =
    c.loop-scope.invariant.found ∙ look_none scope_of c.args.name.now c.deref-scope-items.result.now c.loop-scope.scope-index _ (omega arith) in
    ap (option_map shown) c.or.ensures
    ∙ or_map shown c.look-2.result c.loop-scope.found
    ∙ ap (λ (m : Option (Option Meaning)). or_else m (option_map shown c.loop-scope.found)) got
    ∙ ap (or_else _) (sym outer)
