use Rattle.std.proofs.Common.{ap, sym}
use Rattle.cp_scope.specs.Scopes.{Around}
use Rattle.cp_scope.proofs.Names.{popped}
use Rattle.cp_scope.proofs.table.ScopeTable.take_around.Goals as goal

pub returns-in-Some-clause-outer : goal.returns-in-Some-clause-outer
returns-in-Some-clause-outer c = sym (ap (λ (a : Around). a.outer) (popped c.args.self.now.outer.items c.pop.new.self.items c.in-Some.scope c.in-Some.ensures.items))

pub returns-in-Some-clause-taken : goal.returns-in-Some-clause-taken
returns-in-Some-clause-taken c = sym (ap (λ (a : Around). a.inner) (popped c.args.self.now.outer.items c.pop.new.self.items c.in-Some.scope c.in-Some.ensures.items))
