use Rattle.std.proofs.Common.{◌∙◌, sym}
use Rattle.cp_scope.proofs.Names.{reserve_new, reserve_again}
use Rattle.cp_scope.proofs.scope.Scope.reserve.Goals as goal

pub returns-in_ok-insert-clause-ok : goal.returns-in_ok-insert-clause-ok
returns-in_ok-insert-clause-ok c = reserve_new c.args.self.now c.insert.new.self c.in_ok-from_str.field-0 c.args.name.now c.in_ok-from_str.ensures.ok (sym c.contains_key.ensures ∙ c.if-not-contains_key.true) c.in_ok-insert.ensures.entries

pub returns-else-not-contains_key-clause-ok : goal.returns-else-not-contains_key-clause-ok
returns-else-not-contains_key-clause-ok c = reserve_again c.args.self.now c.args.name.now (sym c.contains_key.ensures ∙ c.if-not-contains_key.false)
