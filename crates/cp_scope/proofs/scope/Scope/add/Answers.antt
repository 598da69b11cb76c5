use Rattle.std.proofs.Common.{◌∙◌, sym}
use Rattle.std.specs.Prelude.{Some}
use Rattle.cp_scope.proofs.Names.{add_new, add_again}
use Rattle.cp_scope.proofs.scope.Scope.add.Goals as goal

pub returns-in_ok-insert-clause-ok : goal.returns-in_ok-insert-clause-ok
returns-in_ok-insert-clause-ok c = add_new c.args.self.now c.insert.new.self c.in_ok-from_str.field-0 c.args.name.now c.args.meaning (c.in_ok-from_str.ensures.ok) (sym c.contains_key.ensures ∙ c.if-not-contains_key.true) c.in_ok-insert.ensures.entries

pub returns-else-not-contains_key-clause-ok : goal.returns-else-not-contains_key-clause-ok
returns-else-not-contains_key-clause-ok c = add_again c.args.self.now c.args.name.now (Some c.args.meaning) (sym c.contains_key.ensures ∙ c.if-not-contains_key.false)
