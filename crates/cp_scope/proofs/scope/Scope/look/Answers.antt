use Rattle.std.proofs.Common.{true, false, ◌∙◌, sym}
use Rattle.cp_scope.proofs.Names.{looked_open, looked_through}
use Rattle.cp_scope.proofs.scope.Scope.look.Goals as goal

pub returns-then-not-self : goal.returns-then-not-self
returns-then-not-self c = looked_open c.args.self.now c.args.name.now c.in_ok-found.field-0.now c.in_ok-found.ensures.value c.if-not-self.true

pub returns-then-is_open : goal.returns-then-is_open
returns-then-is_open c = looked_through c.args.self.now c.args.name.now c.in_ok-found.field-0.now c.in_ok-found.ensures.value c.if-not-self.false true (sym c.is_open.ensures ∙ c.if-is_open.true)

pub returns-else-is_open : goal.returns-else-is_open
returns-else-is_open c = looked_through c.args.self.now c.args.name.now c.in_ok-found.field-0.now c.in_ok-found.ensures.value c.if-not-self.false false (sym c.is_open.ensures ∙ c.if-is_open.false)
