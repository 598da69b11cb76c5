use Rattle.cp_effects.proofs.Knowing.{gave_up}
use Rattle.cp_effects.proofs.table.EffectTable.give_up.Goals as goal

pub returns-clause-known : goal.returns-clause-known
returns-clause-known c = λ s t r discipline are.
    (let rest = c.set.ensures.rest in
    gave_up s t r discipline c.args.self.now are c.set.new.self c.args.key rest.0 rest.1 rest.2 c.in_ok-set.ensures.here c.set.ensures.others)
