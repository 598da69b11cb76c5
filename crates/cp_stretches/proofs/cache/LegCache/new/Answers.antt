use Rattle.std.proofs.Common.{subst}
use Rattle.cp_stretches.specs.Numbers.{AreStatusNumbers}
use Rattle.cp_stretches.proofs.cache.LegCache.new.Goals as goal

pub returns : goal.returns
returns c = λ discipline.
    (let r = c.args.program.now in
    let t = c.in_ok-table.table in
    let s = c.new-3.new.store in
    record {
      sound = c.processes-processes.ensures.sound;
      placed = c.in_ok-table.ensures;
      numbers = subst (λ monitors. AreStatusNumbers s monitors c.in_ok-numbers.numbers) c.in_ok-table.ensures.monitors c.in_ok-numbers.ensures.numbers;
      known = c.new-4.ensures s t r discipline;
      admissions = c.new-5.ensures s t r;
    })
