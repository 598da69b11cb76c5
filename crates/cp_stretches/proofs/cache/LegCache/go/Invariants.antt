use Rattle.std.proofs.Common.{◌≡◌}
use Rattle.cp_machine.specs.Machine.{Machine}
use Rattle.cp_parts.specs.Parts.{KeepStore}
use Rattle.cp_stretches.specs.Cached.{IsCache, IsStanding}
use Rattle.cp_stretches.specs.Stretching.{GoesOn, StandsAt}
use Rattle.cp_stretches.proofs.cache.LegCache.go.Given as goal

abbrev pub invariant-loop : goal.invariant-loop
invariant-loop l =
    let r = l.job.program.now in
    let discipline = l.job.limits.discipline in
    record {
      cache : IsCache r discipline l.self;
      standing : IsStanding r l.self.store l.self.table l.standing;
      kept : KeepStore l.fn.self.store l.self.store;
      table : l.self.table ≡ l.fn.self.table;
      goes : (m : Machine) → StandsAt r discipline l.fn.self.store l.fn.self.table m l.fn.first l.fn.row → GoesOn r discipline l.self.store l.self.table m l.fn.first l.job.limits.steps l.fn.shown.items l.turn l.left l.row l.shown.items;
    }
