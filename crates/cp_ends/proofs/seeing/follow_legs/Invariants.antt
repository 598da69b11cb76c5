use Rattle.std.proofs.Common.{◌≡◌, List}
use Rattle.cp_ends.proofs.Vocabulary.{Machine}
use Rattle.cp_parts.specs.Parts.{KeepStore}
use Rattle.cp_stretches.specs.Cached.{IsCache, IsStanding}
use Rattle.cp_stretches.specs.Stretching.{GoesOn, StandsAt}
use Rattle.cp_ends.specs.Legs.{moment_at}
use Rattle.cp_ends.proofs.Seen.{SeenTo}
use Rattle.cp_ends.proofs.seeing.follow_legs.Given as goal

abbrev pub invariant-loop : goal.invariant-loop
invariant-loop g l =
    let r = l.job.program.now in
    let discipline = l.job.limits.discipline in
    let steps = l.job.limits.steps in
    record {
      cache : IsCache r discipline l.cache;
      standing : IsStanding r l.cache.store l.cache.table l.standing;
      kept : KeepStore l.fn.cache.store l.cache.store;
      table : l.cache.table ≡ l.fn.cache.table;
      again : l.told.again ≡ l.fn.told.again;
      goes : (m : Machine) → StandsAt r discipline l.fn.cache.store l.fn.cache.table m l.fn.first l.fn.row → GoesOn r discipline l.cache.store l.cache.table m l.fn.first steps l.fn.told.values.items l.turn l.left l.row l.told.values.items;
      sees : (m : Machine) (due : List Machine) → StandsAt r discipline l.fn.cache.store l.fn.cache.table m l.fn.first l.fn.row → g.P.Sight.sees l.fn.told.seen r discipline due (moment_at m l.fn.first) →
          SeenTo r discipline (λ w. g.P.Sight.sees w r discipline) (λ w. g.met.P.Sight.alike w r discipline) l.cache.table steps m l.fn.first due l.cache.store l.told.seen l.turn l.left l.row;
    }
