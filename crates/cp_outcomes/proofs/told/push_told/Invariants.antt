use Rattle.std.proofs.Common.{◌≡◌, ◌++◌, map, take}
use Rattle.std.specs.List.{filter, AllByRecursion}
use Rattle.cp_merged.specs.Code.{tally_of}
use Rattle.cp_outcomes.specs.Told.{IsTold, is_of, setting_of, told_of}
use Rattle.cp_outcomes.proofs.told.push_told.Given as goal

abbrev pub invariant-loop-place : goal.invariant-loop-place
invariant-loop-place l = record {
  order : map (λ o. tally_of o.tally.now) l.told.items ≡ map (λ o. tally_of o.tally.now) l.initial.told.items ++ filter (is_of l.stopped) (map tally_of (take l.place l.tallies));
  each : AllByRecursion (λ o. IsTold (setting_of l.subject l.subject.limits.choices) (told_of o)) l.initial.told.items → AllByRecursion (λ o. IsTold (setting_of l.subject l.subject.limits.choices) (told_of o)) l.told.items;
}
