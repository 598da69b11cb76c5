use Rattle.std.proofs.Common.{◌≡◌, ◌+◌, ℕ}
use Rattle.cp_ways.proofs.Given.{Outcome}
use Rattle.cp_ways.specs.Weights.{after, weight}
use Rattle.cp_ways.proofs.ways.Ways.add_behind.Given as goal

abbrev pub invariant-loop-key : goal.invariant-loop-key
invariant-loop-key l = (f : Outcome → ℕ) → weight f l.self.list.entries + weight (λ o. f (after l.shown o)) l.key-iterator ≡ weight f l.initial.self.list.entries + weight (λ o. f (after l.shown o)) l.further.list.entries
