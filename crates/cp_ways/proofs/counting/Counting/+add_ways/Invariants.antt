use Rattle.std.proofs.Common.{◌≡◌, ◌+◌, ◌*◌, ℕ, length, take}
use Rattle.std.specs.Prelude.{sum_by}
use Rattle.cp_machine.specs.System.{machine_of, output_of}
use Rattle.cp_run.specs.Run.{chosen}
use Rattle.cp_ways.proofs.Given.{Outcome, slots, walk}
use Rattle.cp_ways.specs.Ways.{since}
use Rattle.cp_ways.specs.Weights.{AreKnown, weight, weight_of}
use Rattle.cp_ways.proofs.counting.Counting.+add_ways.Given as goal

abbrev pub decreases-add_ways : goal.decreases-add_ways
decreases-add_ways l = 3 * l.left

abbrev pub decreases-add_choice : goal.decreases-add_choice
decreases-add_choice l = 3 * l.left + 1

abbrev pub decreases-count : goal.decreases-count
decreases-count l = 3 * l.left + 2

abbrev pub invariant-count-loop-process : goal.invariant-count-loop-process
invariant-count-loop-process l =
    record {
      known : AreKnown (slots l.job.program.now l.job.limits.discipline) l.job.limits.steps l.self.known.entries;
      ways : (f : Outcome → ℕ) → weight f l.ways.list.entries ≡ sum_by (λ p. weight_of (λ o. f (since (length (output_of (machine_of l.state))) o)) (walk (slots l.job.program.now l.job.limits.discipline) l.job.limits.steps l.left (chosen (slots l.job.program.now l.job.limits.discipline) l.job.limits.steps (machine_of l.state) p))) (take l.process-index l.process-items);
    }
