use Rattle.cp_walk.proofs.Words.{◌≡◌, ◌≤◌, ℕ, Some, length, slots, words_of}
use Rattle.cp_walk.specs.Cutting.{deepened}
use Rattle.cp_walk.specs.Deepening.{Settled, weight}
use Rattle.cp_walk.proofs.cutting.Cutting.to_depth_observed.Given as goal

abbrev pub invariant-loop-at : goal.invariant-loop-at
invariant-loop-at g l =
    record {
      job : l.self.job ≡ l.fn.self.job;
      within : l.at ≤ length l.self.words.items;
      settled : Settled (slots l.fn.self.job.program.now l.fn.self.job.limits.discipline) l.fn.self.job.limits.choices l.fn.self.job.limits.steps l.depth (words_of l.self.words.items) l.at;
      splits : (n : ℕ) × (deepened (slots l.fn.self.job.program.now l.fn.self.job.limits.discipline) l.fn.self.job.limits.choices l.fn.self.job.limits.steps l.depth n (words_of l.fn.self.words.items) ≡ Some (words_of l.self.words.items));
    }

abbrev pub decreases-loop-at : goal.decreases-loop-at
decreases-loop-at g l = weight (words_of l.self.words.items) l.at
