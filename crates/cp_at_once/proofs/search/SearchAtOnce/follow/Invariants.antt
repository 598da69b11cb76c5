use Rattle.cp_at_once.proofs.Words.{◌≡◌, ◌≤◌, ◌+◌, ℕ, List, [], length, Machine, slot_graph, goal_at, ArrivesAt}
use Rattle.cp_at_once.proofs.Words.{SlotArrival, Holds, IsWordOf, HasLeg}
use Rattle.cp_run.specs.declared.outcome.Halt.TheVariants.{Choice}
use Rattle.cp_ends.specs.Holds.{AreStates}
use Rattle.cp_ends.specs.Rows.{IsRowFor}
use Rattle.cp_at_once.specs.ByRows.{HasRoom, KeepStore}
use Rattle.cp_at_once.proofs.Following.{Going}
use Rattle.cp_at_once.proofs.search.SearchAtOnce.follow.Given as goal

abbrev pub invariant-loop-made : goal.invariant-loop-made
invariant-loop-made l =
    record {
      room : HasRoom l.job.run.limits.discipline l.self;
      known : AreStates l.job.run.program.now l.self.found.kept.store [];
      row : l.arrival ≡ Choice → (m : Machine) × IsRowFor l.job.run.program.now l.self.found.kept.store l.self.row.items m;
      numbers : length l.origin.numbers.items ≤ l.made + 1;
      store : KeepStore l.job.run.program.now l.initial.self.found.kept.store l.self.found.kept.store;
      found : (states : List (Machine × List ℕ)) (word : List ℕ) (a : SlotArrival) (m : Machine) → Holds l.job.run.program.now (slot_graph l.job.run.program.now l.job.run.limits.discipline l.job.run.limits.steps) l.job.most l.initial.self.found states → IsWordOf states l.initial.origin word → ArrivesAt (slot_graph l.job.run.program.now l.job.run.limits.discipline l.job.run.limits.steps) word a → (l.initial.arrival ≡ Choice → IsRowFor l.job.run.program.now l.initial.self.found.kept.store l.initial.self.row.items m) → goal_at l.initial.arrival m ≡ a.goal → l.initial.self.told.values.items ≡ a.shown →
          (k : Machine) × (l.arrival ≡ Choice → IsRowFor l.job.run.program.now l.self.found.kept.store l.self.row.items k) × Going l.job.run.program.now (slot_graph l.job.run.program.now l.job.run.limits.discipline l.job.run.limits.steps) (HasLeg l.job.run.program.now l.job.run.limits.discipline) l.job.most l.initial.self.found states l.self.found a (goal_at l.arrival k) l.self.told.values.items l.origin l.made;
    }
