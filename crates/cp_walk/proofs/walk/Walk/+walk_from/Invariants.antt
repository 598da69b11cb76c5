use Rattle.cp_walk.proofs.Words.{◌≡◌, ◌≤◌, ◌+◌, ◌*◌, [], length, map, take, ◌++◌, All, machine_of, IsStateOf, slots, words_in, line_of, behind}
use Rattle.cp_walk.specs.Walking.{AreFound}
use Rattle.cp_walk.proofs.Counted.{added}
use Rattle.cp_walk.proofs.Listed.{behind_each}
use Rattle.cp_walk.proofs.walk.Walk.+walk_from.Given as goal

abbrev pub decreases-walk_from : goal.decreases-walk_from
decreases-walk_from g l = 3 * length l.kept.now

abbrev pub decreases-walk_child : goal.decreases-walk_child
decreases-walk_child g l = 3 * length l.deeper.now + 2

abbrev pub decreases-walk_once : goal.decreases-walk_once
decreases-walk_once g l = 3 * length l.kept.now + 1

abbrev pub invariant-walk_from-loop-process : goal.invariant-walk_from-loop-process
invariant-walk_from-loop-process g l =
    record {
      rows : map line_of l.self.found.rows.items ≡ map line_of l.fn.self.found.rows.items ++ map (behind l.fn.self.word.items) (behind_each (slots l.job.program.now l.job.limits.discipline) l.job.limits.steps (length l.deeper) (machine_of l.state) (take l.process-index l.others));
      word : l.self.word.items ≡ l.fn.self.word.items;
      found : AreFound l.job.program.now l.job.limits l.self.found;
      next : IsStateOf l.job.program.now l.next;
      deeper : All (IsStateOf l.job.program.now) l.deeper;
      calls : g.C.Count.count l.calls ≤ g.C.Count.count l.fn.calls + added [] (words_in (behind_each (slots l.job.program.now l.job.limits.discipline) l.job.limits.steps (length l.deeper) (machine_of l.state) (take l.process-index l.others)));
    }
