use Rattle.std.proofs.Common.{◌≡◌}
use Rattle.std.specs.Prelude.{◌&&◌, not, slice_index_or}
use Rattle.std.specs.List.{filter, range_with_len}
use Rattle.cp_machine.specs.declared.process.Status.TheVariants.{Ended}
use Rattle.cp_machine.specs.Machine.{is_unstarted, machine_of, thread_at}
use Rattle.cp_story.specs.Story.{last_or}
use Rattle.cp_story.proofs.statuses.started_process.Given as goal

abbrev pub invariant-loop-number : goal.invariant-loop-number
invariant-loop-number l = l.found ≡ last_or 0 (filter (λ q. is_unstarted (slice_index_or l.before q Ended) && not (is_unstarted (thread_at (machine_of l.state).threads q).status)) (range_with_len 0 l.number))
