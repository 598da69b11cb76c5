use Rattle.std.proofs.Common.{◌≡◌, ◌≤◌}
use Rattle.std.specs.Prelude.{◌&&◌, ◌==◌, not, slice_index_or}
use Rattle.std.specs.List.{filter, range_with_len}
use Rattle.arrayvec.specs.ArrayVec.{array_vec_len}
use Rattle.cp_machine.specs.declared.process.Status.TheVariants.{Ended}
use Rattle.cp_machine.specs.Machine.{is_ready, machine_of}
use Rattle.cp_story.specs.Story.{is_gated}
use Rattle.cp_story.proofs.statuses.processes_let_in.Given as goal

abbrev pub invariant-loop-number : goal.invariant-loop-number
invariant-loop-number l =
    record {
      items : l.gone.items ≡ filter (λ q. is_gated (slice_index_or l.before q Ended) && not (q == l.process) && is_ready (machine_of l.state) q) (range_with_len 0 l.number);
      few : array_vec_len l.gone ≤ l.number;
    }
