use Rattle.std.proofs.Common.{[], ◌++◌}
use Rattle.cp_machine.specs.Machine.{machine_of, thread_at}
use Rattle.cp_run.proofs.Tracing.{ok_as}
use Rattle.cp_cover.specs.Reached.{item_marks, wait_marks}
use Rattle.cp_layers.proofs.Adding.{adds_then}
use Rattle.cp_cover.proofs.noting.MarksObserve.see_step.Goals as goal

pub returns : goal.returns
returns c = ok_as c.note_wait.result _ _ c.note_wait.ensures (λ u adds before seen made h. adds_then [] (seen ++ item_marks (thread_at before.threads c.args.process).stack) c.args.self.now.known.keys (wait_marks (thread_at (machine_of c.args.state.now).threads c.args.process)) c.note_wait.new.marks.known.keys h.1 adds)
