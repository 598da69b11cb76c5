use Rattle.std.proofs.Common.{[]}
use Rattle.cp_machine.specs.Machine.{machine_of, thread_at}
use Rattle.cp_run.proofs.Tracing.{ok_as}
use Rattle.cp_cover.specs.Reached.{item_marks}
use Rattle.cp_layers.proofs.Adding.{adds_then}
use Rattle.cp_cover.proofs.noting.MarksObserve.expect_step.Goals as goal

pub returns : goal.returns
returns c = ok_as c.note_item.result _ _ c.note_item.ensures (λ u adds seen h. (c.requires.ready, adds_then [] seen c.args.self.now.known.keys (item_marks (thread_at (machine_of c.args.state.now).threads c.args.process).stack) c.note_item.new.marks.known.keys h adds))
