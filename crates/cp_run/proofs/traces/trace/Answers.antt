use Rattle.std.proofs.Common.{◌∙◌, []}
use Rattle.cp_run.specs.Slots.{slots}
use Rattle.cp_run.proofs.TraceBounds.{few_lines}
use Rattle.cp_run.proofs.TraceFold.{is_traced}
use Rattle.cp_run.proofs.traces.trace.Goals as goal

pub returns : goal.returns
returns g c =
    let sys = slots c.args.job.now.program.now c.args.job.now.limits.discipline in
    let lines = c.in_ok-end.ensures.seen [] c.new.ensures.items ∙ is_traced sys c.args.job.now.limits.choices c.args.job.now.limits.steps c.args.word.now in
    record {
      lines = lines;
      answer = c.in_ok-end.ensures.answer;
      few = few_lines sys c.args.job.now.limits.steps c.args.job.now.limits.choices c.args.word.now c.observe_run.new.observer.lines.items lines;
      ticks = c.in_ok-end.ensures.ticks;
    }
