use Rattle.cp_run.proofs.Words.{◌∙◌, ap, ◌==◌, machine_of, slots}
use Rattle.std.specs.List.{list_any}
use Rattle.cp_run.proofs.Wanting.{any_wanted}
use Rattle.cp_run.proofs.choice.may.Goals as goal

pub returns : goal.returns
returns c = c.contains.ensures.value ∙ ap (list_any (λ y. y == c.args.process)) (c.deref.ensures.0 ∙ c.candidates.ensures) ∙ any_wanted (slots c.args.job.now.program.now c.args.job.now.limits.discipline) (machine_of c.args.state.now) c.args.process
