use Rattle.cp_outcomes.proofs.Meant.{meant_answer}
use Rattle.cp_outcomes.proofs.telling.find_outcomes.Goals as goal

pub returns-clause-meaning : goal.returns-clause-meaning
returns-clause-meaning g c = (let s = c.args.subject in meant_answer c.findings_by_states.result s.program.now s.limits.discipline s.limits.choices s.limits.steps c.findings_by_states.ensures)
