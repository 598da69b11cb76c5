use Rattle.cp_verdict.proofs.any_length.Vocabulary.{◌∙◌, ap, asks_some, judgement_of}
use Rattle.cp_verdict.specs.endless.Naming.{processes_of}
use Rattle.cp_verdict.proofs.who.EndsJudging.{judged_any, settling_plainly}
use Rattle.cp_verdict.proofs.endless.judging.judge.Goals as goal

pub returns-clause-slots : goal.returns-clause-slots
returns-clause-slots c = λ r discipline steps most h. judged_any r discipline steps most c.args.known.now h (processes_of c.args.legend.now) c.args.expectation.now c.judgement_from.result c.first_settling-found.result c.is_settled.result (c.first_settling-found.ensures r.names h.texts) c.is_settled.ensures c.judgement_from.ensures

pub returns-clause-known : goal.returns-clause-known
returns-clause-known c = λ values h none. (
  c.first_settling-found.result,
  c.first_settling-found.ensures values h ∙ settling_plainly (record { values = values; processes = processes_of c.args.legend.now }) c.args.expectation.now c.args.known.now none,
  c.judgement_from.ensures ∙ ap (judgement_of (asks_some c.args.expectation.now) c.first_settling-found.result) c.is_settled.ensures,
)
