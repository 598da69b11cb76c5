use Rattle.cp_tool.proofs.answering.ends_stream.Goals as goal

pub returns-clause-told : goal.returns-clause-told
returns-clause-told g c = (c.serve.result, c.status_of.ensures, c.serve.ensures.told, c.serve.ensures.faults)
