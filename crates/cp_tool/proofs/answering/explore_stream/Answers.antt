use Rattle.cp_tool.proofs.answering.explore_stream.Goals as goal

pub returns-clause-told : goal.returns-clause-told
returns-clause-told g c = c.explore_stream_observed.ensures.told
