use Rattle.std.proofs.Common.{◌∙◌, ap, length}
use Rattle.cp_parts.proofs.store.PartStore.take_status.Goals as goal

pub at-requires : goal.at-requires
at-requires c = c.requires.1.within

pub status_of-process-requires-clause-long : goal.status_of-process-requires-clause-long
status_of-process-requires-clause-long c = ap length (c.at.ensures ∙ c.requires.1.is)

pub status_of-process-requires-clause-status : goal.status_of-process-requires-clause-status
status_of-process-requires-clause-status c = (c.requires.0, c.at.ensures ∙ c.requires.1.is, c.requires.2)

pub returns-then-number-known-clause-status : goal.returns-then-number-known-clause-status
returns-then-number-known-clause-status c = λ s is same. same c.if-number-known.true

pub returns-clause-status : goal.returns-clause-status
returns-clause-status c = λ s is same. c.status_of-process.ensures s (c.at.ensures ∙ is.is)
