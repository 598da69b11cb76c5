use Rattle.std.proofs.Common.{inl}
use Rattle.cp_waits.proofs.waiting.answer_with.Goals as goal

pub returns : goal.returns
returns c = c.found_or_open.ensures c.args.graph.now c.args.states.now c.args.process c.in_ok-found.ensures (inl (c.args.still.now, c.requires.known, c.requires.waits))

pub returns-2 : goal.returns-2
returns-2 c = c.found_or_open-2.ensures c.args.graph.now c.args.states.now c.args.process c.in_ok-found-2.ensures (inl (c.args.still.now, c.requires.known, c.requires.waits))
