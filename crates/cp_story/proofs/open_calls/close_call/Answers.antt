use Rattle.std.proofs.Common.{arith}
use Rattle.cp_story.proofs.Calls.{call_taken}
use Rattle.cp_story.proofs.open_calls.close_call.Goals as goal

pub returns-in-Some-clause-left : goal.returns-in-Some-clause-left
returns-in-Some-clause-left c = call_taken c.args.calls.now.items c.args.process _ c.in-Some.own.now c.pop.new.self c.in-Some.ensures.item.3.0 c.in-Some.ensures.value (omega (arith, c.in-Some.own.now.ok.0)) c.pop.ensures.rest
