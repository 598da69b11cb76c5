use Rattle.cp_story.proofs.Calls.{call_added}
use Rattle.cp_story.proofs.open_calls.open_call.Goals as goal

pub returns-in_ok-push : goal.returns-in_ok-push
returns-in_ok-push c = call_added c.args.calls.now.items c.args.process c.in-Some.own.now c.push.new.self c.args.call c.in-Some.ensures.item.3.0 c.in-Some.ensures.value c.in_ok-push.ensures.items
