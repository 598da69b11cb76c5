use Rattle.cp_endless_laws.specs.Silent.{silent_slots, in_call_on_slots, waits_on_slots}
use Rattle.cp_waits.proofs.Seeing.{seen_then}
use Rattle.cp_waits.proofs.passing.PassingSetsSight.then.Goals as goal

pub returns : goal.returns
returns c = λ r discipline due ms ns h k.
    seen_then (silent_slots r discipline) in_call_on_slots waits_on_slots due ms ns c.args.self.now c.args.other.now _ h k c.and-self.ensures c.or-self.ensures c.and-self-2.ensures c.or-self-2.ensures c.or-self-3.ensures
