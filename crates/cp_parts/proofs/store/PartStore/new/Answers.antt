use Rattle.std.proofs.Common.{◌∙◌}
use Rattle.cp_parts.proofs.store.PartStore.new.Goals as goal

pub invariant_of-result : goal.invariant_of-result
invariant_of-result c = record { is_ready = record { within = c.in_ok-ready.ensures.number.0; is = c.in_ok-ready.ensures.number.1 ∙ c.status_numbers-numbers.ensures } }
