use Rattle.std.proofs.Common.{◌≡◌, [], ◌∷◌, drop}
use Rattle.std.specs.List.{list_any}
use Rattle.cp_endless_laws.specs.Silent.{has_monitor_return}
use Rattle.cp_ends.proofs.look.is_inside.Given as goal

abbrev pub invariant-loop-entry : goal.invariant-loop-entry
invariant-loop-entry l = list_any (λ e. has_monitor_return (e ∷ [])) (drop l.entry-index l.stack) ≡ list_any (λ e. has_monitor_return (e ∷ [])) l.stack
