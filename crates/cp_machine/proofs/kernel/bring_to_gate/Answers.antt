use Rattle.std.proofs.Common.{◌≡◌, ◌∙◌, ◌⊎◌, inl, inr, ℕ, Some, ap, sym}
use Rattle.cp_machine.proofs.Words.{Machine, machine_of}
use Rattle.cp_machine.specs.declared.discipline.Signals.{Signals}
use Rattle.cp_machine.specs.declared.discipline.Signals.TheVariants as signals
use Rattle.cp_machine.specs.Kernel.{join_line, signal_by}
use Rattle.cp_machine.proofs.kernel.bring_to_gate.Goals as goal

by_joining : (s : Signals) → (s ≡ signals.Return) ⊎ (s ≡ signals.Continue) → (q : ℕ) (m : Machine) (pid monitor : ℕ) → join_line m monitor q ≡ signal_by s (Some q) m pid monitor
by_joining s (inl e) q m pid monitor = ap (λ t. signal_by t (Some q) m pid monitor) (sym e)
by_joining s (inr e) q m pid monitor = ap (λ t. signal_by t (Some q) m pid monitor) (sym e)

pub returns-in-Return-clause-after : goal.returns-in-Return-clause-after
returns-in-Return-clause-after c = c.join_line.ensures.after ∙ by_joining c.args.state.now.discipline.signals c.in-Return.is c.args.resumed (machine_of c.args.state.now) c.args.pid c.args.monitor
