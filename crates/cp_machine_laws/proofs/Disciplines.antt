-- The disciplines on names and on slots are the same: what one is on the other side is it again when it is taken back.
use Rattle.std.proofs.Common.{◌≡◌, ◌∙◌, ap, refl}
use Rattle.cp_machine.specs.declared.discipline.Discipline as slots
use Rattle.cp_machine.specs.declared.discipline.Gates as slot_gates
use Rattle.cp_machine.specs.declared.discipline.Gates.TheVariants.{First, Any}
use Rattle.cp_machine.specs.declared.discipline.Signals as slot_signals
use Rattle.cp_machine.specs.declared.discipline.Signals.TheVariants as signals
use Rattle.cp_meaning.specs.State as named
use Rattle.cp_meaning.specs.State.{first_gates, any_gates, return_signals, continue_signals, wait_signals}
use Rattle.cp_machine_laws.specs.Named.{gates_of, named_gates, signals_of, named_signals, discipline_of, named_discipline}

same_gates : (g : slot_gates.Gates) → gates_of (named_gates g) ≡ g
same_gates First = refl
same_gates Any = refl

same_signals : (s : slot_signals.Signals) → signals_of (named_signals s) ≡ s
same_signals signals.Return = refl
same_signals signals.Continue = refl
same_signals signals.Wait = refl

pub same_discipline : (d : slots.Discipline) → discipline_of (named_discipline d) ≡ d
same_discipline d =
    ap (λ (g : slot_gates.Gates). let c : slots.Discipline = record { gates = g; signals = signals_of (named_signals d.signals) } in c) (same_gates d.gates)
    ∙ ap (λ (s : slot_signals.Signals). let c : slots.Discipline = record { gates = d.gates; signals = s } in c) (same_signals d.signals)

gates_back : (g : named.Gates) → named_gates (gates_of g) ≡ g
gates_back first_gates = refl
gates_back any_gates = refl

signals_back : (s : named.Signals) → named_signals (signals_of s) ≡ s
signals_back return_signals = refl
signals_back continue_signals = refl
signals_back wait_signals = refl

pub discipline_back : (d : named.Discipline) → named_discipline (discipline_of d) ≡ d
discipline_back d =
    ap (λ (g : named.Gates). let c : named.Discipline = record { gates = g; signals = named_signals (signals_of d.signals) } in c) (gates_back d.gates)
    ∙ ap (λ (s : named.Signals). let c : named.Discipline = record { gates = d.gates; signals = s } in c) (signals_back d.signals)
