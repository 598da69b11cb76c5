use Rattle.std.proofs.Common.{◌≡◌, ◌∙◌, ap, sym, true}
use Rattle.cp_machine.specs.declared.state.Readiness.TheVariants.{Nobody, One, Several}
use Rattle.cp_machine.specs.Machine.{is_ready, readiness_of}
use Rattle.cp_run.specs.Run.{those_below}
use Rattle.cp_run.specs.Slots.{processes_of, slots}
use Rattle.cp_run.proofs.Turning.{among_nobody, among_one, among_several}
use Rattle.cp_stretches.proofs.Statuses.{those_ready}
use Rattle.cp_stretches.proofs.numbers.StatusNumbers.settled_turn.Goals as goal

pub returns-in-Nobody : goal.returns-in-Nobody
returns-in-Nobody c = λ r s m discipline process can.
    (let ready = those_below (processes_of r) (is_ready m) in
    let alone : readiness_of ready ≡ Nobody = ap readiness_of (sym (those_ready r s c.args.table.now c.args.self.now m c.args.row.now can)) ∙ sym c.readiness.ensures ∙ c.in-Nobody.is in
    c.end.ensures r s m can ∙ sym (among_nobody (slots r discipline) m true process ready alone))

pub returns-in-One : goal.returns-in-One
returns-in-One c = λ r s m discipline process can.
    (let ready = those_below (processes_of r) (is_ready m) in
    let alone : readiness_of ready ≡ One c.in-One.process = ap readiness_of (sym (those_ready r s c.args.table.now c.args.self.now m c.args.row.now can)) ∙ sym c.readiness.ensures ∙ c.in-One.is in
    sym (among_one (slots r discipline) m true process ready c.in-One.process alone))

pub returns-in-Several : goal.returns-in-Several
returns-in-Several c = λ r s m discipline process can.
    (let ready = those_below (processes_of r) (is_ready m) in
    let alone : readiness_of ready ≡ Several = ap readiness_of (sym (those_ready r s c.args.table.now c.args.self.now m c.args.row.now can)) ∙ sym c.readiness.ensures ∙ c.in-Several.is in
    sym (among_several (slots r discipline) m true process ready alone))
