use Rattle.std.proofs.Common.{ℕ, suc, ap, sym, subst, ◌∙◌, add-one}
use Rattle.cp_waits.proofs.Words.{Machine, Some, those_below, silent_slots, in_call_on_slots, waits_on_slots, ok_to}
use Rattle.cp_run.specs.Slots.{processes_of}
use Rattle.cp_ends.specs.Answer.{slot_graph}
use Rattle.cp_ends.specs.Holds.{SlotFindings}
use Rattle.cp_ends.specs.Searched.{Grows}
use Rattle.cp_ends.proofs.GoingOn.{all_gone, list_grows}
use Rattle.cp_ends.proofs.Searching.Lists.{grown_at, grows_joined}
use Rattle.cp_waits.specs.Building.{AddsChoicesOnSlots, IsSlotGraphTo, findings_at}
use Rattle.cp_waits.proofs.Adding.{graph_next}
use Rattle.cp_waits.proofs.Numbers.{quiet_may}
use Rattle.cp_waits.proofs.building.GraphVisitRowVisitPassingSets.end_state.Goals as goal

pub end_state-requires : goal.end_state-requires
end_state-requires c = (c.requires.0, c.requires.1, c.requires.2.0)

pub returns : goal.returns
returns c = ok_to c.end_state-2.result _ _ c.end_state-2.ensures.ends (λ a ends.
    (let job = c.args.job.now in
    let r = job.run.program.now in
    let discipline = job.run.limits.discipline in
    let steps = job.run.limits.steps in
    let quiet = silent_slots r discipline in
    let gr = slot_graph r discipline steps in
    let n = c.args.at in
    let m = c.requires.1 in
    let within = c.requires.2.1 in
    let from = within.ends.from in
    let now = c.args.self.now.graph in
    let new = c.end_state-2.new.self in
    let f = findings_at r discipline steps job.most n in
    let done = those_below (processes_of r) (gr.may m) in
    let gone = all_gone r gr job.most c.args.self.now.search.found n m within.ends in (
      c.in_ok-end_state.ensures.0,
      record {
        ends = c.in_ok-end_state.ensures.1;
        graph = λ states more.
            (let after : Grows (findings_at r discipline steps job.most (suc n)).states states = subst (λ (i : ℕ). Grows (findings_at r discipline steps job.most i).states states) (add-one n) more in
            let before = subst (λ (k : SlotFindings). Grows k.states states) (sym gone) after in
            let first = grows_joined f.states _ states (list_grows gr from done f) before in
            let is = grown_at f.states states n from first within.ends.is ∙ ap (λ (k : Machine). Some (k, from.1)) (sym within.ends.here) in
            let silent = subst (λ (g : ℕ → _). AddsChoicesOnSlots r discipline steps states n m (those_below (processes_of r) g) within.old now) (quiet_may r discipline m) (within.adds states before) in
            let next : IsSlotGraphTo r discipline steps states (suc n) new = graph_next quiet in_call_on_slots waits_on_slots steps states n (m, from.1) within.old now new (within.before states first) is silent c.end_state-2.ensures.processes c.end_state-2.ensures.edges c.end_state-2.ensures.standstills ends in
            subst (λ (i : ℕ). IsSlotGraphTo r discipline steps states i new) (sym (add-one n)) next);
      },
    )))
