use Rattle.cp_waits.proofs.Words.{◌∙◌, [], sym, subst, silent_slots, in_call_on_slots, waits_on_slots, Comes, first_leg}
use Rattle.cp_waits.proofs.Adding.{graph_begun}
use Rattle.cp_waits.specs.Building.{IsSearchedGraph}
use Rattle.cp_waits.specs.declared.building.FoundGraph.{FoundGraph}
use Rattle.cp_waits.proofs.Standing.{first_of_stretch}
use Rattle.cp_waits.proofs.Visiting.{graph_noted}
use Rattle.cp_run.proofs.Failing.{none_well}
use Rattle.cp_waits.proofs.building.build_graph.Goals as goal

pub open-requires-clause-nothing : goal.open-requires-clause-nothing
open-requires-clause-nothing g c = c.in_ok-search.ensures.nothing

pub visit_rows-requires : goal.visit_rows-requires
visit_rows-requires g c =
    let job = c.args.job.now in
    let r = job.run.program.now in
    let discipline = job.run.limits.discipline in
    let steps = job.run.limits.steps in
    let quiet = silent_slots r discipline in
    let told = c.open.new.self.told in
    let last = c.in_ok-arrived.ensures.seen.0 in
    let count = c.new-graph.ensures.processes ∙ c.processes.ensures.value in
    let comes : Comes r discipline steps (first_leg quiet steps) [] told.seen c.halt-halt.result last = subst (λ h. Comes r discipline steps (first_leg quiet steps) [] told.seen h last) (sym c.halt-halt.ensures) c.in_ok-arrived.ensures.seen.1 in
    let still = c.in_ok-note_standstill.ensures.still r discipline steps (first_leg quiet steps) [] told.seen last c.processes.ensures.sound.few count (first_of_stretch quiet steps) comes in
    record {
      begun = (
        c.in_ok-arrived.ensures.room,
        record {
          ends = c.in_ok-arrived.ensures.begun;
          graph = λ states more. graph_begun quiet in_call_on_slots waits_on_slots steps states c.new-graph.result _ c.new-graph.ensures.standstills c.new-graph.ensures.edges c.new-graph.ensures.ends count still c.note_standstill.ensures.processes c.note_standstill.ensures.ends c.note_standstill.ensures.edges;
        },
      );
    }

pub returns : goal.returns
returns g c =
    let job = c.args.job.now in
    let stopped = c.in_ok-stopped.stopped in
    subst (λ (x : FoundGraph). IsSearchedGraph job.run.program.now job.run.limits.discipline job.run.limits.steps job.most x.found x.graph x.found.stopped) (sym c.into_found.ensures)
    (graph_noted job.run.program.now job.run.limits.discipline job.run.limits.steps job.most c.visit_rows.new.visit.graph c.visit_rows.new.visit.search.found stopped stopped c.in_ok-stopped.ensures)

pub returns-in_err-stopped : goal.returns-in_err-stopped
returns-in_err-stopped g c = none_well c.from_residual-in_err-stopped.result _ _ c.from_residual-in_err-stopped.ensures.1
