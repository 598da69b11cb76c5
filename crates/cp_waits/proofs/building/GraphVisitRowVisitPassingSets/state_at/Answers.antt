use Rattle.std.specs.Prelude.{IfNone, IfSome, None, Option, Some}
use Rattle.cp_waits.proofs.Words.{silent_slots, in_call_on_slots, waits_on_slots}
use Rattle.cp_waits.proofs.Adding.{adds_nothing}
use Rattle.cp_ends.proofs.RowsVisited.{begins_at}
use Rattle.cp_resolved.proofs.names.Entries.{not_there as past_none}
use Rattle.cp_waits.specs.Building.{findings_at}
use Rattle.cp_waits.proofs.Visiting.{looks_so}
use Rattle.cp_waits.proofs.building.GraphVisitRowVisitPassingSets.state_at.Goals as goal

some_to : {A : Type 0} (o : Option A) (P Q : A → Type 0) → IfSome o P → ((a : A) → P a → Q a) → IfSome o Q
some_to None P Q h f = h
some_to (Some a) P Q h f = f a h

none_to : {A : Type 0} (o : Option A) (P Q : Type 0) → IfNone o P → (P → Q) → IfNone o Q
none_to None P Q h f = f h
none_to (Some a) P Q h f = h

pub state_at-requires : goal.state_at-requires
state_at-requires c =
    let job = c.args._job.now in
    (job.run.program.now, (findings_at job.run.program.now job.run.limits.discipline job.run.limits.steps job.most c.args.number).states, c.requires.1.ends.holds.states)

pub returns-clause-found : goal.returns-clause-found
returns-clause-found c =
    let job = c.args._job.now in
    let r = job.run.program.now in
    let discipline = job.run.limits.discipline in
    let steps = job.run.limits.steps in
    let n = c.args.number in
    let graph = c.args.self.now.graph in
    let before = c.requires.1 in
    some_to c.state_at.result _ _ c.state_at.ensures.found (λ from found.
    (let at = begins_at looks_so r discipline steps job.most c.args.self.now.search from n c.requires.0 before.ends (found r (findings_at r discipline steps job.most n).states before.ends.holds.states) in
    (at.0, (at.1, record { ends = at.1.within; old = graph; before = before.graph; adds = λ after more. adds_nothing (silent_slots r discipline) in_call_on_slots waits_on_slots steps after n at.0 graph }))))

pub returns-clause-none : goal.returns-clause-none
returns-clause-none c =
    let job = c.args._job.now in
    let r = job.run.program.now in
    let n = c.args.number in
    let before = c.requires.1 in
    let states = (findings_at r job.run.limits.discipline job.run.limits.steps job.most n).states in
    none_to c.state_at.result _ _ c.state_at.ensures.none (λ none. record { whole = record { count = n; holds = before.ends; all = past_none states n (none r states before.ends.holds.states) }; graph = before.graph })
