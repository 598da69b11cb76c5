use Rattle.cp_ends.proofs.Vocabulary.{SlotFindings, ends_tests, searched, slot_graph}
use Rattle.cp_resolved.proofs.names.Entries.{not_there as past_none}
use Rattle.std.specs.Prelude.{IfNone, IfSome, None, Option, Some}
use Rattle.cp_ends.proofs.RowsVisited.{begins_at}
use Rattle.cp_ends.proofs.rows.RowSearchRowVisit.state_at.Goals as goal

some_to : {A : Type 0} (o : Option A) (P Q : A → Type 0) → IfSome o P → ((a : A) → P a → Q a) → IfSome o Q
some_to None P Q h f = h
some_to (Some a) P Q h f = f a h

none_to : {A : Type 0} (o : Option A) (P Q : Type 0) → IfNone o P → (P → Q) → IfNone o Q
none_to None P Q h f = f h
none_to (Some a) P Q h f = h

pub state_at-requires : goal.state_at-requires
state_at-requires g c =
    let job = c.args._job.now in
    let f : SlotFindings = searched (slot_graph job.run.program.now job.run.limits.discipline job.run.limits.steps) ends_tests c.args.number in
    (job.run.program.now, f.states, c.requires.1.holds.states)

pub returns-clause-found : goal.returns-clause-found
returns-clause-found g c =
    let job = c.args._job.now in
    let r = job.run.program.now in
    let f : SlotFindings = searched (slot_graph r job.run.limits.discipline job.run.limits.steps) ends_tests c.args.number in
    some_to c.state_at.result _ _ c.state_at.ensures.found (λ from found. begins_at g.P.Sight.looks r job.run.limits.discipline job.run.limits.steps job.most c.args.self.now from c.args.number c.requires.0 c.requires.1 (found r f.states c.requires.1.holds.states))

pub returns-clause-none : goal.returns-clause-none
returns-clause-none g c =
    let job = c.args._job.now in
    let r = job.run.program.now in
    let n = c.args.number in
    let f : SlotFindings = searched (slot_graph r job.run.limits.discipline job.run.limits.steps) ends_tests n in
    none_to c.state_at.result _ _ c.state_at.ensures.none (λ none. record { count = n; holds = c.requires.1; all = past_none f.states n (none r f.states c.requires.1.holds.states) })
