use Rattle.std.proofs.Common.{◌∙◌, ◌++◌, [], ap, subst, sym}
use Rattle.cp_machine.specs.declared.discipline.Discipline.{Discipline}
use Rattle.cp_machine.specs.System.{machine_of}
use Rattle.cp_stretches.specs.Cached.{IsCache}
use Rattle.cp_ends.specs.Answer.{slot_graph}
use Rattle.cp_at_once.specs.Holds.{Holds}
use Rattle.cp_at_once.proofs.Following.{store_else}
use Rattle.cp_at_once.proofs.Staying.{row_stands}
use Rattle.cp_at_once.proofs.search.SearchAtOnce.open.Goals as goal

pub open-requires-clause-own : goal.open-requires-clause-own
open-requires-clause-own c = c.requires.nothing.kept.known.standing.own

pub find_row-requires-clause-cache : goal.find_row-requires-clause-cache
find_row-requires-clause-cache c = subst (λ (d : Discipline). IsCache c.args.job.now.run.program.now d c.args.self.now.found.kept.store.cache) c.requires.room.ruled c.requires.nothing.kept.known.cached

pub find_row-requires-clause-room : goal.find_row-requires-clause-room
find_row-requires-clause-room c = record { ruled = c.requires.room.ruled; row = c.requires.room.row; from = c.requires.room.from }

pub returns-clause-nothing : goal.returns-clause-nothing
returns-clause-nothing c =
    let job = c.args.job.now in
    let r = job.run.program.now in
    let gr = slot_graph r job.run.limits.discipline job.run.limits.steps in
    let old = c.args.self.now.found in
    subst (λ f. Holds r gr job.most f []) (sym c.in_ok-find_row.ensures.found) (store_else r gr job.most old [] c.requires.nothing c.find_row.new.self.found.kept.store (c.in_ok-find_row.ensures.store old.kept.store.standing))

pub returns-clause-opens : goal.returns-clause-opens
returns-clause-opens c =
    let job = c.args.job.now in
    let r = job.run.program.now in
    let gr = slot_graph r job.run.limits.discipline job.run.limits.steps in
    let new = c.find_row.new.self in (
      machine_of c.open.new.state,
      λ due. row_stands r new.found.kept.store c.open.new.state new.row.items c.open.ensures.own c.in_ok-halt.ensures.quiet (c.in_ok-halt.ensures.ruled due ∙ sym c.in_ok-find_row.ensures.room.ruled) c.in_ok-find_row.ensures.row,
      c.in_ok-halt.ensures.goal,
      c.find_row.ensures.told ∙ c.in_ok-halt.ensures.shown ∙ ap (λ l. l ++ gr.start.shown) c.clear.ensures.items,
    )
