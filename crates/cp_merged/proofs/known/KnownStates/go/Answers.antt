use Rattle.std.proofs.Common.{sym, subst}
use Rattle.cp_merged.specs.Known.{Goes}
use Rattle.cp_merged.proofs.Choosing.{ok_to}
use Rattle.cp_merged.proofs.KnownRows.{known_on, row_for_on}
use Rattle.cp_merged.proofs.known.KnownStates.go.Goals as goal

pub go_slowly-requires-clause-here : goal.go_slowly-requires-clause-here
go_slowly-requires-clause-here c =
    let r = c.args.job.now.program.now in
    (c.requires.here.0, row_for_on r c.args.self.now c.go_by_legs.new.self c.in_ok-halt.ensures.kept c.args.from.now c.requires.here.0 c.requires.here.1, c.requires.here.2, c.requires.here.3)

pub returns-in-None-clause-kept : goal.returns-in-None-clause-kept
returns-in-None-clause-kept c = ok_to c.go_slowly.result _ _ c.go_slowly.ensures.kept (λ a kept. known_on c.args.self.now c.go_by_legs.new.self c.go_slowly.new.self c.in_ok-halt.ensures.kept kept)

pub returns-in-None-clause-goes : goal.returns-in-None-clause-goes
returns-in-None-clause-goes c =
    let r = c.args.job.now.program.now in
    let discipline = c.args.job.now.limits.discipline in
    let steps = c.args.job.now.limits.steps in
    ok_to c.go_slowly.result _ _ c.go_slowly.ensures.goes
    (λ halt go m is own may.
    subst (Goes r discipline steps m c.args.process halt c.go_slowly.new.self c.go_slowly.new.row) (sym c.clear.ensures.items) (go m (row_for_on r c.args.self.now c.go_by_legs.new.self c.in_ok-halt.ensures.kept c.args.from.now m is) own may))
