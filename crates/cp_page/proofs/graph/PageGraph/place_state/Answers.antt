use Rattle.std.proofs.Common.{All, sym, subst}
use Rattle.std.proofs.lemmas.List.Elements.{All-push}
use Rattle.cp_machine.specs.System.{IsStateOf}
use Rattle.cp_page.proofs.graph.PageGraph.place_state.Goals as goal

pub returns-in_ok-push-2 : goal.returns-in_ok-push-2
returns-in_ok-push-2 g c =
    let own = IsStateOf c.args.job.now.run.program.now in
    record { states = subst (All own) (sym c.in_ok-push.ensures.items) (All-push own c.args.self.now.states.items c.in_ok-copy.field-0 c.requires.states (c.in_ok-copy.ensures.own c.args.job.now.run.program.now c.requires.own)) }
