use Rattle.cp_at_once.proofs.Words.{◌≡◌, [], true, false, subst, slot_graph, GoesOn, HasLeg}
use Rattle.cp_at_once.proofs.Arriving.{begun, first_followed}
use Rattle.cp_at_once.proofs.Choices.{answers_marked}
use Rattle.cp_at_once.proofs.search.search_with.Goals as goal

pub follow-requires-clause-known : goal.follow-requires-clause-known
follow-requires-clause-known g c = c.in_ok-arrival.ensures.nothing.kept.known

pub follow-requires-clause-row : goal.follow-requires-clause-row
follow-requires-clause-row g c = λ due. (c.in_ok-arrival.ensures.opens.0, c.in_ok-arrival.ensures.opens.1 due)

pub visit_all-requires-clause-begun : goal.visit_all-requires-clause-begun
visit_all-requires-clause-begun g c =
    let job = c.args.job.now in
    let r = job.run.program.now in
    let gr = slot_graph r job.run.limits.discipline job.run.limits.steps in
    let Leg = HasLeg r job.run.limits.discipline in
    let f = c.open.new.self.found in
    let h = c.follow.new.self.found in
    let o = c.in_ok-arrival.ensures.opens in
    let room : c.in_ok-is_room.is_room ≡ true = search in
    begun r gr Leg job.most f [] h
    (subst (GoesOn r gr Leg job.most 8 f [] h gr.start) room
    (first_followed r gr Leg job.most f h c.start-2.result c.start-2.ensures.state c.start-2.ensures.numbers c.in_ok-arrival.ensures.nothing _ _ o.2 o.3 c.in_ok-is_room.is_room (λ states word a held is arrives to shown. c.in_ok-is_room.ensures.found states word a o.0 held is arrives o.1 to shown)))

pub returns-then-not-is_room : goal.returns-then-not-is_room
returns-then-not-is_room g c =
    let job = c.args.job.now in
    let r = job.run.program.now in
    let gr = slot_graph r job.run.limits.discipline job.run.limits.steps in
    let Leg = HasLeg r job.run.limits.discipline in
    let f = c.open.new.self.found in
    let h = c.follow.new.self.found in
    let o = c.in_ok-arrival.ensures.opens in
    let none : c.in_ok-is_room.is_room ≡ false = search in
    answers_marked r gr Leg job.most h false false
    (subst (GoesOn r gr Leg job.most 8 f [] h gr.start) none
    (first_followed r gr Leg job.most f h c.start-2.result c.start-2.ensures.state c.start-2.ensures.numbers c.in_ok-arrival.ensures.nothing _ _ o.2 o.3 c.in_ok-is_room.is_room (λ states word a held is arrives to shown. c.in_ok-is_room.ensures.found states word a o.0 held is arrives o.1 to shown)))

pub returns : goal.returns
returns g c =
    let job = c.args.job.now in
    let r = job.run.program.now in
    answers_marked r (slot_graph r job.run.limits.discipline job.run.limits.steps) (HasLeg r job.run.limits.discipline) job.most c.visit_all.new.self.found c.in_ok-is_whole.is_whole c.in_ok-is_whole.is_whole c.in_ok-is_whole.ensures
