use Rattle.cp_verdict.specs.endless.Naming.{processes_of}
use Rattle.cp_verdict.specs.waiting.EndsJudged.{IsJudgedAny, IsJudgedByAny}
use Rattle.cp_verdict.proofs.any_length.Saying.{said_all, said_more, said_none}
use Rattle.cp_verdict.proofs.endless.saying.sayings_of.Goals as goal

pub loop-expectation-init : goal.loop-expectation-init
loop-expectation-init c =
    let ps = processes_of c.args.legend.now in
    let k = c.args.known.now in
    record {
      slots = λ r discipline steps most h. said_none ps c.args.at_once k (IsJudgedAny r ps discipline steps k) c.args.list.now c.new-each.result.items c.new-each.ensures.items;
      known = λ names h. said_none ps c.args.at_once k (IsJudgedByAny (record { values = names; processes = ps }) k) c.args.list.now c.new-each.result.items c.new-each.ensures.items;
    }

pub loop-expectation-preserved : goal.loop-expectation-preserved
loop-expectation-preserved c =
    let ps = processes_of c.args.legend.now in
    let k = c.args.known.now in
    record {
      slots = λ r discipline steps most h.
          said_more ps c.args.at_once k (IsJudgedAny r ps discipline steps k) c.args.list.now c.loop-expectation.expectation-index c.expectation-item.result c.loop-expectation.each.items c.push.new.self.items c.in_ok-said_of.field-0 c.judge-judgement.result
          c.loop-expectation-test.true c.expectation-item.is c.in_ok-push.ensures.items (c.loop-expectation.invariant.slots r discipline steps most h) (c.judge-judgement.ensures.slots r discipline steps most h) c.in_ok-said_of.ensures;
      known = λ names h.
          said_more ps c.args.at_once k (IsJudgedByAny (record { values = names; processes = ps }) k) c.args.list.now c.loop-expectation.expectation-index c.expectation-item.result c.loop-expectation.each.items c.push.new.self.items c.in_ok-said_of.field-0 c.judge-judgement.result
          c.loop-expectation-test.true c.expectation-item.is c.in_ok-push.ensures.items (c.loop-expectation.invariant.known names h) (c.judge-judgement.ensures.known names h) c.in_ok-said_of.ensures;
    }

pub returns-clause-slots : goal.returns-clause-slots
returns-clause-slots c = λ r discipline steps most h.
    (let ps = processes_of c.args.legend.now in
    said_all ps c.args.at_once c.args.known.now (IsJudgedAny r ps discipline steps c.args.known.now) c.args.list.now c.loop-expectation.expectation-index c.loop-expectation.each.items c.loop-expectation-test.false (c.loop-expectation.invariant.slots r discipline steps most h))

pub returns-clause-known : goal.returns-clause-known
returns-clause-known c = λ names h.
    (let ps = processes_of c.args.legend.now in
    said_all ps c.args.at_once c.args.known.now (IsJudgedByAny (record { values = names; processes = ps }) c.args.known.now) c.args.list.now c.loop-expectation.expectation-index c.loop-expectation.each.items c.loop-expectation-test.false (c.loop-expectation.invariant.known names h))
