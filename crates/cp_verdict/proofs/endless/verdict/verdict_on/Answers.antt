use Rattle.cp_verdict.specs.endless.Naming.{processes_of}
use Rattle.cp_verdict.specs.waiting.EndsJudged.{IsJudgedAny, IsJudgedByAny}
use Rattle.cp_verdict.proofs.any_length.Verdicts.{verdict_all, verdict_more, verdict_none}
use Rattle.cp_verdict.proofs.endless.verdict.verdict_on.Goals as goal

pub loop-expectation-init : goal.loop-expectation-init
loop-expectation-init c =
    record {
      slots = λ r discipline steps most h. verdict_none (IsJudgedAny r (processes_of c.args.legend.now) discipline steps c.args.known.now) c.args.list.now;
      known = λ names h. verdict_none (IsJudgedByAny (record { values = names; processes = processes_of c.args.legend.now }) c.args.known.now) c.args.list.now;
    }

pub loop-expectation-preserved : goal.loop-expectation-preserved
loop-expectation-preserved c =
    record {
      slots = λ r discipline steps most h.
          verdict_more (IsJudgedAny r (processes_of c.args.legend.now) discipline steps c.args.known.now) c.args.list.now c.loop-expectation.expectation-index _ c.loop-expectation.verdict c.join-verdict.result c.judge.result
          c.loop-expectation-test.true c.expectation-item.is c.join-verdict.ensures (c.loop-expectation.invariant.slots r discipline steps most h) (c.judge.ensures.slots r discipline steps most h);
      known = λ names h.
          verdict_more (IsJudgedByAny (record { values = names; processes = processes_of c.args.legend.now }) c.args.known.now) c.args.list.now c.loop-expectation.expectation-index _ c.loop-expectation.verdict c.join-verdict.result c.judge.result
          c.loop-expectation-test.true c.expectation-item.is c.join-verdict.ensures (c.loop-expectation.invariant.known names h) (c.judge.ensures.known names h);
    }

pub returns-clause-slots : goal.returns-clause-slots
returns-clause-slots c = λ r discipline steps most h. verdict_all (IsJudgedAny r (processes_of c.args.legend.now) discipline steps c.args.known.now) c.args.list.now c.loop-expectation.expectation-index c.loop-expectation.verdict c.loop-expectation-test.false (c.loop-expectation.invariant.slots r discipline steps most h)

pub returns-clause-known : goal.returns-clause-known
returns-clause-known c = λ names h. verdict_all (IsJudgedByAny (record { values = names; processes = processes_of c.args.legend.now }) c.args.known.now) c.args.list.now c.loop-expectation.expectation-index c.loop-expectation.verdict c.loop-expectation-test.false (c.loop-expectation.invariant.known names h)
