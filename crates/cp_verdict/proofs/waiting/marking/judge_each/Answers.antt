use Rattle.std.proofs.Common.{subst, sym}
use Rattle.std.specs.Prelude.{Contains}
use Rattle.std.proofs.lemmas.List.Elements.{Contains-get_or}
use Rattle.cp_verdict.specs.endless.Naming.{processes_of}
use Rattle.cp_verdict.specs.waiting.Judged.{IsJudgedAny}
use Rattle.cp_verdict.proofs.who.EndsMeant.{somebody}
use Rattle.cp_verdict.proofs.who.Verdicts.{judged_all, judged_more, judged_none}
use Rattle.cp_verdict.proofs.waiting.marking.judge_each.Goals as goal

pub loop-expectation-init : goal.loop-expectation-init
loop-expectation-init c = λ who lines same are. judged_none (IsJudgedAny c.args.program.now.names (processes_of c.args.legend.now) who lines) c.args.expectations.now c.new-judgements.result.items c.new-judgements.ensures.items

pub loop-expectation-preserved : goal.loop-expectation-preserved
loop-expectation-preserved c = λ who lines same are.
    (let es = c.args.expectations.now in
    let i = c.loop-expectation.expectation-index in
    let e = c.expectation-item.result in
    let here = subst (Contains es) (sym c.expectation-item.is) (Contains-get_or es i e c.loop-expectation-test.true) in
    judged_more (IsJudgedAny c.args.program.now.names (processes_of c.args.legend.now) who lines) es i e c.loop-expectation.judgements.items c.push.new.self.items c.in_ok-judgement.judgement
    c.loop-expectation-test.true c.expectation-item.is c.in_ok-push.ensures.items (c.loop-expectation.invariant who lines same are) (c.in_ok-judgement.ensures who lines same (λ asks. are (somebody es e here asks))))

pub returns : goal.returns
returns c = λ who lines same are. judged_all (IsJudgedAny c.args.program.now.names (processes_of c.args.legend.now) who lines) c.args.expectations.now c.loop-expectation.expectation-index c.loop-expectation.judgements.items c.loop-expectation-test.false (c.loop-expectation.invariant who lines same are)
