use Rattle.std.proofs.Common.{◌∙◌, sym}
use Rattle.cp_ends.proofs.GoingOn.{ok_to}
use Rattle.cp_verdict.specs.endless.Naming.{processes_of}
use Rattle.cp_verdict.proofs.who.Judging.{judged_by_rows}
use Rattle.cp_verdict.proofs.waiting.marking.judge_any.Goals as goal

pub returns-then-names_who : goal.returns-then-names_who
returns-then-names_who c =
    let asks = sym c.names_who.ensures ∙ c.if-names_who.true in
    ok_to c.judge.result _ _ c.judge.ensures.who (λ j h who lines same are. (h who lines same (are asks), λ none. absurd (cc (asks, none))))

pub returns-else-names_who : goal.returns-else-names_who
returns-else-names_who c =
    let none = sym c.names_who.ensures ∙ c.if-names_who.false in
    ok_to c.judge_plainly.result _ _ (c.judge_plainly.ensures none) (λ j h who lines same are. judged_by_rows c.args.program.now.names (processes_of c.args.legend.now) who c.args.expectation.now lines none j (h lines same))
