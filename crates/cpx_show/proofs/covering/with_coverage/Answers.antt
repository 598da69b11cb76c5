use Rattle.std.proofs.Common.{Bool, true, string_bytes, subst, sym}
use Rattle.std.proofs.lemmas.Result.{IfOk-weaker}
use Rattle.cpx_show.specs.Summaries.{IsCovered}
use Rattle.cpx_show.proofs.covering.with_coverage.Goals as goal

pub returns-then-as_json : goal.returns-then-as_json
returns-then-as_json g c =
    IfOk-weaker c.with_member.result _ _
    (λ text h. subst (λ (json : Bool). IsCovered json true c.args.told.now (string_bytes text)) (sym c.if-as_json.true) (c.as_str.result.now, h))
    c.with_member.ensures
