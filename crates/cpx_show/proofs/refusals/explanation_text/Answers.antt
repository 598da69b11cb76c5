use Rattle.std.proofs.Common.{ℕ, List, Option, option_map, string_bytes, subst}
use Rattle.std.proofs.lemmas.Result.{IfOk-weaker}
use Rattle.cp_refusal.specs.Text.{IsTextOf}
use Rattle.cpx_show.proofs.Refusing.{explained}
use Rattle.cpx_show.proofs.refusals.explanation_text.Goals as goal

pub returns : goal.returns
returns c = λ plain.
    let source = c.args.source.now in
    let said = c.in_ok-said.said in
    IfOk-weaker c.text.result _ _ (λ t is. explained c.args.loaded source (option_map string_bytes c.args.file.now) said (string_bytes t) c.in_ok-said.ensures (subst (λ (f : Option (List ℕ)). IsTextOf source f said (string_bytes t)) c.name_of.ensures is)) c.text.ensures
