use Rattle.std.proofs.Common.{List, String, Global, map, string_bytes, subst, sym}
use Rattle.std.proofs.lemmas.Result.{IfOk-weaker}
use Rattle.cp_outcomes.specs.Lines.{AreLinesShown}
use Rattle.cpx_outcomes.proofs.telling.tell_outcomes.Goals as goal

pub returns : goal.returns
returns g c =
    let l = c.args.loaded.now in
    let lines : AreLinesShown c.args.source.now (map string_bytes c.deref.result.now) = subst (λ (items : List (String Global)). AreLinesShown c.args.source.now (map string_bytes items)) (sym c.deref.ensures.value) c.in_ok-lines.ensures in
    IfOk-weaker c.tell_program.result _ _ (λ a told. record { r = l.program; stands = c.requires.stands; symbols = c.args.symbols; noted = c.requires.noted; l = c.in_ok-legend.legend; legend = c.in_ok-legend.ensures; lines = map string_bytes c.deref.result.now; shown = lines; told = told }) c.tell_program.ensures
