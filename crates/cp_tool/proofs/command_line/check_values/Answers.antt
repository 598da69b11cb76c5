use Rattle.std.proofs.Common.{◌≡◌, ◌∙◌, sym, ap, subst, map, List, true}
use Rattle.clap.specs.Words.{Row, app_of, is_simple, is_simple_and_free}
use Rattle.cp_tool.specs.Finds.{Refuses}
use Rattle.cp_tool.specs.Options.{HasGiven, HasRefusedValue}
use Rattle.cp_tool.proofs.Matched.{rows_from, faults_from}
use Rattle.cp_tool.proofs.Obtaining.{err_by, options_by, refused_for}
use Rattle.cp_tool.proofs.command_line.check_values.Goals as goal

pub returns-in_err-options_of-in-Ok : goal.returns-in_err-options_of-in-Ok
returns-in_err-options_of-in-Ok c =
    let words = map (λ s. s.now) c.args.words.now in
    let made = c.in_ok-command.ensures in
    let app = app_of c.in_ok-command.command in
    let simple : is_simple app ≡ true = ap is_simple made in
    let free : is_simple_and_free app ≡ true = ap is_simple_and_free made in
    let same = (c.in-Ok.ensures.matches simple).0 ∙ rows_from app words made in
    let own = c.own_words.ensures in
    err_by (λ e. Refuses e (HasRefusedValue words)) c.from_residual-in_err-options_of-in-Ok.result c.in_err-options_of-in-Ok.field-0.0 c.from_residual-in_err-options_of-in-Ok.ensures.1
    (refused_for {Q = HasRefusedValue words} c.in_err-options_of-in-Ok.field-0.0
    (λ none. record {
      matched = sym (faults_from app words made) ∙ c.in-Ok.ensures.kinds free;
      none = λ o has. none o (options_by (sym own.flags) (sym own.longest) (sym own.schedule) o (subst (λ (rows : List Row). HasGiven rows o) (sym same) has));
    })
    c.in_err-options_of-in-Ok.ensures)
