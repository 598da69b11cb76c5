use Rattle.std.proofs.Common.{map, string_bytes, subst, sym, take, List}
use Rattle.cp_ends.specs.declared.found.TheConstants.{MOST_VALUES}
use Rattle.cp_at_once.specs.Told.{HaveWords, value_origin}
use Rattle.cp_at_once.specs.declared.found.ValueAtOnce.{ValueAtOnce}
use Rattle.cp_at_once.proofs.Telling.{values_so, words_take}
use Rattle.cp_at_once.proofs.report.push_values.Goals as goal

pub returns : goal.returns
returns c = λ r states fs s a.
    (let first = subst (λ (vs : List ValueAtOnce). HaveWords states (map value_origin vs) (take MOST_VALUES fs)) (sym c.first_values-first.ensures) (words_take states value_origin MOST_VALUES c.args.values.now fs a) in
    values_so c.args.program.now.names states c.args.values.now c.first_values-first.result.now fs (string_bytes c.args.text.now) (string_bytes c.push_count_line.new.text) (string_bytes c.push_value_lines.new.text) (string_bytes c.push_more.new.text) a c.first_values-first.ensures c.in_ok-push_count_line.ensures
    (c.in_ok-push_value_lines.ensures r states (take MOST_VALUES fs) s first) c.in_ok-push_more.ensures)
