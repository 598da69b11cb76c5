use Rattle.std.proofs.Common.{◌∙◌, map, string_bytes, subst, sym, List}
use Rattle.cp_at_once.specs.Told.{HaveWords, end_origin, value_origin}
use Rattle.cp_at_once.specs.declared.found.EndAtOnce.{EndAtOnce}
use Rattle.cp_at_once.specs.declared.found.ValueAtOnce.{ValueAtOnce}
use Rattle.cp_at_once.proofs.Telling.{report_so}
use Rattle.cp_at_once.proofs.report.at_once_report.Goals as goal

pub returns : goal.returns
returns c = λ r f h.
    (let ends = subst (λ (es : List EndAtOnce). HaveWords f.states (map end_origin es) f.ends) (sym c.deref.ensures.value) h.ends in
    let values = subst (λ (vs : List ValueAtOnce). HaveWords f.states (map value_origin vs) f.values) (sym c.deref-2.ensures.value) h.values in
    c.new.ensures ∙ report_so r c.args.found.now f h c.args.program.now.names c.len.result c.has_cut.result (string_bytes c.new-text.result) (string_bytes c.push_head.new.text) (string_bytes c.push_ends.new.text) (string_bytes c.push_values.new.text) (string_bytes c.push_cut.new.text) c.len.ensures.count c.has_cut.ensures c.new-text.ensures.bytes c.in_ok-push_head.ensures
    (c.in_ok-push_ends.ensures r f.states f.ends h.states ends) (c.in_ok-push_values.ensures r f.states f.values h.states values) c.in_ok-push_cut.ensures)
