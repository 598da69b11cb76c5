use Rattle.std.proofs.Common.{◌∙◌, ◌++◌, ℕ, Option, map, string_bytes, sym, ap, subst}
use Rattle.cp_ends.specs.Holds.{AreFound, end_origin, value_origin}
use Rattle.cp_ends.specs.Told.{ends_text, head_text}
use Rattle.cp_ends.proofs.Keeping.{states_length}
use Rattle.cp_ends.proofs.Listing.{report_so}
use Rattle.cp_ends.proofs.report.ends_report.Goals as goal

pub returns : goal.returns
returns c = λ r f depth h is.
    (let names = c.args.program.now.names in
    let own = c.in_ok-depth.depth in
    let same = c.in_ok-depth.ensures r f depth h is in
    let ends = subst (λ es. AreFound f.states (map end_origin es) f.ends) (sym c.deref.ensures.value) h.ends in
    let values = subst (λ vs. AreFound f.states (map value_origin vs) f.values) (sym c.deref-2.ensures.value) h.values in
    let head = c.in_ok-push_head.ensures ∙ ap (λ t. t ++ head_text c.len.result own) c.new-text.ensures.bytes in
    let all = report_so names f own c.len.result (string_bytes c.push_head.new.text) (string_bytes c.push_ends.new.text) (string_bytes c.push_values.new.text) (c.len.ensures.count ∙ states_length r c.args.found.now.states f.states h.states) head (c.in_ok-push_ends.ensures r f.states f.ends h.states ends) (c.in_ok-push_values.ensures r f.states f.values h.states values) in
    c.new.ensures ∙ all ∙ ap (λ (d : Option ℕ). ends_text names f d) same)
