use Rattle.std.proofs.Common.{◌≡◌, ◌∙◌, ◌++◌, string_bytes, ap}
use Rattle.cp_ends.specs.Told.{ends_text}
use Rattle.cp_waits.specs.Told.{waits_text}
use Rattle.cp_waits.proofs.report.waits_report.Goals as goal

pub returns : goal.returns
returns c = λ r f depth h is.
    (let ends = c.as_str.ensures ∙ c.in_ok-ends.ensures r f depth h is in
    let before : string_bytes c.push_str.new.self ≡ ends_text c.args.program.now.names f depth = c.in_ok-push_str.ensures.bytes ∙ ap (λ l. l ++ c.as_str.result.now) c.new-text.ensures.bytes ∙ ends in
    c.new.ensures ∙ c.in_ok-push_waits.ensures ∙ ap (λ l. l ++ waits_text c.args.waits.now) before)
