use Rattle.std.proofs.Common.{List, ℕ, ◌∙◌, ◌++◌, ap, append_assoc, codes, decimal, string_bytes}
use Rattle.std.proofs.lemmas.Result.{on_ok_weaker}
use Rattle.cp_story.specs.ReasonText.{listed}
use Rattle.cp_story.proofs.reason_words.push_signalled.Goals as goal

pub returns : goal.returns
returns c =
    let told = listed decimal c.args.events.now in
    on_ok_weaker c.push_events.result (λ e. e ∙ ap (λ (t : List ℕ). t ++ told) c.in_ok-push_str.ensures.bytes ∙ append_assoc (string_bytes c.args.text.now) (codes "; signalled in vain at ") told) c.push_events.ensures
