use Rattle.std.proofs.Common.{List, ℕ, ◌∙◌, ◌++◌, ap, append_assoc, codes, string_bytes}
use Rattle.std.proofs.lemmas.Result.{on_ok_weaker}
use Rattle.cp_legend.specs.Names.{legend_seen}
use Rattle.cp_story.specs.ReasonText.{place_text}
use Rattle.cp_story.specs.Sentences.{process_text}
use Rattle.cp_story.proofs.reason_words.push_could.Goals as goal

pub returns : goal.returns
returns c =
    let l = legend_seen c.args.legend.now in
    let old = string_bytes c.args.text.now in
    let who = process_text l c.args.caller.process in
    let words = codes " could do so, and waits" in
    let place = place_text l c.args.caller.status c.args.caller.holder in
    on_ok_weaker c.push_place.result (λ e. e ∙ ap (λ (t : List ℕ). t ++ place) (c.in_ok-push_str.ensures.bytes ∙ ap (λ (t : List ℕ). t ++ words) c.in_ok-push_process.ensures) ∙ ap (λ (t : List ℕ). t ++ place) (append_assoc old who words) ∙ append_assoc old (who ++ words) place) c.push_place.ensures
