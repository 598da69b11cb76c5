use Rattle.std.proofs.Common.{◌≡◌, ◌∙◌, ◌++◌, ◌==◌, ap, map, string_bytes, List, ℕ}
use Rattle.std.proofs.lemmas.Result.{IfOk-weaker}
use Rattle.cp_merged.specs.Code.{tally_of}
use Rattle.cp_outcomes.specs.Stops.{rows_at, stops}
use Rattle.cp_outcomes.specs.Text.{closing_text, stop_text}
use Rattle.cp_outcomes.specs.declared.stopped.Limit.{Limit}
use Rattle.cp_outcomes.specs.declared.stopped.Limit.TheVariants.{Choices, Steps, Output}
use Rattle.cp_outcomes.proofs.Appending.{last_piece}
use Rattle.cp_outcomes.proofs.Closing.{closed}
use Rattle.cp_outcomes.proofs.texts.push_closing.Goals as goal

pub returns : goal.returns
returns c =
    let ts = map tally_of c.args.tallies.now in
    let stop = λ (l : Limit). stop_text c.args.limits.choices c.args.limits.steps (rows_at l ts) l in
    let old = string_bytes c.args.text.now in
    let third = string_bytes c.push_stop-3.new.text in
    let new = string_bytes c.push_str.new.self in
    IfOk-weaker c.push_str.result (λ _. new ≡ third ++ c.last_words.result.now) (λ _. new ≡ old ++ closing_text stop (stops ts)) (λ _ h. closed (rows_at Choices ts == 0) (rows_at Steps ts == 0) (rows_at Output ts == 0) c.in_ok-begun.begun c.in_ok-begun-2.begun c.in_ok-begun-3.begun stop old (string_bytes c.push_stop.new.text) (string_bytes c.push_stop-2.new.text) third new c.in_ok-begun.ensures.begun c.in_ok-begun-2.ensures.begun c.in_ok-begun-3.ensures.begun c.in_ok-begun.ensures.text c.in_ok-begun-2.ensures.text c.in_ok-begun-3.ensures.text (h ∙ ap (λ (l : List ℕ). third ++ l) c.last_words.ensures)) (last_piece c.push_str.result third c.last_words.result.now new c.push_str.ensures.bytes)
