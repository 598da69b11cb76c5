use Rattle.std.proofs.Common.{◌∙◌, ◌++◌, ap, sym, map, string_bytes}
use Rattle.cp_merged.specs.Code.{tally_of}
use Rattle.cp_outcomes.specs.Stops.{rows_at}
use Rattle.cp_outcomes.specs.Text.{stop_text}
use Rattle.cp_outcomes.proofs.Closing.{stop_written}
use Rattle.cp_outcomes.proofs.texts.push_stop.Goals as goal

pub returns-clause-text : goal.returns-clause-text
returns-clause-text c =
    let count = c.schedules_stopped_at-count.result in
    stop_written c.args.begun (rows_at c.args.limit (map tally_of c.args.tallies.now)) count (λ n. stop_text c.args.limits.choices c.args.limits.steps n c.args.limit) (string_bytes c.args.text.now) (string_bytes c.push_str.new.self) (string_bytes c.push_stopped.new.text) c.schedules_stopped_at-count.ensures.rows (sym c.is_zero.ensures ∙ c.if-is_zero.false) (c.in_ok-push_str.ensures.bytes ∙ ap (λ l. string_bytes c.args.text.now ++ l) c.first_words.ensures) c.in_ok-push_stopped.ensures
