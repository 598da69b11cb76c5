use Rattle.std.proofs.Common.{codes, string_bytes}
use Rattle.cp_natural.specs.Decimal.{number_text}
use Rattle.cp_outcomes.proofs.Appending.{last_piece, four_pieces}
use Rattle.cp_outcomes.proofs.texts.push_known.Goals as goal

pub returns : goal.returns
returns c =
    four_pieces c.push_str-3.result (codes "\nof all schedules of at most ") (number_text c.args.choices) (codes " choices:\n\n") c.args.told.now (string_bytes c.args.text.now) (string_bytes c.push_str.new.self) (string_bytes c.push_count.new.text) (string_bytes c.push_str-2.new.self) (string_bytes c.push_str-3.new.self) c.in_ok-push_str.ensures.bytes c.in_ok-push_count.ensures c.in_ok-push_str-2.ensures.bytes (last_piece c.push_str-3.result (string_bytes c.push_str-2.new.self) c.args.told.now (string_bytes c.push_str-3.new.self) c.push_str-3.ensures.bytes)
