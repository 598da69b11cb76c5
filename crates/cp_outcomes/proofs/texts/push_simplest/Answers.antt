use Rattle.std.proofs.Common.{◌∙◌, ◌++◌, ap, codes, string_bytes}
use Rattle.cp_walk.specs.Text.{word_text}
use Rattle.cp_outcomes.specs.Text.{counted_text}
use Rattle.cp_outcomes.proofs.Appending.{four_pieces}
use Rattle.cp_outcomes.proofs.texts.push_simplest.Goals as goal

pub returns : goal.returns
returns c =
    four_pieces c.push_counted.result (codes ", simplest ") (word_text c.args.simple.now.word.items) (codes ", ") (counted_text c.args.simple.now.switches (codes " switch") (codes " switches")) (string_bytes c.args.text.now) (string_bytes c.push_str.new.self) (string_bytes c.push_word.new.text) (string_bytes c.push_str-2.new.self) (string_bytes c.push_counted.new.text) c.in_ok-push_str.ensures.bytes (c.in_ok-push_word.ensures ∙ ap (λ w. string_bytes c.push_str.new.self ++ word_text w) c.as_slice.ensures.value) c.in_ok-push_str-2.ensures.bytes c.push_counted.ensures
