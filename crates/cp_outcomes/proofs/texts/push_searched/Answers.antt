use Rattle.std.proofs.Common.{◌≡◌, ◌++◌, IfOk, codes, string_bytes, subst, sym}
use Rattle.cp_natural.specs.Decimal.{number_text}
use Rattle.cp_outcomes.specs.Text.{searched_text}
use Rattle.cp_outcomes.proofs.Appending.{last_piece, three_pieces}
use Rattle.cp_outcomes.proofs.texts.push_searched.Goals as goal

pub returns : goal.returns
returns c =
    subst (λ s. IfOk c.push_str-2.result (λ _. string_bytes c.push_str-2.new.self ≡ string_bytes c.args.text.now ++ searched_text c.args.states s)) (sym c.if-is_searched.false) (three_pieces c.push_str-2.result (codes "\nsimplest schedules: not searched, with more than ") (number_text c.args.states) (codes " states\n") (string_bytes c.args.text.now) (string_bytes c.push_str.new.self) (string_bytes c.push_count.new.text) (string_bytes c.push_str-2.new.self) c.in_ok-push_str.ensures.bytes c.in_ok-push_count.ensures (last_piece c.push_str-2.result (string_bytes c.push_count.new.text) (codes " states\n") (string_bytes c.push_str-2.new.self) c.push_str-2.ensures.bytes))
