use Rattle.std.proofs.Common.{◌≡◌, ◌++◌, IfOk, codes, string_bytes, subst, sym}
use Rattle.cp_natural.specs.Decimal.{number_text}
use Rattle.cp_outcomes.specs.Text.{excess_text}
use Rattle.cp_outcomes.proofs.Appending.{last_piece, three_pieces}
use Rattle.cp_outcomes.proofs.texts.push_excess.Goals as goal

pub returns-in_ok-push_count-in-States : goal.returns-in_ok-push_count-in-States
returns-in_ok-push_count-in-States c =
    subst (λ e. IfOk c.push_str-in-States.result (λ _. string_bytes c.push_str-in-States.new.self ≡ string_bytes c.args.text.now ++ excess_text e)) (sym c.in-States.is) (three_pieces c.push_str-in-States.result (codes "too many states: a layer may have ") (number_text c.in-States.most) (codes "\ntry greater --states, or ./show ends\n") (string_bytes c.args.text.now) (string_bytes c.push_str.new.self) (string_bytes c.push_count.new.text) (string_bytes c.push_str-in-States.new.self) c.in_ok-push_str-in-States.ensures.bytes c.in_ok-push_count-in-States.ensures (last_piece c.push_str-in-States.result (string_bytes c.push_count.new.text) (codes "\ntry greater --states, or ./show ends\n") (string_bytes c.push_str-in-States.new.self) c.push_str-in-States.ensures.bytes))

pub returns-in-Outcomes : goal.returns-in-Outcomes
returns-in-Outcomes c =
    subst (λ e. IfOk c.push_str-in-Outcomes.result (λ _. string_bytes c.push_str-in-Outcomes.new.self ≡ string_bytes c.args.text.now ++ excess_text e)) (sym c.in-Outcomes.is) (last_piece c.push_str-in-Outcomes.result (string_bytes c.args.text.now) (codes "too many outcomes: there may be 50000\ntry smaller --choices\n") (string_bytes c.push_str-in-Outcomes.new.self) c.push_str-in-Outcomes.ensures.bytes)
