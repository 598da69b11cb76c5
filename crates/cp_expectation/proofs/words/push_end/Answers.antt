use Rattle.std.proofs.Common.{◌≡◌, ◌++◌, IfOk, codes, string_bytes, subst, sym}
use Rattle.cp_expectation.specs.Written.{end_text, perhaps_who_text}
use Rattle.cp_expectation.proofs.Written.{two_pieces}
use Rattle.cp_expectation.proofs.words.push_end.Goals as goal

pub returns-in_ok-push_str-in-AllWaiting : goal.returns-in_ok-push_str-in-AllWaiting
returns-in_ok-push_str-in-AllWaiting c =
    subst (λ e. IfOk c.push_perhaps_who.result (λ _. string_bytes c.push_perhaps_who.new.text ≡ string_bytes c.args.text.now ++ end_text e)) (sym c.in-AllWaiting.is) (two_pieces c.push_perhaps_who.result (codes "all-waiting") (perhaps_who_text c.in-AllWaiting.who) (string_bytes c.args.text.now) (string_bytes c.push_str-in-AllWaiting.new.self) (string_bytes c.push_perhaps_who.new.text) c.in_ok-push_str-in-AllWaiting.ensures.bytes c.push_perhaps_who.ensures)
