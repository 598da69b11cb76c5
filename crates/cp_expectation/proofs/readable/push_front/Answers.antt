use Rattle.std.proofs.Common.{◌∙◌, ◌++◌, ap, lit<}
use Rattle.std.specs.String.{string_bytes}
use Rattle.cp_expectation.proofs.Fronts.{shows_character, shows_other}
use Rattle.cp_expectation.proofs.readable.push_front.Goals as goal

pub returns-in_ok-push-in-Some : goal.returns-in_ok-push-in-Some
returns-in_ok-push-in-Some c =
    shows_character c.args.bytes.now (string_bytes c.args.text.now) (string_bytes c.push.new.self) c.in-Some.character c.in-Some.len c.in-Some.ensures (c.in_ok-push-in-Some.ensures.bytes ∙ ap (λ l. string_bytes c.args.text.now ++ l) c.shown.ensures)

pub returns-in_ok-push-in-None : goal.returns-in_ok-push-in-None
returns-in_ok-push-in-None c = shows_other c.args.bytes.now (string_bytes c.args.text.now) (string_bytes c.push-in-None.new.self) c.requires c.in-None.ensures (c.in_ok-push-in-None.ensures.bytes ∙ ap (λ l. string_bytes c.args.text.now ++ l) (c.in_ok-push-in-None.ensures.ascii (lit< tt)))
