use Rattle.std.proofs.Common.{◌+◌, ◌-◌, ◌*◌, get_or, drop, arith}
use Rattle.std.proofs.lemmas.Grind.{common_steps}
use Rattle.cp_text.specs.Lexemes.{number}
use Rattle.cp_text.proofs.Numbers.{number_over}
use Rattle.cp_text.proofs.lexeme.number.Goals as goal

pub returns-then-value-gt-MOST_NUMBER : goal.returns-then-value-gt-MOST_NUMBER
unfolding number
returns-then-value-gt-MOST_NUMBER c =
    let digits = c.args.digits.now in
    let over = number_over (c.loop-b.value * 10 + (get_or digits c.loop-b.b-index 0 - 48)) (drop (c.loop-b.b-index + 1) digits) in
    grind (arith, common_steps)
