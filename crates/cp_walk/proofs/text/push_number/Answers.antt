use Rattle.std.proofs.Common.{◌≡◌, ◌+◌, arith, string_bytes}
use Rattle.cp_walk.proofs.Digits.{push_digit}
use Rattle.cp_walk.proofs.text.push_number.Goals as goal

pub returns-then-number-lt10 : goal.returns-then-number-lt10
returns-then-number-lt10 c =
    let digit : c.from.result ≡ 48 + c.args.number = omega (arith, c.from.ensures, c.if-number-lt10.true) in
    push_digit c.push.result (string_bytes c.args.text.now) (string_bytes c.push.new.self) _ c.from.result c.args.number c.if-number-lt10.true digit (c.push.ensures.ascii (omega (arith, digit, c.if-number-lt10.true))) c.push.ensures.bytes
