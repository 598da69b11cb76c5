use Rattle.std.proofs.Common.{◌≡◌, take, map}
use Rattle.std.specs.Char.{to_ascii_lowercase}
use Rattle.std.specs.String.{string_bytes}
use Rattle.cp_text.proofs.lexeme.lower_case.Given as goal

abbrev pub invariant-loop-b : goal.invariant-loop-b
invariant-loop-b l = string_bytes l.lower ≡ map to_ascii_lowercase (take l.b-index l.text)
