use Rattle.std.proofs.Common.{◌≡◌, ◌≤◌, drop}
use Rattle.cp_text.specs.Values.{number_from}
use Rattle.cp_text.proofs.lexeme.number.Given as goal

abbrev pub invariant-loop-b : goal.invariant-loop-b
invariant-loop-b l = record {
  small : l.value ≤ 32767;
  reads : number_from l.value (drop l.b-index l.digits) ≡ number_from 0 l.digits;
}
