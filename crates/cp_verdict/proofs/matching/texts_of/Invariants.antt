use Rattle.std.proofs.Common.{◌≡◌, map, take}
use Rattle.std.specs.Prelude.{string_bytes}
use Rattle.cp_verdict.specs.Outputs.{value_text}
use Rattle.cp_verdict.proofs.matching.texts_of.Given as goal

abbrev pub invariant-loop-value : goal.invariant-loop-value
invariant-loop-value l = map string_bytes l.texts.items ≡ map (value_text l.program.names) (take l.value-index l.values)
