use Rattle.std.proofs.Common.{◌≡◌, drop, string_bytes}
use Rattle.std.specs.List.{list_all}
use Rattle.cp_verdict.specs.endless.Naming.{is_known, processes_of}
use Rattle.cp_verdict.proofs.endless.process.unknown_among.Given as goal

abbrev pub invariant-loop-name : goal.invariant-loop-name
invariant-loop-name l = list_all (λ name. is_known (processes_of l.legend) (string_bytes name)) l.names ≡ list_all (λ name. is_known (processes_of l.legend) (string_bytes name)) (drop l.name-index l.names)
