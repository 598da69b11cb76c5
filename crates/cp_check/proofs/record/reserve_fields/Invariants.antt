use Rattle.cp_check.proofs.Words.{◌≡◌, drop, scope_of}
use Rattle.cp_check.specs.Records as spec
use Rattle.cp_check.proofs.record.reserve_fields.Given as goal

-- what is left leads where all lead
abbrev pub invariant-loop-name : goal.invariant-loop-name
invariant-loop-name l = spec.reserve_fields (scope_of l.fn.fields) l.names ≡ spec.reserve_fields (scope_of l.fields) (drop l.name-index l.names)
