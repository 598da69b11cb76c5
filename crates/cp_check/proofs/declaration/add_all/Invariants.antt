use Rattle.cp_check.proofs.Words.{◌≡◌, drop, Some, scopes_of}
use Rattle.cp_check.specs.Declarations as spec
use Rattle.cp_check.proofs.declaration.add_all.Given as goal

-- what is left leads where all lead
abbrev pub invariant-loop-name : goal.invariant-loop-name
invariant-loop-name l = spec.add_names (scopes_of l.fn.table) l.names (Some l.meaning) ≡ spec.add_names (scopes_of l.table) (drop l.name-index l.names) (Some l.meaning)
