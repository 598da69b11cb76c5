use Rattle.cp_check.proofs.Words.{◌≡◌, drop, scopes_of}
use Rattle.cp_check.specs.Types as spec
use Rattle.cp_check.proofs.types.members.Given as goal

-- what is left leads where all lead
abbrev pub invariant-loop-number : goal.invariant-loop-number
invariant-loop-number l = spec.members (scopes_of l.fn.table) l.base 0 l.nodes ≡ spec.members (scopes_of l.table) l.base l.number (drop l.number l.nodes)
