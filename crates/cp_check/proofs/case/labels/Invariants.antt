use Rattle.cp_check.proofs.Words.{◌≡◌, drop, scopes_of}
use Rattle.cp_check.specs.Cases as spec
use Rattle.cp_check.proofs.Fronts.{with_front}
use Rattle.cp_check.proofs.case.labels.Given as goal

-- what is left leads where all lead
abbrev pub invariant-loop-node : goal.invariant-loop-node
invariant-loop-node l = spec.labels (scopes_of l.table) l.nodes ≡ with_front l.labels.items (spec.labels (scopes_of l.table) (drop l.node-index l.nodes))
