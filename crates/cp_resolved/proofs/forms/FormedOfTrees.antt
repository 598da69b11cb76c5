-- All statements of a tree that was read and breaks no rule have the forms that their items want.
use Rattle.cp_resolved.specs.FormedBodies.{FormedLaw}
use Rattle.cp_resolved.proofs.statements.CallsKnown.{formed_at}

pub formed_law : FormedLaw
formed_law t read accepted n less = formed_at t read accepted n
