-- Declarations of a tree that was read and is accepted are as the laws on layouts want them.
use Rattle.cp_resolved.proofs.Words.{IsRead, Tree, IsAccepted, IsFramed}
use Rattle.cp_resolved.proofs.declarations.CalledResults.{accepted_result, accepted_calls}
use Rattle.cp_resolved.proofs.declarations.RoutineVariables.{accepted_locals, accepted_free}
use Rattle.cp_resolved.proofs.declarations.SystemVariables.{accepted_permanents, accepted_standing}

pub accepted_framed : (t : Tree) → IsRead t.program → IsAccepted t → IsFramed t
accepted_framed t read ok =
    record {
      locals = accepted_locals t ok;
      free = accepted_free t read ok;
      result = accepted_result t read ok;
      calls = accepted_calls t read ok;
      permanents = accepted_permanents t ok;
      standing = accepted_standing t read ok;
    }
