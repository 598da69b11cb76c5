-- Who starts a process is the process around it, in each program that breaks no rule.
use Rattle.cp_at_once_laws.proofs.Words.{IsRead, Tree, IsAccepted, well_formed}
use Rattle.cp_at_once_laws.proofs.rules.StartsKnown.{StartsKnown}
use Rattle.cp_at_once_laws.proofs.rules.Around.{around_known}
use Rattle.cp_at_once_laws.proofs.rules.Parameters.{no_process_known}

pub starts_known : (t : Tree) → IsRead t.program → IsAccepted t → StartsKnown t.program
starts_known t read accepted = record { unknown = no_process_known t read accepted; around = around_known t read accepted (well_formed t accepted) }
