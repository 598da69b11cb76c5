-- A program that breaks no rule has what the laws need.
use Rattle.cp_meaning_laws.proofs.Words.{◌≡◌, [], Tree, faults_of}
use Rattle.cp_meaning.specs.WellFormed.{IsWellFormed}
use Rattle.cp_meaning.proofs.OwnershipLemmas.{exclusive}
use Rattle.cp_meaning_laws.specs.Accepted.{ExclusiveLaw}
use Rattle.cp_meaning_laws.proofs.Earlier.{parameters_earlier}
use Rattle.cp_meaning_laws.proofs.Paths.{distinct_paths, contained_earlier}
use Rattle.cp_meaning_laws.proofs.Once.{accepted_distinct}
use Rattle.cp_meaning_laws.proofs.Classes.{class_parameters}

pub well_formed : (t : Tree) → faults_of t ≡ [] → IsWellFormed t.program
well_formed t h =
    record {
      paths = distinct_paths t.program (accepted_distinct t h);
      class_parameters = class_parameters t h;
      contained_earlier = contained_earlier t.program (accepted_distinct t h);
      parameters_earlier = parameters_earlier t.program;
    }

pub keeps_exclusion : ExclusiveLaw
keeps_exclusion t ok g s before = exclusive t.program (well_formed t ok) g s before
