-- Where choices lead.
use Rattle.std.proofs.Common.{◌≡◌, ℕ, List, [], None, refl}
use Rattle.cp_slots.specs.Tables.{Tables}
use Rattle.cp_machine.specs.declared.discipline.Discipline.{Discipline}
use Rattle.cp_machine.specs.System.{Machine}
use Rattle.cp_run.specs.declared.outcome.Halt.{Halt}
use Rattle.cp_run.specs.declared.outcome.OutcomeKind.{OutcomeKind}
use Rattle.cp_stretches.specs.Stretching.{LeadsTo}
use Rattle.cp_ends.specs.Rows.{IsRowFor}
use Rattle.cp_ends.specs.declared.states.States.{States}
use Rattle.cp_ends.specs.declared.told.Told.{Told}
use Rattle.cp_ends.proofs.Rowwise.{goes_so}
use Rattle.cp_ends.specs.ByRows.{Goes, end_of}

-- where a stretch halts by its row, the choice leads
pub halts_so : {W : Type 0} (told : Told W) (r : Tables) (discipline : Discipline) (steps : ℕ) (m : Machine) (p : ℕ) (halt : Halt OutcomeKind) (kept : States) (row : List ℕ) → kept.discipline ≡ discipline →
    LeadsTo r discipline kept.cache.store kept.cache.table steps m p [] halt row told.values.items → Goes r discipline steps m p (end_of halt) (IsRowFor r kept row) told.values.items
halts_so {W} told r discipline steps m p halt kept row ruled leads =
    (goes_so r discipline {W = W} (λ seen r discipline due moments. Unit {0}) steps m p halt kept row (record told { again = None }) ruled leads refl tt).goes
