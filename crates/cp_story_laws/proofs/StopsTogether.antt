-- Where a run stops, the state and the machine are related.
use Rattle.std.proofs.Common.{◌≡◌, ℕ, List}
use Rattle.cp_tree.specs.Read.{IsRead}
use Rattle.cp_tree.specs.Syntax.{Tree}
use Rattle.cp_layout.specs.Laid.{plain, laid}
use Rattle.cp_slots.specs.Tables.{Tables}
use Rattle.cp_meaning_laws.specs.Accepted.{IsAccepted}
use Rattle.cp_machine.specs.declared.discipline.Discipline.{Discipline}
use Rattle.cp_run.specs.Fold.{Fold}
use Rattle.cp_run.specs.Slots.{slots}
use Rattle.cp_run.specs.Stop.{last_state}
use Rattle.cp_machine_laws.specs.Named.{named, named_discipline}
use Rattle.cp_story_laws.proofs.FoldsInStep.{ends_related}
use Rattle.cp_story_laws.proofs.Together.{Related, go}

-- nothing is gathered
abbrev idle : {S : Type 0} → Fold S ℕ
idle = record { on_step = λ s p event u x. x; on_admission = λ p u x. x; on_choice = λ s p x. x }

pub stop_related : (t : Tree) (r : Tables) (g : Discipline) (read : IsRead t.program) (ok : IsAccepted t) (same : plain r ≡ laid t) (choices steps : ℕ) (word : List ℕ) →
    Related t r g read ok same (last_state (named t (named_discipline g)) choices steps word) (last_state (slots r g) choices steps word)
stop_related t r g read ok same choices steps word =
    (ends_related (named t (named_discipline g)) (slots r g) (Related t r g read ok same) idle idle (λ s m x y. Unit {0}) (go t r g read ok same) (record { step = λ s m p x y sim can k. tt; admission = λ s m p x y sim can k. tt; choice = λ s m p x y sim k. tt }) 0 0 tt choices steps word).states
