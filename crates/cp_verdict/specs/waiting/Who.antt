-- Who waits where the run of a word stops.
use Rattle.std.specs.Prelude.{ℕ, List, Bool, length}
use Rattle.cp_tree.specs.Syntax.{Tree}
use Rattle.cp_slots.specs.Tables.{Tables}
use Rattle.cp_machine.specs.declared.discipline.Discipline.{Discipline}
use Rattle.cp_meaning.specs.State as meaning
use Rattle.cp_run.specs.Stop.{last_state}
use Rattle.cp_run.specs.System.{System}
use Rattle.cp_endless_laws.specs.Silent.{silent_named, silent_slots, waits_on_names, waits_on_slots}
use Rattle.cp_waiting_ends.specs.Waiting.{who_waits}

-- in a run of at most so many choices
abbrev pub who_at : {S : Type 0} → System S → (waiting : S → ℕ → Bool) → (choices steps : ℕ) → List ℕ → List ℕ
who_at sys waiting choices steps word = who_waits sys waiting (last_state sys choices steps word)

-- where as many choices may be made as the word has numbers
abbrev pub who_after : {S : Type 0} → System S → (waiting : S → ℕ → Bool) → (steps : ℕ) → List ℕ → List ℕ
who_after sys waiting steps word = who_at sys waiting (length word) steps word

-- in the slot machine
abbrev pub who_on_slots : Tables → Discipline → (steps : ℕ) → List ℕ → List ℕ
who_on_slots r discipline steps word = who_after (silent_slots r discipline) waits_on_slots steps word

-- on the program's own names
abbrev pub who_on_names : Tree → meaning.Discipline → (steps : ℕ) → List ℕ → List ℕ
who_on_names t g steps word = who_after (silent_named t g) waits_on_names steps word
