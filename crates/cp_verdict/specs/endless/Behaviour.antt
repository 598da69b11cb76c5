-- What schedules of any length do: how they end, which values they show, and who may wait for ever.
use Rattle.std.specs.Prelude.{◌⊎◌, ◌<◌, ℕ, List, [], Bool, true, false}
use Rattle.cp_tree.specs.Syntax.{Tree}
use Rattle.cp_slots.specs.Tables.{Tables}
use Rattle.cp_machine.specs.declared.discipline.Discipline as slot_discipline
use Rattle.cp_machine.specs.declared.shown.Shown.{Shown}
use Rattle.cp_meaning.specs.State.{Discipline}
use Rattle.cp_run.specs.Slots.{slots}
use Rattle.cp_run.specs.System.{System}
use Rattle.cp_endless_laws.specs.Silent.{without_output, silent_slots, silent_named, waits_on_slots, waits_on_names, in_call_on_slots, in_call_on_names}
use Rattle.cp_endless_laws.specs.Standstill.{MayStandStill}
use Rattle.cp_endless_laws.specs.WaitsForEver.{MayWaitForEver, MayLinger}
use Rattle.cp_ends.specs.Ends.{EndsSo, ShowsSo}
use Rattle.cp_ends.specs.Named.{EndsOnNames, ShowsOnNames}
use Rattle.cp_ends.specs.declared.end.End.{End}

-- The process may wait for ever while others go on: in a fair schedule without end, in a stretch without end, or again and again in its call.
abbrev pub MayWait : {S : Type 0} → System S → (inside waiting : S → ℕ → Bool) → (steps q : ℕ) → Type 0
MayWait sys inside waiting steps q =
    (q < sys.processes) × (MayWaitForEver sys waiting q steps ⊎ (((word : List ℕ) × MayStandStill sys waiting q steps word) ⊎ MayLinger sys inside waiting q steps))

-- which words end so, which words show this value, and who may wait for ever
pub record Behaviour : Type 1 where
  pub ends : End → List ℕ → Type 0
  pub shows : Shown → List ℕ → Type 0
  pub waits : ℕ → Type 0

-- of the slot machine
abbrev pub on_slots : Tables → slot_discipline.Discipline → ℕ → Behaviour
on_slots r discipline steps =
    record {
      ends = EndsSo (silent_slots r discipline) steps;
      shows = ShowsSo (slots r discipline) without_output steps;
      waits = MayWait (silent_slots r discipline) in_call_on_slots waits_on_slots steps;
    }

-- of the program on its own names
abbrev pub on_names : Tree → Discipline → ℕ → Behaviour
on_names t g steps =
    record {
      ends = EndsOnNames t g steps;
      shows = ShowsOnNames t g steps;
      waits = MayWait (silent_named t g) in_call_on_names waits_on_names steps;
    }

-- something that can be said of schedules: this word ends so, this word shows this value, this process may wait for ever
pub data Finding : Type 0 where
  Ends : End → List ℕ → Finding
  Shows : Shown → List ℕ → Finding
  Waits : ℕ → Finding

abbrev pub IsSo : Behaviour → Finding → Type 0
IsSo b (Ends end word) = b.ends end word
IsSo b (Shows v word) = b.shows v word
IsSo b (Waits q) = b.waits q

-- its schedule; that of who waits is not one word
abbrev pub word_of : Finding → List ℕ
word_of (Ends end word) = word
word_of (Shows v word) = word
word_of (Waits q) = []

-- both are ends, or values, or who waits
abbrev pub is_same_sort : Finding → Finding → Bool
is_same_sort (Ends end word) (Ends other w) = true
is_same_sort (Shows v word) (Shows other w) = true
is_same_sort (Waits q) (Waits other) = true
is_same_sort f g = false
