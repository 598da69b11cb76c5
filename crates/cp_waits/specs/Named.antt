-- What the lines say of a program, on its own names.
use Rattle.std.specs.Prelude.{◌≡◌, ◌⊎◌, ◌≤◌, ◌<◌, ◌^◌, ℕ, zero, suc, List, [], ◌∷◌, Bool, true, Option, None, Some, Contains, drop, get_or, length}
use Rattle.std.specs.List.{AllPairs}
use Rattle.cp_tree.specs.Syntax.{Tree}
use Rattle.cp_slots.specs.Tables.{Tables}
use Rattle.cp_machine.specs.declared.discipline.Discipline as slot_discipline
use Rattle.cp_meaning.specs.State.{Discipline}
use Rattle.cp_run.specs.Slots.{slots}
use Rattle.cp_run.specs.System.{System}
use Rattle.cp_machine_laws.specs.Named.{named_discipline}
use Rattle.cp_endless_laws.specs.Fair.{IsEndless, IsFair}
use Rattle.cp_endless_laws.specs.Silent.{in_call_on_names, in_call_on_slots, silent_named, silent_slots, waits_on_names, waits_on_slots, without_output}
use Rattle.cp_endless_laws.specs.Standstill.{MayStandStill}
use Rattle.cp_endless_laws.specs.WaitsForEver.{MayWaitForEver, MayLinger, WaitsFrom, WaitsSometime}
use Rattle.cp_ends.specs.Holds.{Holds, SlotFindings}
use Rattle.cp_ends.specs.Named.{HasNoCut}
use Rattle.cp_ends.specs.Whole.{IsAnswer, IsWhole, OfItsPrograms}
use Rattle.cp_ends.specs.declared.end.End.{End}
use Rattle.cp_ends.specs.declared.found.Found.{Found}
use Rattle.cp_waits.specs.Graphs.{IsSlotGraphOf}
use Rattle.cp_waits.specs.Lines.{SayWhoWaits}
use Rattle.cp_waits.specs.MayWait.{HasLine, LeavesNobody, TellWaits, WaitsForGood}
use Rattle.cp_waits.specs.declared.graph.Graph.{Graph}
use Rattle.cp_waits.specs.declared.waiting.How.{How}
use Rattle.cp_waits.specs.declared.waiting.How.TheVariants.{Throughout, ForGood, InItsCall}
use Rattle.cp_waits.specs.declared.waiting.Waiting.{Waiting}
use Rattle.cp_waits.specs.declared.waiting.Waits.{Waits}
use Rattle.cp_waits.specs.declared.waiting.Waits.TheVariants.{Known, NotSettled}

-- ---- the schedule of two words

-- number n of the first word, which is followed by the other one again and again
abbrev pub followed_by : List ℕ → List ℕ → ℕ → ℕ
followed_by again [] zero = get_or again 0 0
followed_by again [] (suc n) = followed_by again (drop 1 again) n
followed_by again (p ∷ word) zero = p
followed_by again (p ∷ word) (suc n) = followed_by again word n

-- This schedule is fair and without end, and from the end of the first word on the process waits.
pub record WaitsBy {S : Type 0} (sys : System S) (waiting : S → ℕ → Bool) (q steps : ℕ) (first again : List ℕ) : Type 0 where
  pub state : ℕ → S
  pub endless : IsEndless sys steps (followed_by again first) state
  pub fair : IsFair sys steps (followed_by again first) state
  pub waits : WaitsFrom sys waiting q steps (followed_by again first) state (length first)

-- from then on it is inside, and waits again and again
pub record LingersBy {S : Type 0} (sys : System S) (inside waiting : S → ℕ → Bool) (q steps : ℕ) (first again : List ℕ) : Type 0 where
  pub stays : WaitsBy sys inside q steps first again
  pub waits : (n : ℕ) → (m : ℕ) × (n ≤ m) × WaitsSometime sys waiting q steps (stays.state m) (followed_by again first m)

-- ---- the lines

abbrev pub ShowOnNames : Tree → Discipline → ℕ → Waiting → How → Type 0
ShowOnNames t g steps line Throughout = WaitsBy (silent_named t g) waits_on_names line.process steps line.first.items line.again.items
ShowOnNames t g steps line ForGood =
    (WaitsBy (silent_named t g) waits_on_names line.process steps line.first.items line.again.items ⊎
    ((line.again.items ≡ []) × MayStandStill (silent_named t g) waits_on_names line.process steps line.first.items)) ×
    WaitsForGood (silent_named t g) waits_on_names line.process steps
ShowOnNames t g steps line InItsCall =
    LingersBy (silent_named t g) in_call_on_names waits_on_names line.process steps line.first.items line.again.items ×
    (MayWaitForEver (silent_named t g) waits_on_names line.process steps → ⊥)

-- Each line shows how its process waits. Who may wait for ever in a fair schedule without end, or again and again in its call without ever coming
-- out, has a line; and so has who may stand still in a stretch without a choice, where no end is at the limit of steps but such as are seen to go
-- on for ever. The lines stand by number, and each process has one at most.
pub record AreWaitsOnNames (t : Tree) (g : Discipline) (steps : ℕ) (ends : List (End × List ℕ)) (lines : List Waiting) : Type 0 where
  pub shown : (line : Waiting) → Contains lines line → (line.process < (silent_named t g).processes) × ShowOnNames t g steps line line.how
  pub waits : (q : ℕ) → q < (silent_named t g).processes → MayWaitForEver (silent_named t g) waits_on_names q steps → HasLine lines q
  pub lingers : (q : ℕ) → q < (silent_named t g).processes → MayLinger (silent_named t g) in_call_on_names waits_on_names q steps → HasLine lines q
  pub stands : HasNoCut ends → (q : ℕ) (word : List ℕ) → q < (silent_named t g).processes → MayStandStill (silent_named t g) waits_on_names q steps word → HasLine lines q
  pub sorted : AllPairs (λ a b. a.process < b.process) lines

-- Only of such a process it may be left open whether it waits for ever: it waits in a stretch that goes on for ever without a choice; or nobody is left unserved
-- while it waits, or while it is in its call.
abbrev pub MayBeOpenOnNames : Tree → Discipline → ℕ → ℕ → Type 0
MayBeOpenOnNames t g steps q =
    ((word : List ℕ) × MayStandStill (silent_named t g) waits_on_names q steps word) ⊎ (LeavesNobody (silent_named t g) waits_on_names q steps ⊎ LeavesNobody (silent_named t g) in_call_on_names q steps)

abbrev pub TellOnNames : Tree → Discipline → ℕ → List (End × List ℕ) → Waits → Type 0
TellOnNames t g steps ends (Known lines) = AreWaitsOnNames t g steps ends lines.items
TellOnNames t g steps ends (NotSettled q) = (q < (silent_named t g).processes) × MayBeOpenOnNames t g steps q

-- ---- of all states

-- What is said is so of the slot machine, and on names of each program that has its tables.
pub record TellWho (r : Tables) (discipline : slot_discipline.Discipline) (steps : ℕ) (ends : List (End × List ℕ)) (waits : Waits) : Type 0 where
  pub slots : TellWaits (silent_slots r discipline) in_call_on_slots waits_on_slots steps waits
  pub names : OfItsPrograms r (λ t. TellOnNames t (named_discipline discipline) steps ends waits)

-- where a search found all states
abbrev pub TellOfAll : Tables → slot_discipline.Discipline → ℕ → Found → Waits → Type 0
TellOfAll r discipline steps found waits = (most : ℕ) (answer : IsAnswer r discipline steps most found) → most < 2 ^ 32 → found.stopped ≡ None → TellWho r discipline steps answer.findings.ends waits

-- what is said of who may wait for ever, where that was asked: nothing where there are too many states
abbrev pub TellAsked : Tables → slot_discipline.Discipline → ℕ → Bool → Found → Option Waits → Type 0
TellAsked r discipline steps asks found None = asks ≡ true → found.stopped ≡ None → ⊥
TellAsked r discipline steps asks found (Some waits) = (asks ≡ true) × (found.stopped ≡ None) × TellOfAll r discipline steps found waits

-- what is said of the graph of all states is so
abbrev pub LinesMeaningLaw : Type 0
LinesMeaningLaw =
    (r : Tables) (discipline : slot_discipline.Discipline) (steps most : ℕ) (found : Found) (f : SlotFindings) (g : Graph) (waits : Waits) → Holds r found f → IsWhole (slots r discipline) without_output steps most f →
    IsSlotGraphOf r discipline steps f.states g → SayWhoWaits g found.states waits → TellWho r discipline steps f.ends waits
