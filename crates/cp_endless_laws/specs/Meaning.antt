-- The same of the meaning of a program, on its own names.
use Rattle.std.specs.Prelude.{◌≡◌, ◌≤◌, ℕ, List, Bool, length}
use Rattle.cp_tree.specs.Read.{IsRead}
use Rattle.cp_tree.specs.Syntax.{Tree}
use Rattle.cp_layout.specs.Laid.{plain, laid}
use Rattle.cp_slots.specs.Tables.{Tables}
use Rattle.cp_meaning_laws.specs.Accepted.{IsAccepted}
use Rattle.cp_machine.specs.Machine.{Machine}
use Rattle.cp_machine.specs.declared.shown.Shown.{Shown}
use Rattle.cp_meaning.specs.State.{Discipline}
use Rattle.cp_run.specs.declared.outcome.OutcomeKind.{OutcomeKind}
use Rattle.cp_run.specs.Slots.{slots}
use Rattle.cp_run.specs.System.{System}
use Rattle.cp_run.specs.Table.{table}
use Rattle.cp_machine_laws.specs.Named.{named, discipline_of}
use Rattle.cp_endless_laws.specs.Reachable.{EndsAfter, IsPossible}
use Rattle.cp_endless_laws.specs.Settled.{AreAllEnds, IsSettled}
use Rattle.cp_endless_laws.specs.Shown.{ShowsAfter}
use Rattle.cp_endless_laws.specs.Silent.{without_output, silent_slots, named_without_output, silent_named, waits_on_slots, waits_on_names, in_call_on_slots, in_call_on_names}
use Rattle.cp_endless_laws.specs.Standstill.{MayStandStill}
use Rattle.cp_endless_laws.specs.Tables.{HasKnownEnds, RunsTo}
use Rattle.cp_endless_laws.specs.Traps.{IsStuckAfter}
use Rattle.cp_endless_laws.specs.WaitsForEver.{MayWaitForEver, NeverWaitsForEver, MayLinger}

-- of every program that is read and accepted, and every table of slots that stands for it
abbrev pub OfPrograms : (Tree → Tables → Discipline → ℕ → Type 0) → Type 0
OfPrograms P = (t : Tree) (r : Tables) (g : Discipline) → IsRead t.program → IsAccepted t → plain r ≡ laid t → (steps : ℕ) → P t r g steps

-- ---- ends and values

-- two systems have the same ends after each word, in any number of choices
pub record EndsTheSame {S T : Type 0} (a : System S) (b : System T) (steps : ℕ) : Type 0 where
  pub after_there : (word : List ℕ) (kind : OutcomeKind) → EndsAfter a steps word kind → EndsAfter b steps word kind
  pub after_back : (word : List ℕ) (kind : OutcomeKind) → EndsAfter b steps word kind → EndsAfter a steps word kind
  pub there : (kind : OutcomeKind) → IsPossible a steps kind → IsPossible b steps kind
  pub back : (kind : OutcomeKind) → IsPossible b steps kind → IsPossible a steps kind

-- the same values are shown after each word
pub record ShowsTheSame {S T : Type 0} (a : System S) (b : System T) (fa : S → S) (fb : T → T) (steps : ℕ) : Type 0 where
  pub there : (word : List ℕ) (v : Shown) → ShowsAfter a fa steps word v → ShowsAfter b fb steps word v
  pub back : (word : List ℕ) (v : Shown) → ShowsAfter b fb steps word v → ShowsAfter a fa steps word v

-- ---- who waits

-- in both the same processes may wait for ever, in schedules and in stretches without end, and are stuck for good after the same words
pub record WaitsTheSame {S T : Type 0} (a : System S) (b : System T) (wa : S → ℕ → Bool) (wb : T → ℕ → Bool) (steps : ℕ) : Type 0 where
  pub there : (q : ℕ) → MayWaitForEver a wa q steps → MayWaitForEver b wb q steps
  pub back : (q : ℕ) → MayWaitForEver b wb q steps → MayWaitForEver a wa q steps
  pub never_there : (q : ℕ) → NeverWaitsForEver a wa q steps → NeverWaitsForEver b wb q steps
  pub never_back : (q : ℕ) → NeverWaitsForEver b wb q steps → NeverWaitsForEver a wa q steps
  pub still_there : (word : List ℕ) (q : ℕ) → MayStandStill a wa q steps word → MayStandStill b wb q steps word
  pub still_back : (word : List ℕ) (q : ℕ) → MayStandStill b wb q steps word → MayStandStill a wa q steps word
  pub stuck_there : (word : List ℕ) (q : ℕ) → IsStuckAfter a wa q steps word → IsStuckAfter b wb q steps word
  pub stuck_back : (word : List ℕ) (q : ℕ) → IsStuckAfter b wb q steps word → IsStuckAfter a wa q steps word

-- and the same may wait again and again and never come out of their calls
pub record LingersTheSame {S T : Type 0} (a : System S) (b : System T) (ia : S → ℕ → Bool) (ib : T → ℕ → Bool) (wa : S → ℕ → Bool) (wb : T → ℕ → Bool) (steps : ℕ) : Type 0 where
  pub there : (q : ℕ) → MayLinger a ia wa q steps → MayLinger b ib wb q steps
  pub back : (q : ℕ) → MayLinger b ib wb q steps → MayLinger a ia wa q steps

-- ---- the laws

-- the meaning of a program and its slot machine, where nothing is shown
pub record MeansTheSame (t : Tree) (r : Tables) (g : Discipline) (steps : ℕ) : Type 0 where
  pub ends : EndsTheSame (silent_named t g) (silent_slots r (discipline_of g)) steps
  pub values : ShowsTheSame (named t g) (slots r (discipline_of g)) named_without_output without_output steps
  pub waits : WaitsTheSame (silent_named t g) (silent_slots r (discipline_of g)) waits_on_names waits_on_slots steps
  pub lingers : LingersTheSame (silent_named t g) (silent_slots r (discipline_of g)) in_call_on_names in_call_on_slots waits_on_names waits_on_slots steps

abbrev pub EndlessMeaningLaw : Type 0
EndlessMeaningLaw = OfPrograms MeansTheSame

-- What is settled of the program, on its own names: the ends are exactly those that are possible where nothing is shown; no row of any table,
-- whatever the number of choices, ends otherwise; and a word that leads to an end is a schedule with this end, where as many choices are allowed.
pub record IsSettledOf (t : Tree) (g : Discipline) (steps : ℕ) (ends : List OutcomeKind) : Type 0 where
  pub all : AreAllEnds (silent_named t g) steps ends
  pub tables : (choices : ℕ) → HasKnownEnds ends (table (named t g) choices steps)
  pub witness : (word : List ℕ) (kind : OutcomeKind) → EndsAfter (silent_named t g) steps word kind → (choices : ℕ) → length word ≤ choices → RunsTo (named t g) choices steps word kind

-- what is settled of the slot machine is so of the program
abbrev pub SettledMeaningLaw : Type 0
SettledMeaningLaw = OfPrograms (λ t r g steps. (states : List Machine) (ends : List OutcomeKind) → IsSettled (silent_slots r (discipline_of g)) steps states ends → IsSettledOf t g steps ends)
