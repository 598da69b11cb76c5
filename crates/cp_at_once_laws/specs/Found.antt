-- What the search that makes quiet steps at once finds, on the meaning of a program on its own names.
use Rattle.std.specs.Prelude.{◌≡◌, ℕ, Contains, Bool, false, Option}
use Rattle.cp_tree.specs.Read.{IsRead}
use Rattle.cp_tree.specs.Syntax.{Tree}
use Rattle.cp_meaning_laws.specs.Accepted.{IsAccepted}
use Rattle.cp_meaning.specs.State.{book_discipline, State}
use Rattle.cp_machine.specs.declared.event.Event.{Event}
use Rattle.cp_machine.specs.declared.shown.Shown.{Shown}
use Rattle.cp_machine_laws.specs.Named.{named}
use Rattle.cp_at_once_laws.specs.AtOnce.{Fails, Spins, IsAlone, Marks, Comes, Finds, PicksQuiet}
use Rattle.cp_at_once_laws.specs.Quiet.{names, IsSomewhere, IsQuietStep}

-- nobody is ready, and somebody waits or nobody does
abbrev pub IsOver : Tree → Bool → State → Type 0
IsOver t waiting s = ((p : ℕ) → (names t).is_ready s p ≡ false) × ((names t).waits s ≡ waiting)

-- the step shows this value
abbrev pub ShowsValue : Tree → Shown → State → ℕ → Type 0
ShowsValue t v s p = Contains ((named t book_discipline).output ((named t book_discipline).step s p)) v

-- what is looked for is found from the start exactly where a schedule of any length comes to it
pub record IsFound (t : Tree) (pick : State → Option ℕ) (row : ℕ → State → ℕ) (c : ℕ) (waiting : Bool) (Goal : State → ℕ → Type 0) : Type 0 where
  pub there : (n : ℕ) → Comes (names t) (IsOver t waiting) Goal n (names t).start → Finds (names t) (IsOver t waiting) Goal pick row c (names t).start
  pub back : Finds (names t) (IsOver t waiting) Goal pick row c (names t).start → (n : ℕ) × Comes (names t) (IsOver t waiting) Goal n (names t).start

-- each end, run error, endless loop, who is alone for ever, and each displayed value
pub record FindsAll (t : Tree) (pick : State → Option ℕ) (row : ℕ → State → ℕ) (c : ℕ) (waiting : Bool) : Type 0 where
  pub errors : (e : Event) → IsFound t pick row c waiting (Fails (names t) e)
  pub loops : IsFound t pick row c waiting (Spins (names t))
  pub alone : IsFound t pick row c waiting (IsAlone (names t))
  pub values : (v : Shown) → IsFound t pick row c waiting (Marks (names t) (ShowsValue t v))

-- of each program that is read and breaks no rule, whoever is taken at once, and however often in a row
abbrev pub AtOnceNames : Type 0
AtOnceNames =
    (t : Tree) → IsRead t.program → IsAccepted t → (pick : State → Option ℕ) → PicksQuiet (names t) (IsSomewhere t) (IsQuietStep t) pick → (row : ℕ → State → ℕ) (c : ℕ) (waiting : Bool) →
    FindsAll t pick row c waiting
