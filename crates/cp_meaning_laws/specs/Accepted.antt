-- Accepted programs, and what holds of each of them.
use Rattle.std.specs.Prelude.{◌≡◌, ℕ, ◌<◌, true, [], length, Some}
use Rattle.cp_tree.specs.declared.declaration.SystemKind.TheVariants as system_kind
use Rattle.cp_tree.specs.Syntax.{Tree}
use Rattle.cp_check.specs.Faults.{faults_of}
use Rattle.cp_meaning.specs.State.{Discipline, component_at, process_at, State, is_inside}
use Rattle.cp_meaning.specs.Steps.{IsReached}
use Rattle.cp_meaning.specs.Readings.{holder_of}
use Rattle.cp_meaning.specs.Exclusive.{IsExclusive}
use Rattle.cp_meaning.specs.OwnershipLaw.{Ownership}
use Rattle.cp_meaning.specs.WellFormed.{IsWellFormed}

-- the program breaks no rule
abbrev pub IsAccepted : Tree → Type 0
IsAccepted t = faults_of t ≡ []

-- What the rules C2 and C14 say of an accepted program's components. The laws need no other rule: what C5, C6, C11, C12, C13, C15 and C17 say of
-- arguments, component names and queues, the meaning tests itself (`Calls.of_system`, `Places.component_by`, `Kernel.signalling`, `Kernel.starting`),
-- and an accepted program always passes these tests.
abbrev pub WellFormedLaw : Type 0
WellFormedLaw = (t : Tree) → IsAccepted t → IsWellFormed t.program

-- in every state that the program reaches, at most one process is inside each monitor or initialises it
abbrev pub KeepsExclusion : Tree → Discipline → Type 0
KeepsExclusion t g = (s : State) → IsReached t.program g s → IsExclusive s

-- every accepted program keeps exclusion
abbrev pub ExclusiveLaw : Type 0
ExclusiveLaw = (t : Tree) → IsAccepted t → (g : Discipline) → KeepsExclusion t g

-- whoever is inside a monitor is its holder
abbrev pub HolderLaw : Type 0
HolderLaw =
    (t : Tree) → IsAccepted t → (g : Discipline) (s : State) → IsReached t.program g s → (m q : ℕ) → (component_at s.components m).kind ≡ system_kind.Monitor →
    q < length s.processes → is_inside m (process_at s.processes q) ≡ true → holder_of s m ≡ Some q

-- in every step each changed variable is one that the process holds
abbrev pub OwnershipLaw : Type 0
OwnershipLaw = (t : Tree) → IsAccepted t → (g : Discipline) → Ownership t.program g
