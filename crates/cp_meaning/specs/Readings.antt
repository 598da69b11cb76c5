-- What is read off a state.
use Rattle.std.specs.Prelude.{ℕ, suc, ◌<◌, ◌≡◌, Bool, true, false, ◌||◌, if◌then◌else◌, List, [], ◌∷◌, length, filter, Option, Some, None}
use Rattle.cp_tree.specs.declared.declaration.SystemKind.{SystemKind}
use Rattle.cp_tree.specs.declared.declaration.SystemKind.TheVariants as system_kind
use Rattle.cp_tree.specs.Syntax.{Program}
use Rattle.cp_meaning.specs.Values.{is_member, counted_from}
use Rattle.cp_meaning.specs.State.{Component, component_at, Status, ready, at_gate, delayed, Process, process_at, Discipline, State, is_inside}
use Rattle.cp_meaning.specs.Kernel.{line_of, after}
use Rattle.cp_meaning.specs.Steps.{IsReached}
use Rattle.cp_meaning.specs.WellFormed.{IsWellFormed}

abbrev pub is_ready : Status → Bool
is_ready ready = true
is_ready status = false

abbrev pub ready_from : ℕ → List Process → List ℕ
ready_from n [] = []
ready_from n (p ∷ ps) = if is_ready p.status then n ∷ ready_from (suc n) ps else ready_from (suc n) ps

-- the ready processes in rising order
abbrev pub ready_of : State → List ℕ
ready_of s = ready_from 0 s.processes

abbrev pub is_waiting : Status → Bool
is_waiting (at_gate m) = true
is_waiting (delayed m) = true
is_waiting status = false

abbrev pub is_one_waiting : List Process → Bool
is_one_waiting [] = false
is_one_waiting (p ∷ ps) = is_waiting p.status || is_one_waiting ps

-- some process is at a gate or delayed
abbrev pub waits : State → Bool
waits s = is_one_waiting s.processes

-- the line of a monitor in rising order
abbrev pub rising_line : State → ℕ → List ℕ
rising_line s m = filter (λ q. is_member q (line_of s m)) (counted_from (length s.processes) 0)

-- the process inside a monitor
abbrev pub first_inside : ℕ → List Process → Option ℕ
first_inside m [] = None
first_inside m (p ∷ ps) = if is_inside m p then Some 0 else after (first_inside m ps)

abbrev pub holder_of : State → ℕ → Option ℕ
holder_of s m = first_inside m s.processes

-- ---- the monitors, numbered in the order of the components

abbrev pub monitor_first : SystemKind → ℕ → List ℕ → List ℕ
monitor_first system_kind.Monitor n ms = n ∷ ms
monitor_first system_kind.Class n ms = ms
monitor_first system_kind.Process n ms = ms

abbrev pub monitors_from : ℕ → List Component → List ℕ
monitors_from n [] = []
monitors_from n (c ∷ cs) = monitor_first c.kind n (monitors_from (suc n) cs)

-- the components that are monitors; the place in this list is the monitor's number
abbrev pub monitors_of : State → List ℕ
monitors_of s = monitors_from 0 s.components

-- whoever is inside a monitor is its holder
abbrev pub HolderLaw : Type 0
HolderLaw =
    (p : Program) → IsWellFormed p → (g : Discipline) (s : State) → IsReached p g s → (m q : ℕ) → (component_at s.components m).kind ≡ system_kind.Monitor →
    q < length s.processes → is_inside m (process_at s.processes q) ≡ true → holder_of s m ≡ Some q
