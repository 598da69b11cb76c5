-- The kernel: who goes into a monitor, who waits, and who goes on.
use Rattle.std.specs.Prelude.{ℕ, ◌∷◌, [], ◌++◌, List, position, Option, Some, None, pos, slice_set}
use Rattle.cp_machine.specs.declared.discipline.Gates.{Gates}
use Rattle.cp_machine.specs.declared.discipline.Gates.TheVariants.{First, Any}
use Rattle.cp_machine.specs.declared.discipline.Signals.{Signals}
use Rattle.cp_machine.specs.declared.discipline.Signals.TheVariants.{Wait}
use Rattle.cp_machine.specs.declared.process.Status.TheVariants.{Ready, AtGate, Delayed}
use Rattle.cp_machine.specs.Machine.{Machine, monitor_at, is_delayed_at, with_status, with_monitor, with_pending}

-- ---- the line is let in

-- nobody is inside
abbrev pub free : Machine → (monitor : ℕ) → List ℕ → Machine
free m monitor line = with_monitor m monitor (record { holder = None; line = line })

-- a process goes in and is ready, and the others stay in the line
abbrev pub goes_in : Machine → (monitor pid : ℕ) → List ℕ → Machine
goes_in m monitor pid line = with_monitor (with_status m pid Ready) monitor (record { holder = Some pid; line = line })

-- the first of the line goes in
abbrev pub first_in : Machine → (monitor : ℕ) → List ℕ → Machine
first_in m monitor [] = free m monitor []
first_in m monitor (q ∷ line) = goes_in m monitor q line

-- one alone goes in; of more, one has to be admitted
abbrev pub one_in : Machine → (monitor : ℕ) → List ℕ → Machine
one_in m monitor [] = free m monitor []
one_in m monitor (q ∷ []) = goes_in m monitor q []
one_in m monitor (p ∷ q ∷ line) = with_pending (free m monitor (p ∷ q ∷ line)) (Some monitor)

abbrev pub let_in_by : Gates → Machine → (monitor : ℕ) → List ℕ → Machine
let_in_by First m monitor line = first_in m monitor line
let_in_by Any m monitor line = one_in m monitor line

abbrev pub let_in : Machine → ℕ → Machine
let_in m monitor = let_in_by m.discipline.gates m monitor (monitor_at m monitor).line

-- ---- enter

abbrev pub enter_by : Option ℕ → Machine → (pid monitor : ℕ) → Machine
enter_by None m pid monitor = with_monitor m monitor (record { holder = Some pid; line = (monitor_at m monitor).line })
enter_by (Some q) m pid monitor = with_monitor (with_status m pid (AtGate monitor)) monitor (record { holder = Some q; line = (monitor_at m monitor).line ++ pid ∷ [] })

-- the caller goes in if nobody is inside, and else to the end of the line
abbrev pub enter_caller : Machine → (pid monitor : ℕ) → Machine
enter_caller m pid monitor = enter_by (monitor_at m monitor).holder m pid monitor

-- ---- delay and continue

-- the caller waits in the queue of this permanent cell, and the line is let in
abbrev pub delay_caller : Machine → (pid monitor cell : ℕ) → Machine
delay_caller m pid monitor cell = let_in (with_status (record m { permanents = slice_set m.permanents cell (pos 1) }) pid (Delayed cell)) monitor

-- who waits in the queue of this permanent cell
abbrev pub waits_in : Machine → (cell : ℕ) → Option ℕ
waits_in m cell = position (λ t. is_delayed_at cell t.status) m.threads

-- the process in the queue is ready and inside; where there is none, the line is let in
abbrev pub go_on_inside : Option ℕ → Machine → (monitor : ℕ) → Machine
go_on_inside None m monitor = let_in m monitor
go_on_inside (Some q) m monitor = goes_in m monitor q (monitor_at m monitor).line

abbrev pub resume : Machine → (monitor cell : ℕ) → Machine
resume m monitor cell = go_on_inside (waits_in m cell) (record m { permanents = slice_set m.permanents cell (pos 0) }) monitor

-- ---- continue where the caller does not return

-- a process comes to the end of the line
abbrev pub join_line : Machine → (monitor pid : ℕ) → Machine
join_line m monitor pid = with_monitor (with_status m pid (AtGate monitor)) monitor (record { holder = (monitor_at m monitor).holder; line = (monitor_at m monitor).line ++ pid ∷ [] })

-- the caller is the first of the line, and who was resumed goes in
abbrev pub change_places : Machine → (monitor caller go_on_inside : ℕ) → Machine
change_places m monitor caller go_on_inside = goes_in (with_status m caller (AtGate monitor)) monitor go_on_inside (caller ∷ (monitor_at m monitor).line)

-- the caller goes on, and who waited is in the line; or the two change places; where nobody waited, the caller goes on
abbrev pub signal_by : Signals → Option ℕ → Machine → (pid monitor : ℕ) → Machine
signal_by signals None m pid monitor = m
signal_by Wait (Some q) m pid monitor = change_places m monitor pid q
signal_by signals (Some q) m pid monitor = join_line m monitor q

abbrev pub signal : Machine → (pid monitor cell : ℕ) → Machine
signal m pid monitor cell = signal_by m.discipline.signals (waits_in m cell) (record m { permanents = slice_set m.permanents cell (pos 0) }) pid monitor
