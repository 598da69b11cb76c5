-- Which entry calls of monitors a process has open.
use Rattle.std.specs.Prelude.{ℕ, Bool, true, false, ◌&&◌, if◌then◌else◌, List, [], ◌∷◌, ◌++◌}
use Rattle.cp_tree.specs.declared.declaration.SystemKind.{SystemKind}
use Rattle.cp_tree.specs.declared.declaration.SystemKind.TheVariants as system_kind
use Rattle.cp_meaning.specs.Names.{Name}
use Rattle.cp_meaning.specs.State.{Component, component_at, Call, is_entry_kind, State, process_at}
use Rattle.cp_story_laws.specs.Routines.{routine_of}

abbrev pub is_monitor : SystemKind → Bool
is_monitor system_kind.Monitor = true
is_monitor system_kind.Class = false
is_monitor system_kind.Process = false

-- an open entry call: the component that is the monitor, and the routine
pub record Entered : Type 0 where
  pub component : ℕ
  pub routine : Name

abbrev pub entry_of : Call → Entered
entry_of c = record { component = c.component; routine = routine_of c }

-- the open entry calls of monitors, the innermost last
abbrev pub entered_by : List Component → List Call → List Entered
entered_by cs [] = []
entered_by cs (c ∷ calls) = if is_entry_kind c.kind && is_monitor (component_at cs c.component).kind then entered_by cs calls ++ entry_of c ∷ [] else entered_by cs calls

-- those of process q
abbrev pub monitors_entered : State → ℕ → List Entered
monitors_entered s q = entered_by s.components (process_at s.processes q).calls
