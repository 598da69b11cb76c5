-- The opening state, and admissions.
use Rattle.std.specs.Prelude.{position, remove, ℕ, [], List, length, Option, Some, None, map, replicate, ◌==◌}
use Rattle.cp_slots.specs.Tables.{Tables, component_at, routine_at}
use Rattle.cp_slots.specs.declared.tables.Process as slots
use Rattle.cp_machine.specs.declared.discipline.Discipline.{Discipline}
use Rattle.cp_machine.specs.declared.process.Status.TheVariants.{Unstarted, Ready}
use Rattle.cp_machine.specs.declared.state.Phase.TheVariants.{Uninitialised}
use Rattle.cp_machine.specs.Machine.{Machine, Thread, monitor_at, no_monitor, with_status, with_monitor, with_pending}
use Rattle.cp_machine.specs.Memory.{add_frame, no_bindings}
use Rattle.cp_machine.specs.Stack.{rest_of}

-- ---- the opening state

abbrev pub unstarted_thread : Tables → slots.Process → Thread
unstarted_thread r p =
    add_frame
    (record {
      status = Unstarted;
      frame = record { routine = p.routine; component = p.component; own = (component_at r p.component).base; base = 0; references = 0 };
      stack = rest_of (routine_at r p.routine).body [];
      cells = [];
      references = [];
    })
    (routine_at r p.routine)

-- every process unstarted, and every component uninitialised
abbrev pub still : Tables → Discipline → Machine
still r discipline =
    record {
      permanents = r.permanents;
      bindings = no_bindings (length r.permanents);
      phases = replicate (length r.components) Uninitialised;
      threads = map (unstarted_thread r) r.processes;
      monitors = replicate r.monitors no_monitor;
      pending = None;
      discipline = discipline;
      output = [];
    }

abbrev pub opening : Tables → Discipline → Machine
opening r discipline = with_status (still r discipline) 0 Ready

-- ---- admission

abbrev pub remove_at : Option ℕ → List ℕ → List ℕ
remove_at None line = line
remove_at (Some place) line = remove line place

-- the line without a process
abbrev pub without : ℕ → List ℕ → List ℕ
without pid line = remove_at (position (λ q. q == pid) line) line

abbrev pub admit_at : Option ℕ → Machine → ℕ → Machine
admit_at None m pid = m
admit_at (Some monitor) m pid = with_pending (with_monitor (with_status m pid Ready) monitor (record { holder = Some pid; line = without pid (monitor_at m monitor).line })) None

-- a process of the pending monitor's line goes in and is ready, and nothing is pending
abbrev pub admit_waiting : Machine → ℕ → Machine
admit_waiting m pid = admit_at m.pending m pid
