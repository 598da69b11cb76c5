-- The slot machine of a program, as a system.
use Rattle.std.specs.Prelude.{ℕ, length}
use Rattle.cp_slots.specs.Tables.{Tables}
use Rattle.cp_machine.specs.declared.discipline.Discipline.{Discipline}
use Rattle.cp_machine.specs.System.{Machine, opening, step_at, is_ready, in_line, is_pending, waits, admit_waiting, output_of, monitor_at}
use Rattle.cp_run.specs.System.{System}

abbrev pub processes_of : Tables → ℕ
processes_of r = length r.processes

abbrev pub monitors_of : Tables → ℕ
monitors_of r = r.monitors

abbrev pub slots : Tables → Discipline → System Machine
slots r discipline =
    record {
      processes = processes_of r;
      monitors = monitors_of r;
      start = opening r discipline;
      step = λ m p. (step_at r m p).machine;
      event = λ m p. (step_at r m p).event;
      admit = admit_waiting;
      is_ready = is_ready;
      is_pending = is_pending;
      in_line = in_line;
      waits = waits;
      holder = λ m n. (monitor_at m n).holder;
      output = output_of;
    }
