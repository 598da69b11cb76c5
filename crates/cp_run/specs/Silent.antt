-- A machine that shows nothing: what it displayed is taken away after each step, so that it is never full and can go on for ever.
use Rattle.std.specs.Prelude.{Bool, true, false, []}
use Rattle.cp_slots.specs.Tables.{Tables}
use Rattle.cp_machine.specs.declared.discipline.Discipline.{Discipline}
use Rattle.cp_machine.specs.System.{Machine}
use Rattle.cp_run.specs.Slots.{slots}
use Rattle.cp_run.specs.System.{System}

-- the same machine, whose output is taken away after each step; `forget` takes it from a state
abbrev pub forgetting_system : {S : Type 0} → System S → (S → S) → System S
forgetting_system sys forget = record sys { start = forget sys.start; step = λ s p. forget (sys.step s p) }

abbrev pub without_output : Machine → Machine
without_output m = record m { output = [] }

abbrev pub silent_slots : Tables → Discipline → System Machine
silent_slots r discipline = forgetting_system (slots r discipline) without_output

-- what is left of a state after a step
abbrev pub left_by : Bool → Machine → Machine
left_by true m = without_output m
left_by false m = m

-- the slot machine, or the one that shows nothing
abbrev pub slots_by : Bool → Tables → Discipline → System Machine
slots_by silent r discipline = forgetting_system (slots r discipline) (left_by silent)
