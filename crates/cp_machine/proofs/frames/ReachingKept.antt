-- A step, an admission and the opening keep what the frames of all processes may name there.
use Rattle.cp_machine.proofs.Words.{◌≡◌, ℕ, ◌<◌, length, true, IsSound, IsTyped, parameter_count, Tables, component_at, process_at, Discipline, LinesFit}
use Rattle.cp_machine.proofs.Words.{MachineFits, Machine, in_line, is_ready, admit_waiting, opening, Reaches, step_at}
use Rattle.cp_machine.proofs.parameters.Executing.{admitted_executes}
use Rattle.cp_machine.proofs.parameters.ExecutingAct.{process_finds, step_executes}
use Rattle.cp_machine.proofs.parameters.ExecutingLemmas.{Executing}
use Rattle.cp_machine.proofs.parameters.ExecutingOpening.{opening_executes}
use Rattle.cp_machine.proofs.frames.Framing.{Framed, admitted_framed}
use Rattle.cp_machine.proofs.frames.FramingAct.{step_framed}
use Rattle.cp_machine.proofs.frames.FramingOpening.{opening_framed}

pub executing_of : (r : Tables) (m : Machine) → Reaches r m → Executing r m
executing_of r m h = record { executes = h.executes; ends = h.ends; bound = h.bound }

reaches_of : (r : Tables) (m : Machine) → Framed r m → Executing r m → Reaches r m
reaches_of r m framed h = record { frames = framed; executes = h.executes; ends = h.ends; bound = h.bound }

pub step_reaches : (r : Tables) (m : Machine) (pid : ℕ) → pid < length m.threads → IsSound r → IsTyped r → MachineFits r m → LinesFit m → is_ready m pid ≡ true → Reaches r m → Reaches r (step_at r m pid).machine
step_reaches r m pid lt sound typed fits lines ready h =
    let known = executing_of r m h in
    reaches_of r (step_at r m pid).machine
    (step_framed r m pid lt sound typed fits h.frames (process_finds r m pid lt typed fits ready (h.frames pid lt) known))
    (step_executes r m pid lt typed fits lines ready (h.frames pid lt) known)

pub admitted_reaches : (r : Tables) (m : Machine) (pid : ℕ) → in_line m pid ≡ true → Reaches r m → Reaches r (admit_waiting m pid)
admitted_reaches r m pid waits h = reaches_of r (admit_waiting m pid) (admitted_framed r m pid h.frames) (admitted_executes r m pid waits (executing_of r m h))

-- the program has no parameters
pub opening_reaches : (r : Tables) (discipline : Discipline) → IsSound r → IsTyped r → parameter_count r (component_at r (process_at r 0).component).system ≡ 0 → Reaches r (opening r discipline)
opening_reaches r discipline sound typed alone = reaches_of r (opening r discipline) (opening_framed r discipline sound typed) (opening_executes r discipline sound typed alone)
