-- A machine by its parts, and what is left of its key after each of them.
use Rattle.std.proofs.Common.{◌≡◌, ◌∙◌, ℕ, ℤ, List, ◌++◌, Option, ap}
use Rattle.cp_machine.specs.declared.discipline.Discipline.{Discipline}
use Rattle.cp_machine.specs.declared.shown.Shown.{Shown}
use Rattle.cp_machine.specs.declared.state.Phase.{Phase}
use Rattle.cp_machine.specs.Machine.{Machine, Thread, Monitor}
use Rattle.cp_key.specs.Key.{option_key, phase_key, discipline_key, threads_key, rest_key}
use Rattle.cp_key.specs.Numbers.{byte_key, integer_key, number_key, list_key}

abbrev pub after_phases : Machine → List ℕ
after_phases m = threads_key m.threads ++ rest_key m

abbrev pub after_bindings : Machine → List ℕ
after_bindings m = list_key phase_key m.phases ++ after_phases m

abbrev pub after_permanents : Machine → List ℕ
after_permanents m = list_key number_key m.bindings ++ after_bindings m

abbrev pub after_output : Machine → List ℕ
after_output m = list_key integer_key m.permanents ++ after_permanents m

abbrev pub after_monitors : Machine → List ℕ
after_monitors m = option_key byte_key m.pending ++ discipline_key m.discipline

abbrev made_of : List ℤ → List ℕ → List Phase → List Thread → List Monitor → Option ℕ → Discipline → List Shown → Machine
made_of permanents bindings phases threads monitors pending discipline output = record { permanents = permanents; bindings = bindings; phases = phases; threads = threads; monitors = monitors; pending = pending; discipline = discipline; output = output }

pub of_parts : (m : Machine) (permanents : List ℤ) (bindings : List ℕ) (phases : List Phase) (threads : List Thread) (monitors : List Monitor) (pending : Option ℕ) (discipline : Discipline) (output : List Shown) → permanents ≡ m.permanents → bindings ≡ m.bindings → phases ≡ m.phases → threads ≡ m.threads → monitors ≡ m.monitors → pending ≡ m.pending → discipline ≡ m.discipline → output ≡ m.output → made_of permanents bindings phases threads monitors pending discipline output ≡ m
of_parts m permanents bindings phases threads monitors pending discipline output a b c d e f g h =
    ap (λ x. made_of x bindings phases threads monitors pending discipline output) a
    ∙ ap (λ x. made_of m.permanents x phases threads monitors pending discipline output) b
    ∙ ap (λ x. made_of m.permanents m.bindings x threads monitors pending discipline output) c
    ∙ ap (λ x. made_of m.permanents m.bindings m.phases x monitors pending discipline output) d
    ∙ ap (λ x. made_of m.permanents m.bindings m.phases m.threads x pending discipline output) e
    ∙ ap (λ x. made_of m.permanents m.bindings m.phases m.threads m.monitors x discipline output) f
    ∙ ap (λ x. made_of m.permanents m.bindings m.phases m.threads m.monitors m.pending x output) g
    ∙ ap (λ x. made_of m.permanents m.bindings m.phases m.threads m.monitors m.pending m.discipline x) h
