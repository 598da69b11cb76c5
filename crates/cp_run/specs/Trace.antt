-- The trace of a run: its kernel events, process ends and admissions in order.
use Rattle.std.specs.Prelude.{ℕ, zero, suc, true, false, List, [], ◌∷◌, ◌++◌, Option, if◌then◌else◌}
use Rattle.cp_machine.specs.declared.event.Event.{Event}
use Rattle.cp_machine.specs.declared.event.Event.TheVariants.{Local, Kernel as KernelCall, Ended, Fault, OutputFull}
use Rattle.cp_run.specs.declared.outcome.Turn.{Turn}
use Rattle.cp_run.specs.declared.outcome.Turn.TheVariants.{Over, Due, Goes}
use Rattle.cp_run.specs.declared.line.TraceLine.{TraceLine}
use Rattle.cp_run.specs.declared.line.TraceEvent.TheVariants.{Kernel, End, Admit}
use Rattle.cp_run.specs.Fold.{Fold}
use Rattle.cp_run.specs.System.{System}
use Rattle.cp_run.specs.Run.{joined_below, Node, Halted, Choosing, turn_at, turn_after, settled_turn, may, chosen, opened}

-- the process inside each monitor
abbrev pub holders_in : {S : Type 0} → System S → S → List (Option ℕ)
holders_in sys s = joined_below sys.monitors (λ m. sys.holder s m ∷ [])

-- the line of a step of process p that came to the state t, if there is one
abbrev pub step_lines : {S : Type 0} → System S → S → ℕ → Event → List TraceLine
step_lines sys t p Local = []
step_lines sys t p (KernelCall call) = record { process = p; event = Kernel call; holders = holders_in sys t } ∷ []
step_lines sys t p Ended = record { process = p; event = End; holders = holders_in sys t } ∷ []
step_lines sys t p (Fault e) = []
step_lines sys t p OutputFull = []

abbrev pub lines_on : (ℕ → List TraceLine) → Turn → List TraceLine
lines_on on (Over kind) = []
lines_on on Due = []
lines_on on (Goes q) = on q

-- the lines of a stretch
unfoldable pub stretch_lines : {S : Type 0} → System S → ℕ → S → ℕ → List TraceLine
stretch_lines sys zero s p = []
stretch_lines sys (suc left) s p =
    let t = sys.step s p in
    step_lines sys t p (sys.event s p) ++ lines_on (stretch_lines sys left t) (turn_after sys t p (sys.event s p))

unfoldable pub opened_lines : {S : Type 0} → System S → ℕ → List TraceLine
opened_lines sys steps = lines_on (stretch_lines sys steps sys.start) (turn_at sys sys.start false 0)

-- the lines of a choice and of the stretch that follows it; an admission has a line of its own
unfoldable pub chosen_lines : {S : Type 0} → System S → ℕ → S → ℕ → List TraceLine
chosen_lines sys steps s p =
    if sys.is_pending s then (let t = sys.admit s p in record { process = p; event = Admit; holders = holders_in sys t } ∷ lines_on (stretch_lines sys steps t) (settled_turn sys t true p)) else stretch_lines sys steps s p

-- the lines from where a run stands, with this many choices left
unfoldable pub trace_from : {S : Type 0} → System S → ℕ → ℕ → List ℕ → Node S → List TraceLine
trace_from sys steps choices word (Halted kind s) = []
trace_from sys steps zero word (Choosing s) = []
trace_from sys steps (suc choices) [] (Choosing s) = []
trace_from sys steps (suc choices) (p ∷ word) (Choosing s) = if may sys s p then chosen_lines sys steps s p ++ trace_from sys steps choices word (chosen sys steps s p) else []

abbrev pub trace : {S : Type 0} → System S → ℕ → ℕ → List ℕ → List TraceLine
trace sys choices steps word = opened_lines sys steps ++ trace_from sys steps choices word (opened sys steps)

-- and the lines as what comes of a run step by step
abbrev pub tracer : {S : Type 0} → System S → Fold S (List TraceLine)
tracer sys =
    record {
      on_step = λ s p event t lines. lines ++ step_lines sys t p event;
      on_admission = λ p t lines. lines ++ record { process = p; event = Admit; holders = holders_in sys t } ∷ [];
      on_choice = λ s p lines. lines;
    }
