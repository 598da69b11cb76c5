-- A run of a schedule word.
use Rattle.std.specs.Prelude.{nat_lt, ℕ, zero, suc, List, [], ◌∷◌, ◌++◌, Bool, true, false, ◌&&◌, if◌then◌else◌}
use Rattle.cp_machine.specs.declared.event.Event.{Event}
use Rattle.cp_machine.specs.declared.event.Event.TheVariants.{Local, Kernel, Ended as ProcessEnded, Fault, OutputFull}
use Rattle.cp_run.specs.declared.outcome.Outcome.{Outcome}
use Rattle.cp_run.specs.declared.outcome.OutcomeKind.{OutcomeKind}
use Rattle.cp_run.specs.declared.outcome.OutcomeKind.TheVariants.{Finished, AllWaiting, RunError, ChoiceLimit, StepLimit, OutputLimit}
use Rattle.cp_run.specs.declared.outcome.Turn.{Turn}
use Rattle.cp_run.specs.declared.outcome.Turn.TheVariants.{Over, Due, Goes}
use Rattle.cp_run.specs.System.{System}

-- the lists of the numbers below n, in rising order, one after the other
abbrev pub joined_below : {A : Type 0} → ℕ → (ℕ → List A) → List A
joined_below zero f = []
joined_below (suc n) f = joined_below n f ++ f n

-- the numbers below n that may be, in rising order
abbrev pub those_below : ℕ → (ℕ → Bool) → List ℕ
those_below n may = joined_below n (λ p. if may p then p ∷ [] else [])

-- what comes before the next step: nobody ready, choice of process, going on with the one that is ready, and of several the one named
abbrev pub turn_among : {S : Type 0} → System S → S → Bool → ℕ → List ℕ → Turn
turn_among sys s kernel p [] = if sys.waits s then Over AllWaiting else Over Finished
turn_among sys s kernel p (q ∷ []) = Goes q
turn_among sys s kernel p (q ∷ r ∷ qs) = if kernel then Due else Goes p

-- the rules after the gate choice; `kernel` says that the last step was a kernel call or a process end
abbrev pub settled_turn : {S : Type 0} → System S → S → Bool → ℕ → Turn
settled_turn sys s kernel p = turn_among sys s kernel p (those_below sys.processes (sys.is_ready s))

-- gate choice, and then these
abbrev pub turn_at : {S : Type 0} → System S → S → Bool → ℕ → Turn
turn_at sys s kernel p = if sys.is_pending s then Due else settled_turn sys s kernel p

-- error end, and then these, after a step of process p that came to the state t
abbrev pub turn_after : {S : Type 0} → System S → S → ℕ → Event → Turn
turn_after sys t p Local = turn_at sys t false p
turn_after sys t p (Kernel call) = turn_at sys t true p
turn_after sys t p ProcessEnded = turn_at sys t true p
turn_after sys t p (Fault e) = Over (RunError e.name e.process e.line)
turn_after sys t p OutputFull = Over OutputLimit

-- where a run stands still
pub data Node (S : Type 0) : Type 0 where
  Halted : OutcomeKind → S → Node S
  Choosing : S → Node S

abbrev pub node_at : {S : Type 0} → S → (ℕ → Node S) → Turn → Node S
node_at s on (Over kind) = Halted kind s
node_at s on Due = Choosing s
node_at s on (Goes q) = on q

-- process p goes on, with this many steps left, to the next due choice or other end
unfoldable pub stretch : {S : Type 0} → System S → ℕ → S → ℕ → Node S
stretch sys zero s p = Halted StepLimit s
stretch sys (suc left) s p =
    let t = sys.step s p in
    node_at t (stretch sys left t) (turn_after sys t p (sys.event s p))

-- a run begins in the opening state, of which process 0 is the one ready
unfoldable pub opened : {S : Type 0} → System S → ℕ → Node S
opened sys steps = node_at sys.start (stretch sys steps sys.start) (turn_at sys sys.start false 0)

-- the numbers that a due choice may take: of the line, or of the ready processes
unfoldable pub may : {S : Type 0} → System S → S → ℕ → Bool
may sys s p = nat_lt p sys.processes && (if sys.is_pending s then sys.in_line s p else sys.is_ready s p)

-- where a choice leads to; after an admission the last step is still the kernel call
unfoldable pub chosen : {S : Type 0} → System S → ℕ → S → ℕ → Node S
chosen sys steps s p =
    if sys.is_pending s then (let t = sys.admit s p in node_at t (stretch sys steps t) (settled_turn sys t true p)) else stretch sys steps s p

pub data Answer : Type 0 where
  Ended : Outcome → ℕ → Answer
  Wants : List ℕ → Answer
  NotReady : ℕ → Answer

-- one number of the word further
abbrev pub later : Answer → Answer
later (Ended outcome used) = Ended outcome (suc used)
later (Wants ready) = Wants ready
later (NotReady place) = NotReady (suc place)

-- the run from where it stands, with this many choices left
unfoldable pub run_from : {S : Type 0} → System S → ℕ → ℕ → List ℕ → Node S → Answer
run_from sys steps choices word (Halted kind s) = Ended (record { kind = kind; output = sys.output s }) 0
run_from sys steps zero word (Choosing s) = Ended (record { kind = ChoiceLimit; output = sys.output s }) 0
run_from sys steps (suc choices) [] (Choosing s) = Wants (those_below sys.processes (may sys s))
run_from sys steps (suc choices) (p ∷ word) (Choosing s) = if may sys s p then later (run_from sys steps choices word (chosen sys steps s p)) else NotReady 0

abbrev pub run : {S : Type 0} → System S → ℕ → ℕ → List ℕ → Answer
run sys choices steps word = run_from sys steps choices word (opened sys steps)
