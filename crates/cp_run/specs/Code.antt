-- What the values of the code stand for.
use Rattle.std.specs.Prelude.{ℕ, ◌+◌, ◌==◌, Bool, true}
use Rattle.cp_run.specs.declared.outcome.Turn.{Turn}
use Rattle.cp_run.specs.declared.outcome.Turn.TheVariants.{Over, Due, Goes}
use Rattle.cp_run.specs.declared.outcome.Halt.{Halt}
use Rattle.cp_run.specs.declared.outcome.Halt.TheVariants.{Choice, Ended as HasEnded}
use Rattle.cp_run.specs.declared.outcome.OutcomeKind.{OutcomeKind}
use Rattle.cp_run.specs.declared.outcome.OutcomeKind.TheVariants.{StepLimit}
use Rattle.cp_run.specs.declared.outcome.RunEnd.{RunEnd}
use Rattle.cp_run.specs.declared.outcome.RunEnd.TheVariants as end
use Rattle.cp_run.specs.Run.{Node, Halted, Choosing, Answer, Ended, Wants, NotReady}

abbrev pub IfGoes : Turn → (ℕ → Type 0) → Type 0
IfGoes (Over kind) P = Unit {0}
IfGoes Due P = Unit {0}
IfGoes (Goes q) P = P q

-- where a stretch that came to the state s stands still
abbrev pub node_of : {S : Type 0} → Halt OutcomeKind → S → Node S
node_of Choice s = Choosing s
node_of (HasEnded kind) s = Halted kind s

-- where a stretch halts that may make no more steps
abbrev pub halt_at : Turn → Halt OutcomeKind
halt_at (Over kind) = HasEnded kind
halt_at Due = Choice
halt_at (Goes q) = HasEnded StepLimit

abbrev pub answer_of : RunEnd → Answer
answer_of (end.Ended outcome used) = Ended outcome used
answer_of (end.Wants ready) = Wants ready.items
answer_of (end.NotReady place) = NotReady place

-- an answer, this many numbers of the word further
abbrev pub further : ℕ → Answer → Answer
further n (Ended outcome used) = Ended outcome (n + used)
further n (Wants ready) = Wants ready
further n (NotReady place) = NotReady (n + place)

-- whether a run is over where its stretch halted, with this many choices left
abbrev pub is_over : ℕ → Halt OutcomeKind → Bool
is_over choices Choice = choices == 0
is_over choices (HasEnded kind) = true
