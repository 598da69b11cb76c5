-- What is said of the end of a run: the names that a trace has for it, and the words of a lecture.
use Rattle.std.specs.Prelude.{ℕ, List, [], ◌++◌, ◌==◌, if◌then◌else◌, length, Option, Some, None, codes}
use Rattle.cp_legend.specs.Names.{Legend}
use Rattle.cp_machine.specs.declared.shown.Shown.{Shown}
use Rattle.cp_run.specs.declared.outcome.OutcomeKind.{OutcomeKind}
use Rattle.cp_run.specs.declared.outcome.OutcomeKind.TheVariants.{Finished, AllWaiting, RunError, ChoiceLimit, StepLimit, OutputLimit}
use Rattle.cp_run.specs.Run.{Answer, Ended, Wants, NotReady}
use Rattle.cp_store.specs.declared.error.ErrorName.{ErrorName}
use Rattle.cp_store.specs.declared.error.ErrorName.TheVariants.{Overflow, ZeroDivisor, Range, NoCase, QueueInUse, NotInit, InitTwice, Assertion, Invariant}
use Rattle.cp_story.specs.Joined.{joined}
use Rattle.cp_story.specs.Sentences.{alternatives_text, refused_text, shown_text}
use Rattle.cp_story.specs.Story.{Decision}

-- ---- as the trace has it

abbrev pub error_name : ErrorName → List ℕ
error_name Overflow = codes "overflow"
error_name ZeroDivisor = codes "zero-divisor"
error_name Range = codes "range"
error_name NoCase = codes "no-case"
error_name QueueInUse = codes "queue-in-use"
error_name NotInit = codes "not-init"
error_name InitTwice = codes "init-twice"
error_name Assertion = codes "assertion"
error_name Invariant = codes "invariant"

abbrev pub kind_name : OutcomeKind → List ℕ
kind_name Finished = codes "finished"
kind_name AllWaiting = codes "all-waiting"
kind_name (RunError name process line) = codes "run-error"
kind_name ChoiceLimit = codes "choice-limit"
kind_name StepLimit = codes "step-limit"
kind_name OutputLimit = codes "output-limit"

-- the displayed values with a blank between each two, or a hyphen
abbrev pub output_text : Legend → List Shown → List ℕ
output_text l values = if length values == 0 then codes "-" else joined [] (codes " ") (shown_text l) values

-- ---- in the words of a lecture

abbrev pub error_phrase : ErrorName → List ℕ
error_phrase Overflow = codes "run error: a number out of reach"
error_phrase ZeroDivisor = codes "run error: division by zero"
error_phrase Range = codes "run error: a value out of its range"
error_phrase NoCase = codes "run error: no case for the value"
error_phrase QueueInUse = codes "run error: a second process in a queue"
error_phrase NotInit = codes "run error: used before its init"
error_phrase InitTwice = codes "run error: a second init"
error_phrase Assertion = codes "breaks an assertion"
error_phrase Invariant = codes "breaks an invariant"

abbrev pub kind_phrase : OutcomeKind → List ℕ
kind_phrase Finished = codes "all have ended"
kind_phrase AllWaiting = codes "deadlock: all wait"
kind_phrase (RunError name process line) = error_phrase name
kind_phrase ChoiceLimit = codes "goes on: the limit of choices"
kind_phrase StepLimit = codes "no end in sight: the limit of steps"
kind_phrase OutputLimit = codes "goes on: the limit of displayed values"

-- who can't be chosen
abbrev pub refused_phrase : (last : Option Decision) → List ℕ
refused_phrase None = codes "no such choice"
refused_phrase (Some d) = refused_text d

-- how a run ends, or who can be chosen next, or why the number of the last choice can't be taken
abbrev pub end_text : Answer → (last : Option Decision) → List ℕ
end_text (Ended outcome used) last = kind_phrase outcome.kind
end_text (Wants ready) last = codes "to be chosen next: " ++ alternatives_text ready
end_text (NotReady place) last = refused_phrase last
