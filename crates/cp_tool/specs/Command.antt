-- The command of the program as plain data, of which clap says how words are matched.
use Rattle.std.specs.Prelude.{Some, codes, List}
use Rattle.clap.specs.Words.{App, Kinds, Row, Rule, Text, fault_of, matches_of, new_app, new_rule, with_rule}
use Rattle.clap.specs.declared.builder.action.ArgAction.TheVariants.{SetTrue}

-- an option with this long name, which takes a value
abbrev pub valued : Text → Rule
valued name = record (new_rule name) { long = Some name; value_names = 1 }

-- one that takes none
abbrev pub flag : Text → Rule
flag name = record (new_rule name) { long = Some name; action = Some SetTrue }

-- ---- the options, each after those before it

-- how long schedules are, and who explores them
abbrev pub with_limits : App → App
with_limits app = with_rule (with_rule (with_rule (with_rule app (valued (codes "choices"))) (valued (codes "steps"))) (valued (codes "workers"))) (valued (codes "cut"))

-- what is told of all schedules
abbrev pub with_reports : App → App
with_reports app = with_rule (with_rule (with_rule (with_rule (with_rule app (flag (codes "rows"))) (flag (codes "merge"))) (flag (codes "ends"))) (flag (codes "waits"))) (flag (codes "at-once"))

-- how many states there may be, which schedule is traced alone, and who goes on in a monitor
abbrev pub with_rules : App → App
with_rules app = with_rule (with_rule (with_rule (with_rule app (valued (codes "states"))) (valued (codes "schedule"))) (valued (codes "gates"))) (valued (codes "signals"))

abbrev pub cpx : App
cpx = with_rules (with_reports (with_limits (new_app (codes "cpx"))))

-- the matches that the command has on these words
unfoldable pub rows_for : List Text → List Row
rows_for words = matches_of cpx words

-- and the kinds of error that it has on them
unfoldable pub faults_for : List Text → Kinds
faults_for words = fault_of cpx words
