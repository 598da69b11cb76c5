-- Steps, admissions, and the states that are reached (this profile's own).
use Rattle.std.specs.Prelude.{◌≡◌, ℕ, suc, ◌<◌, ◌==◌, true, if◌then◌else◌, List, [], ◌∷◌, ◌++◌, map, length, Option, Some, None, Ok, Err, slice_index}
use Rattle.cp_tree.specs.declared.declaration.SystemKind.{SystemKind}
use Rattle.cp_tree.specs.declared.declaration.SystemKind.TheVariants as system_kind
use Rattle.cp_tree.specs.Syntax.{Expression, alone, related, Designator, designator, Statement, empty, assign, invoke, block, if_then, if_else, case_of, while_do, repeat_until, for_do, cycle, init, asserted, Program, Tree}
use Rattle.cp_meaning.specs.Outcome.{Outcome}
use Rattle.cp_meaning.specs.Values.{is_member}
use Rattle.cp_meaning.specs.Declarations.{Variable, Parameter}
use Rattle.cp_meaning.specs.Systems.{SystemMeaning, system_of}
use Rattle.cp_meaning.specs.Components.{Listed, components_of}
use Rattle.cp_meaning.specs.State.{Environment, uninitialised, Component, Item, statement_item, function_call, start_item, until, successor, return, init_end, end, unstarted, ready, Process, process_at, Discipline, State}
use Rattle.cp_meaning.specs.Places.{View}
use Rattle.cp_meaning.specs.Calls.{least_of}
use Rattle.cp_meaning.specs.Move.{Doing}
use Rattle.cp_meaning.specs.LocalRules.{takes}
use Rattle.cp_meaning.specs.Kernel.{fault_event, Stepped, with_line_of, with_pending, made_ready, line_of, begun, kernel_step}

-- ---- the opening state

-- parameters as variables
abbrev pub parameter_variables : List Parameter → List Variable
parameter_variables qs = map (λ q. (let v : Variable = record { name = q.name; ty = q.ty } in v)) qs

-- Least values, for the parameters that are values too. Nothing of a component runs before its start has bound them, so no program sees these.
abbrev pub first_environment : SystemMeaning → Environment
first_environment m = least_of (parameter_variables m.parameters) ++ least_of m.variables

-- uninitialised, with least values and an empty line
abbrev pub first_component : Program → Listed → Component
first_component p l =
    record {
      path = l.path;
      system = l.system;
      kind = (system_of p l.system).kind;
      status = uninitialised;
      environment = first_environment (system_of p l.system);
      line = [];
    }

-- the processes among the components from the number n on
abbrev pub unstarted_process : ℕ → Process
unstarted_process n = record { component = n; status = unstarted; calls = []; items = [] }

abbrev pub process_first : SystemKind → ℕ → List Process → List Process
process_first system_kind.Process n ps = unstarted_process n ∷ ps
process_first system_kind.Class n ps = ps
process_first system_kind.Monitor n ps = ps

abbrev pub processes_from : ℕ → List Component → List Process
processes_from n [] = []
processes_from n (c ∷ cs) = process_first c.kind n (processes_from (suc n) cs)

-- the program itself runs from the start
abbrev pub own_begun : Program → List Component → List Process → List Process
own_begun p (c ∷ cs) (q ∷ ps) = begun 0 (system_of p c.system) ∷ ps
own_begun p cs ps = ps

-- the components before the first step
abbrev pub first_components : Program → List Component
first_components p = map (first_component p) (components_of p)

-- the state in which a run begins: process 0 is ready, all others are unstarted
abbrev pub opening : Program → Discipline → State
opening p g = record { processes = own_begun p (first_components p) (processes_from 0 (first_components p)); components = first_components p; output = []; discipline = g; pending = None }

-- ---- one step

-- what the step of a process reads
abbrev pub view_of : Program → State → ℕ → View
view_of p s pid = record { program = p; calls = (process_at s.processes pid).calls; components = s.components }

-- what the item did, and then what the kernel does; after a run error the state is as it was
abbrev pub settled : Program → State → ℕ → Outcome Doing → Stepped
settled p s pid (Ok d) = kernel_step p s pid d d.move
settled p s pid (Err e) = record { state = s; event = fault_event e }

-- one step of a process that is ready, where nothing is pending
abbrev pub step_of : Program → State → ℕ → Stepped
step_of p s pid = settled p s pid (takes (view_of p s pid) pid (process_at s.processes pid).items)

-- ---- the line of an item: that of its first token

abbrev pub at_expression : Expression → ℕ
at_expression (alone at a) = at
at_expression (related at a r b) = at

abbrev pub at_statement : Statement → ℕ
at_statement (empty at) = at
at_statement (assign at d e) = at
at_statement (invoke at d es) = at
at_statement (block at ss) = at
at_statement (if_then at e s) = at
at_statement (if_else at e s t) = at
at_statement (case_of at e as' b) = at
at_statement (while_do at e s) = at
at_statement (repeat_until at ss e) = at
at_statement (for_do at i e d f s) = at
at_statement (cycle at ss) = at
at_statement (init at ts) = at
at_statement (asserted at k e s) = at

abbrev pub at_designator : Designator → ℕ
at_designator (designator i ss) = i.at

abbrev pub at_item : Item → ℕ
at_item (statement_item s) = at_statement s
at_item (function_call at d es) = at
at_item (start_item t) = at_designator t.target
at_item (until ss e) = at_expression e
at_item (successor at i z d b s) = at
at_item (return o) = 0
at_item (init_end m) = 0
at_item end = 0

abbrev pub at_items : List Item → ℕ
at_items [] = 0
at_items (i ∷ items) = at_item i

-- the line that a run error of the process names
abbrev pub line_at : Tree → State → ℕ → ℕ
line_at t s pid = slice_index t.lines (at_items (process_at s.processes pid).items)

-- ---- admission of a process of a line, under the gates Any

abbrev pub without : ℕ → List ℕ → List ℕ
without q [] = []
without q (r ∷ line) = if r == q then line else r ∷ without q line

abbrev pub admitted_to : Option ℕ → State → ℕ → State
admitted_to None s q = s
admitted_to (Some m) s q = with_pending (with_line_of (made_ready s q) m (without q (line_of s m))) None

-- the process goes in and is ready, and nothing is pending
abbrev pub admitted : State → ℕ → State
admitted s q = admitted_to s.pending s q

-- ---- reached states

-- the opening state, what steps of ready processes and admissions lead to, and all of these without what was displayed
pub data IsReached (p : Program) (g : Discipline) : State → Type 0 where
  at_first : IsReached p g (opening p g)
  by_step : (s : State) (pid : ℕ) → IsReached p g s → s.pending ≡ None → pid < length s.processes → (process_at s.processes pid).status ≡ ready → IsReached p g (step_of p s pid).state
  by_admission : (s : State) (m q : ℕ) → IsReached p g s → s.pending ≡ Some m → is_member q (line_of s m) ≡ true → IsReached p g (admitted s q)
  by_forgetting : (s : State) → IsReached p g s → IsReached p g (record s { output = [] })
