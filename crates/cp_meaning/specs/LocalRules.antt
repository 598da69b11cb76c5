-- Local rules: one case for each row of the table of steps (the statements: the book, chapter 8; what one step is: this profile's own).
use Rattle.std.specs.Prelude.{ℕ, ℤ, pos, negsuc, ◌+ℤ◌, int_lt, Bool, false, ◌||◌, if◌then◌else◌, List, [], ◌∷◌, ◌++◌, Option, Some, None, Ok, Err}
use Rattle.cp_tree.specs.declared.constant.Identifier.{Identifier}
use Rattle.cp_tree.specs.declared.constant.Constant.{Constant}
use Rattle.cp_tree.specs.declared.statement.AssertionKind.{AssertionKind}
use Rattle.cp_tree.specs.declared.statement.AssertionKind.TheVariants as said
use Rattle.cp_tree.specs.declared.statement.Direction.{Direction}
use Rattle.cp_tree.specs.declared.statement.Direction.TheVariants.{To, Downto}
use Rattle.cp_tree.specs.declared.declaration.SystemKind.{SystemKind}
use Rattle.cp_tree.specs.declared.declaration.SystemKind.TheVariants as system_kind
use Rattle.cp_tree.specs.Syntax.{Expressions, no_expressions, more_expressions, Designator, Statement, empty, assign, invoke, block, if_then, if_else, case_of, while_do, repeat_until, for_do, cycle, init, asserted, Arms, no_arms, more_arms, arm}
use Rattle.cp_meaning.specs.Names.{Name, temporary, result_name}
use Rattle.cp_meaning.specs.Outcome.{ErrorName, Outcome, ◌>>=◌, no_case, queue_in_use, assertion, invariant}
use Rattle.cp_meaning.specs.Types.{range_of}
use Rattle.cp_meaning.specs.Values.{Value, number_value, queue_value, number_of, waiting_in}
use Rattle.cp_meaning.specs.Scopes.{Meaning, standard_meaning, delay_procedure, continue_procedure, display_procedure, Scope}
use Rattle.cp_meaning.specs.Declarations.{constant_of}
use Rattle.cp_meaning.specs.State.{Place, initialised, Component, component_at, CallKind, entry_routine, Call, current, callers, Item, statement_item, function_call, start_item, until, successor, return, init_end, end, is_entry_kind}
use Rattle.cp_meaning.specs.Places.{View, Target, target_named, value_at, stored, this_call, this_component, plain_place}
use Rattle.cp_meaning.specs.Operations.{Typed, same_integer, is_true, checked}
use Rattle.cp_meaning.specs.Expressions.{value, target_value, first_value, variable_in, meaning_here}
use Rattle.cp_meaning.specs.Lifting.{items_of, items_of_all, until_items}
use Rattle.cp_meaning.specs.Move.{Move, stays, leaves, delays, continues, shows, ends, Doing}
use Rattle.cp_meaning.specs.Calls.{called, started, with_items, passed_over, with_move, with_status}

-- `takes` has one case for each item, `does` one for each statement, and `invoked` one for each standard procedure. Most of them end in `becomes`: other
-- items in place of the first one. A `for` and its successor end alike, in `goes_on_with`. What the kernel then does is the case of the move in `Kernel`.

-- the scope of the statement that is done
abbrev pub scope_here : View → Scope
scope_here v = (current v.calls).scope

-- the items go on, and nothing else changes
abbrev pub becomes : View → List Item → Outcome Doing
becomes v items = Ok (with_items v items)

-- the value in the range of the target; the check comes last
abbrev pub assigned : View → Target → Value → Outcome View
assigned v t w = checked t.ty w >>= λ x. Ok (stored v t.place x)

-- ---- annotations

-- the run error of what is false
abbrev pub broken_as : AssertionKind → ErrorName
broken_as said.Assertion = assertion
broken_as said.Invariant = invariant

-- ---- case: the arm that has the value as a label

-- the value is one of the labels
abbrev pub has_label : Scope → ℤ → List Constant → Bool
has_label s z [] = false
has_label s z (c ∷ cs) = same_integer z (constant_of s c).1 || has_label s z cs

-- the first arm that has the value as a label; none: run error no-case
abbrev pub arm_for : Scope → ℤ → Arms → Outcome Statement
arm_for s z no_arms = Err no_case
arm_for s z (more_arms (arm cs t) as') = if has_label s z cs then Ok t else arm_for s z as'

-- ---- for: whether a is beyond b, and the next value

-- the value has passed the last one
abbrev pub is_beyond : Direction → ℤ → ℤ → Bool
is_beyond To a b = int_lt b a
is_beyond Downto a b = int_lt a b

-- the next value of a `for`
abbrev pub next_value : Direction → ℤ → ℤ
next_value To z = z +ℤ pos 1
next_value Downto z = z +ℤ negsuc 0

-- the variable becomes z; then the statement, and the successor of z
abbrev pub goes_on_with : View → ℕ → Identifier → ℤ → Direction → ℤ → Statement → List Item → Outcome Doing
goes_on_with v at i z d b s items =
    assigned v (target_named v i.name) (number_value z) >>= λ u.
    becomes u (items_of (scope_here v) s ++ successor at i z d b s ∷ items)

-- ---- the standard procedures: `delay`, `continue` and `display`

-- a queue holds at most one process: else run error queue-in-use
abbrev pub queue_free : Option ℕ → Outcome (Option ℕ)
queue_free None = Ok None
queue_free (Some r) = Err queue_in_use

-- the caller waits in the queue, unless another process does
abbrev pub delayed_in : View → ℕ → List Item → Place → Outcome Doing
delayed_in v pid items q =
    queue_free (waiting_in (value_at v q)) >>= λ o.
    Ok (with_move (with_items (stored v q (queue_value (Some pid))) items) (delays (this_component v)))

-- what follows the innermost call
abbrev pub after_return : List Item → List Item
after_return [] = []
after_return (return o ∷ items) = items
after_return (i ∷ items) = after_return items

-- nobody waits in the queue any more; the calls and items are those after the return, and the kernel has those of a caller that goes on
abbrev pub continued_from : View → CallKind → List Item → Place → Doing
continued_from v entry_routine items q =
    let u = stored v q (queue_value None) in
    record { calls = callers u.calls; items = after_return items; components = u.components; move = continues (this_component v) (waiting_in (value_at v q)) u.calls items }
continued_from v kind items q = passed_over v items

-- `display`: the value and its base go to the output
abbrev pub shown : View → List Item → Typed → Doing
shown v items x = with_move (with_items v items) (shows (record { base = (range_of x.ty).base; number = number_of x.value }))

-- where the argument is a variable, as that of `delay` and `continue` always is (C5)
abbrev pub in_place_of : View → Option Designator → (Place → Outcome Doing) → List Item → Outcome Doing
in_place_of v None go items = Ok (passed_over v items)
in_place_of v (Some d) go items = target_value v d >>= λ t. go t.place

-- the variable that is the first argument
abbrev pub argument_of : Expressions → Option Designator
argument_of no_expressions = None
argument_of (more_expressions e es) = variable_in e

-- the standard procedures by their names; else a call
abbrev pub invoked : View → ℕ → Option Meaning → Designator → Expressions → List Item → Outcome Doing
invoked v pid (Some (standard_meaning delay_procedure)) d es items = in_place_of v (argument_of es) (delayed_in v pid items) items
invoked v pid (Some (standard_meaning continue_procedure)) d es items = in_place_of v (argument_of es) (λ q. Ok (continued_from v (current v.calls).kind items q)) items
invoked v pid (Some (standard_meaning display_procedure)) d es items = first_value v es >>= λ x. Ok (shown v items x)
invoked v pid m d es items = called v d es None items

-- ---- statements

-- the statement, with the items after it
abbrev pub does : View → ℕ → Statement → List Item → Outcome Doing
-- empty statement: removed
does v pid (empty at) items = becomes v items
-- assignment: done; the right side first, then the place
does v pid (assign at d e) items = value v e >>= λ x. target_value v d >>= λ t. assigned v t x.value >>= λ u. becomes u items
-- a call as a statement; `delay`, `continue` and `display`
does v pid (invoke at d es) items = invoked v pid (meaning_here v d) d es items
-- `begin S1; ..; Sn end`: becomes S1, .., Sn
does v pid (block at ss) items = becomes v (items_of_all (scope_here v) ss ++ items)
-- `if`: becomes the chosen branch, or nothing
does v pid (if_then at e s) items = value v e >>= λ x. becomes v (if is_true x then items_of (scope_here v) s ++ items else items)
does v pid (if_else at e s t) items = value v e >>= λ x. becomes v (if is_true x then items_of (scope_here v) s ++ items else items_of (scope_here v) t ++ items)
-- `case`: becomes the chosen arm; no label fits: run error no-case
does v pid (case_of at e as' b) items = value v e >>= λ x. arm_for (scope_here v) (number_of x.value) as' >>= λ s. becomes v (items_of (scope_here v) s ++ items)
-- `while e do S`: true: becomes S and itself; false: removed
does v pid (while_do at e s) items = value v e >>= λ x. becomes v (if is_true x then items_of (scope_here v) s ++ items_of (scope_here v) (while_do at e s) ++ items else items)
-- `repeat S1; ..; Sn until e`: becomes S1, .., Sn, until
does v pid (repeat_until at ss e) items = becomes v (items_of_all (scope_here v) ss ++ until_items (scope_here v) ss e ++ items)
-- `for`: both bounds evaluated; the first beyond the second: removed; else assigned, and becomes S, successor
does v pid (for_do at i e d f s) items =
    value v e >>= λ a. value v f >>= λ b.
    if is_beyond d (number_of a.value) (number_of b.value) then becomes v items
    else goes_on_with v at i (number_of a.value) d (number_of b.value) s items
-- `cycle S1; ..; Sn end`: becomes S1, .., Sn and itself
does v pid (cycle at ss) items = becomes v (items_of_all (scope_here v) ss ++ items_of (scope_here v) (cycle at ss) ++ items)
-- an `init` stands for its starts and is no item
does v pid (init at ts) items = Ok (passed_over v items)
-- what is said before a statement: true: becomes the statement; false: that run error
does v pid (asserted at k e s) items = value v e >>= λ x. if is_true x then becomes v (items_of (scope_here v) s ++ items) else Err (broken_as k)

-- ---- the ends of calls and of initial statements

-- the innermost call is given up
abbrev pub outer : View → View
outer v = record { program = v.program; calls = callers v.calls; components = v.components }

-- a function's result is put in its place
abbrev pub with_result : View → Option Name → View
with_result v None = outer v
with_result v (Some x) = stored (outer v) (plain_place (this_call (outer v)) x) (value_at v (plain_place (this_call v) result_name))

-- the return from an entry of a monitor is the kernel call leave
abbrev pub leaving_move : SystemKind → ℕ → Move
leaving_move system_kind.Monitor m = leaves m
leaving_move system_kind.Class m = stays
leaving_move system_kind.Process m = stays

-- the kernel's leave for an entry of a monitor
abbrev pub return_move : List Component → Call → Move
return_move cs c = if is_entry_kind c.kind then leaving_move (component_at cs c.component).kind c.component else stays

-- the call is given up, and the kernel hears of it if it was an entry of a monitor
abbrev pub returned : View → Option Name → List Item → Doing
returned v o items = with_move (with_items (with_result v o) items) (return_move v.components (current v.calls))

-- the component is initialised
abbrev pub finished : View → ℕ → List Item → Doing
finished v m items = record { calls = callers v.calls; items = items; components = with_status v.components m initialised (component_at v.components m).environment; move = stays }

-- ---- items

-- the first remaining item of process pid; one that has ended has none, and takes no step
abbrev pub takes : View → ℕ → List Item → Outcome Doing
takes v pid [] = Ok (passed_over v [])
takes v pid (statement_item s ∷ items) = does v pid s items
-- call of a function, whose result goes to a temporary name
takes v pid (function_call at d es ∷ items) = called v d es (Some (temporary at)) items
-- start of a class, monitor or process
takes v pid (start_item t ∷ items) = started v t items
-- until: true: removed; false: becomes S1, .., Sn, until
takes v pid (until ss e ∷ items) = value v e >>= λ x. becomes v (if is_true x then items else items_of_all (scope_here v) ss ++ until_items (scope_here v) ss e ++ items)
-- successor of z: z is the last value: removed; else assigned, and becomes S, successor
takes v pid (successor at i z d b s ∷ items) = if same_integer z b then becomes v items else goes_on_with v at i (next_value d z) d b s items
-- return: the call is given up, a function's result put in its place
takes v pid (return o ∷ items) = Ok (returned v o items)
-- init end: the component is initialised
takes v pid (init_end m ∷ items) = Ok (finished v m items)
-- end: the process has ended
takes v pid (end ∷ items) = Ok (with_move (with_items v items) ends)
