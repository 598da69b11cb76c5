-- Assertions and invariants: where they are looked at, and what comes of a false one, by computing.
use Rattle.std.specs.Prelude.{◌≡◌, [], ◌∷◌, refl, pos}
use Rattle.cp_meaning.specs.Outcome.{zero_divisor, assertion, invariant}
use Rattle.cp_meaning.specs.Kernel.{local_event, enter_event, delay_event, continue_event, start_event, ended_event, fault_event}
use Rattle.cp_meaning.proofs.Words.{book_discipline, opening}
use Rattle.cp_meaning.proofs.Following.{goes, ending, traced}
use Rattle.cp_meaning.proofs.Counts.{events}
use Rattle.cp_meaning.proofs.Lines.{line_of_error}
use Rattle.cp_meaning.proofs.Signalled.{notifying}
use Rattle.cp_meaning.proofs.worked.AnnotatedPrograms.{assertion_before, assertions_in_order, assertion_with_error, assertion_before_loop, assertion_in_branch, end_of_initial, within_initial, second_invariant, first_invariant, procedure_returns, function_returns, local_returns, local_name_hides, own_delay, before_delay, delay_in_local, before_continue, queue_before, resumed_returns, goes_on_and_returns, calls_before_check, line_of_assertion, line_of_invariant, checked_steps}

-- ---- what programs display, and how they end

-- var x: integer; begin x := 1; "(* assert x = 1 *)" x := 2; display(x); "(* assert x = 1 *)" display(3) end.
pub assertion_before-ends : ending assertion_before ≡ (fault_event assertion, pos 2 ∷ [])
assertion_before-ends = refl

-- var x: integer; begin x := 1; "(* assert x = 2 *)" "(* assert 1 div 0 = 1 *)" display(1) end.
pub assertions_in_order-ends : ending assertions_in_order ≡ (fault_event assertion, [])
assertions_in_order-ends = refl

-- an error in what is said is that error:
-- begin "(* assert 1 div 0 = 1 *)" display(1) end.
pub assertion_with_error-ends : ending assertion_with_error ≡ (fault_event zero_divisor, [])
assertion_with_error-ends = refl

-- before a loop it is looked at once:
-- var x: integer; begin x := 0; "(* assert x = 0 *)" while x < 2 do x := x + 1; display(x) end.
pub assertion_before_loop-ends : ending assertion_before_loop ≡ (ended_event, pos 2 ∷ [])
assertion_before_loop-ends = refl

-- in a branch it is looked at where the branch is taken:
-- var x: integer; begin x := 1; if x = 2 then "(* assert x = 2 *)" display(2) else display(1); if x = 1 then "(* assert x = 2 *)" end.
pub assertion_in_branch-ends : ending assertion_in_branch ≡ (fault_event assertion, pos 1 ∷ [])
assertion_in_branch-ends = refl

-- at the end of an initial statement, and not before:
-- type m = monitor; var n: integer; "(* invariant n = 0 *)" begin n := 1; display(n) end; var x: m; begin init x; display(2) end.
pub end_of_initial-ends : ending end_of_initial ≡ (fault_event invariant, pos 1 ∷ [])
end_of_initial-ends = refl

-- type m = monitor; var n: integer; "(* invariant n = 0 *)" procedure p; begin n := 1 end; begin n := 2; p; n := 0 end; var x: m; begin init x; display(2) end.
pub within_initial-ends : ending within_initial ≡ (ended_event, pos 2 ∷ [])
within_initial-ends = refl

-- each invariant counts, in order of writing:
-- type m = monitor; var n: integer; "(* invariant n < 2 *)" "(* invariant n = 0 *)" begin n := 1 end; var x: m; begin init x end.
pub second_invariant-ends : ending second_invariant ≡ (fault_event invariant, [])
second_invariant-ends = refl

-- type m = monitor; var n: integer; "(* invariant n = 0 *)" "(* invariant 1 div n = 2 *)" begin n := 1 end; var x: m; begin init x end.
pub first_invariant-ends : ending first_invariant ≡ (fault_event invariant, [])
first_invariant-ends = refl

-- where an entry procedure or function returns:
-- type m = monitor; var n: integer; "(* invariant n < 2 *)" procedure entry e; begin n := n + 1; display(n) end; begin n := 0 end; var x: m; begin init x; x.e; x.e; display(3) end.
pub procedure_returns-ends : ending procedure_returns ≡ (fault_event invariant, pos 1 ∷ pos 2 ∷ [])
procedure_returns-ends = refl

-- type c = class; var n: integer; "(* invariant n < 2 *)" function entry f: integer; begin n := n + 1; f := n end; begin n := 0 end; var x: c; begin init x; display(x.f); display(x.f) end.
pub function_returns-ends : ending function_returns ≡ (fault_event invariant, pos 1 ∷ [])
function_returns-ends = refl

-- and not where a local routine does:
-- type m = monitor; var n: integer; "(* invariant n = 0 *)" procedure p; begin n := 1 end; procedure entry e; begin p; n := 0 end; begin n := 0 end; var x: m; begin init x; x.e; display(1) end.
pub local_returns-ends : ending local_returns ≡ (ended_event, pos 1 ∷ [])
local_returns-ends = refl

-- invariants mean the variables of the block, also where a routine has a name for itself:
-- type m = monitor; var n: integer; "(* invariant n = 1 *)" procedure entry e(n: integer); begin display(n) end; begin n := 1 end; var x: m; begin init x; x.e(2) end.
pub local_name_hides-ends : ending local_name_hides ≡ (ended_event, pos 2 ∷ [])
local_name_hides-ends = refl

-- a routine of the program may be called `delay`, and nothing is looked at before it:
-- type m = monitor; var n: integer; "(* invariant n = 0 *)" procedure delay; begin display(n) end; procedure entry e; begin n := 1; delay; n := 0 end; begin n := 0 end; var x: m; begin init x; x.e end.
pub own_delay-ends : ending own_delay ≡ (ended_event, pos 1 ∷ [])
own_delay-ends = refl

-- ---- traces, with who is inside the monitor

-- before a delay:
-- type m = monitor; var q: queue; n: integer; "(* invariant n = 0 *)" procedure entry hold; begin n := 1; delay(q) end; procedure entry go; begin n := 0 end; begin n := 0 end; a = process(x: m); begin x.hold end; b = process(x: m); begin x.go end; var x: m; r: a; s: b; begin init x, r(x), s(x) end.
pub before_delay-goes :
    traced before_delay (1 ∷ []) (opening before_delay book_discipline) (goes 0 ∷ goes 0 ∷ goes 0 ∷ goes 1 ∷ goes 1 ∷ []) ≡ (
      (
          (start_event, ([] ∷ [])) ∷
          (start_event, ([] ∷ [])) ∷
          (ended_event, ([] ∷ [])) ∷
          (enter_event, ((1 ∷ []) ∷ [])) ∷
          (fault_event invariant, ((1 ∷ []) ∷ [])) ∷
          []),
      [],
    )
before_delay-goes = refl

-- in a local routine too:
-- type m = monitor; var q: queue; n: integer; "(* invariant n = 0 *)" procedure p; begin delay(q) end; procedure entry hold; begin n := 1; p end; procedure entry go; begin n := 0 end; begin n := 0 end; a = process(x: m); begin x.hold end; b = process(x: m); begin x.go end; var x: m; r: a; s: b; begin init x, r(x), s(x) end.
pub delay_in_local-goes :
    traced delay_in_local (1 ∷ []) (opening delay_in_local book_discipline) (goes 0 ∷ goes 0 ∷ goes 0 ∷ goes 1 ∷ goes 1 ∷ []) ≡ (
      (
          (start_event, ([] ∷ [])) ∷
          (start_event, ([] ∷ [])) ∷
          (ended_event, ([] ∷ [])) ∷
          (enter_event, ((1 ∷ []) ∷ [])) ∷
          (fault_event invariant, ((1 ∷ []) ∷ [])) ∷
          []),
      [],
    )
delay_in_local-goes = refl

-- before a continue:
-- type m = monitor; var q: queue; n: integer; "(* invariant n = 0 *)" procedure entry hold; begin n := 0; delay(q); display(n); n := 0 end; procedure entry go; begin n := 1; continue(q) end; begin n := 0 end; a = process(x: m); begin x.hold end; b = process(x: m); begin x.go end; var x: m; r: a; s: b; begin init x, r(x), s(x) end.
pub before_continue-goes :
    traced before_continue (1 ∷ []) (opening before_continue book_discipline) (goes 0 ∷ goes 0 ∷ goes 0 ∷ goes 1 ∷ goes 1 ∷ goes 2 ∷ goes 2 ∷ []) ≡ (
      (
          (start_event, ([] ∷ [])) ∷
          (start_event, ([] ∷ [])) ∷
          (ended_event, ([] ∷ [])) ∷
          (enter_event, ((1 ∷ []) ∷ [])) ∷
          (delay_event, ([] ∷ [])) ∷
          (enter_event, ((2 ∷ []) ∷ [])) ∷
          (fault_event invariant, ((2 ∷ []) ∷ [])) ∷
          []),
      [],
    )
before_continue-goes = refl

-- each sees the queue as it is before: empty at the delay, and not at the continue that resumes somebody:
-- type m = monitor; var q: queue; n: integer; "(* invariant empty(q) *)" procedure entry hold; begin delay(q) end; procedure entry go; begin continue(q) end; begin n := 0 end; a = process(x: m); begin x.hold end; b = process(x: m); begin x.go end; var x: m; r: a; s: b; begin init x, r(x), s(x) end.
pub queue_before-goes :
    traced queue_before (1 ∷ []) (opening queue_before book_discipline) (goes 0 ∷ goes 0 ∷ goes 0 ∷ goes 1 ∷ goes 1 ∷ goes 2 ∷ goes 2 ∷ []) ≡ (
      (
          (start_event, ([] ∷ [])) ∷
          (start_event, ([] ∷ [])) ∷
          (ended_event, ([] ∷ [])) ∷
          (enter_event, ((1 ∷ []) ∷ [])) ∷
          (delay_event, ([] ∷ [])) ∷
          (enter_event, ((2 ∷ []) ∷ [])) ∷
          (fault_event invariant, ((2 ∷ []) ∷ [])) ∷
          []),
      [],
    )
queue_before-goes = refl

-- at the return of who was resumed:
-- type m = monitor; var q: queue; n: integer; "(* invariant n = 0 *)" procedure entry hold; begin delay(q); n := 2 end; procedure entry go; begin continue(q) end; begin n := 0 end; a = process(x: m); begin x.hold end; b = process(x: m); begin x.go end; var x: m; r: a; s: b; begin init x, r(x), s(x) end.
pub resumed_returns-goes :
    traced resumed_returns (1 ∷ []) (opening resumed_returns book_discipline) (goes 0 ∷ goes 0 ∷ goes 0 ∷ goes 1 ∷ goes 1 ∷ goes 2 ∷ goes 2 ∷ goes 1 ∷ []) ≡ (
      (
          (start_event, ([] ∷ [])) ∷
          (start_event, ([] ∷ [])) ∷
          (ended_event, ([] ∷ [])) ∷
          (enter_event, ((1 ∷ []) ∷ [])) ∷
          (delay_event, ([] ∷ [])) ∷
          (enter_event, ((2 ∷ []) ∷ [])) ∷
          (continue_event, ((1 ∷ []) ∷ [])) ∷
          (fault_event invariant, ((1 ∷ []) ∷ [])) ∷
          []),
      [],
    )
resumed_returns-goes = refl

-- at the return of a caller that goes on:
-- type m = monitor; var q: queue; n: integer; "(* invariant n = 0 *)" procedure entry hold; begin delay(q) end; procedure entry go; begin continue(q); n := 1 end; begin n := 0 end; a = process(x: m); begin x.hold end; b = process(x: m); begin x.go end; var x: m; r: a; s: b; begin init x, r(x), s(x) end.
pub goes_on_and_returns-goes :
    traced goes_on_and_returns (1 ∷ []) (opening goes_on_and_returns notifying) (goes 0 ∷ goes 0 ∷ goes 0 ∷ goes 1 ∷ goes 1 ∷ goes 2 ∷ goes 2 ∷ goes 2 ∷ []) ≡ (
      (
          (start_event, ([] ∷ [])) ∷
          (start_event, ([] ∷ [])) ∷
          (ended_event, ([] ∷ [])) ∷
          (enter_event, ((1 ∷ []) ∷ [])) ∷
          (delay_event, ([] ∷ [])) ∷
          (enter_event, ((2 ∷ []) ∷ [])) ∷
          (continue_event, ((2 ∷ []) ∷ [])) ∷
          (fault_event invariant, ((2 ∷ []) ∷ [])) ∷
          []),
      [],
    )
goes_on_and_returns-goes = refl

-- behind the function calls of the queue's index:
-- type m = monitor; var q: array [1..2] of queue; n: integer; "(* invariant n = 0 *)" function f(i: integer): integer; begin n := 0; f := i end; procedure entry hold; begin n := 1; delay(q[f(1)]) end; begin n := 0 end; a = process(x: m); begin x.hold end; var x: m; r: a; begin init x, r(x) end.
pub calls_before_check-goes :
    traced calls_before_check (1 ∷ []) (opening calls_before_check book_discipline) (goes 0 ∷ goes 0 ∷ goes 1 ∷ goes 1 ∷ []) ≡ (
      (
          (start_event, ([] ∷ [])) ∷
          (ended_event, ([] ∷ [])) ∷
          (enter_event, ((1 ∷ []) ∷ [])) ∷
          (delay_event, ([] ∷ [])) ∷
          []),
      [],
    )
calls_before_check-goes = refl

-- ---- lines: that in which what is false begins

-- begin "(* assert\n1 =\n2 *)"\ndisplay(1) end.
pub line_of_assertion-is : line_of_error line_of_assertion (1 ∷ 1 ∷ 2 ∷ 2 ∷ 3 ∷ 3 ∷ 4 ∷ 4 ∷ 4 ∷ 4 ∷ 4 ∷ 4 ∷ []) ≡ 2
line_of_assertion-is = refl

-- type m = monitor; var n: integer;\n"(* invariant n < 2 *)"\n"(* invariant\nn = 0 *)" begin n := 1 end; var x: m; begin init x end.
pub line_of_invariant-is : line_of_error line_of_invariant (1 ∷ 1 ∷ 1 ∷ 1 ∷ 1 ∷ 1 ∷ 1 ∷ 1 ∷ 1 ∷ 1 ∷ 2 ∷ 2 ∷ 2 ∷ 2 ∷ 2 ∷ 3 ∷ 4 ∷ 4 ∷ 4 ∷ 4 ∷ 4 ∷ 4 ∷ 4 ∷ 4 ∷ 4 ∷ 4 ∷ 4 ∷ 4 ∷ 4 ∷ 4 ∷ 4 ∷ 4 ∷ 4 ∷ 4 ∷ 4 ∷ 4 ∷ []) ≡ 4
line_of_invariant-is = refl

-- ---- steps

-- a check is a local step for each invariant and three more: the call, the empty statement, the return:
-- type m = monitor; var n: integer; "(* invariant n = 0 *)" "(* invariant n < 2 *)" begin n := 0 end; var x: m; begin init x end.
pub checked_steps-are : events checked_steps (opening checked_steps book_discipline) (0 ∷ 0 ∷ 0 ∷ 0 ∷ 0 ∷ 0 ∷ 0 ∷ 0 ∷ 0 ∷ []) ≡ local_event ∷ local_event ∷ local_event ∷ local_event ∷ local_event ∷ local_event ∷ local_event ∷ local_event ∷ ended_event ∷ []
checked_steps-are = refl
