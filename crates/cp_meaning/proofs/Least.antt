-- Variables begin as the least values of their types, and lines are served in order, by computing.
use Rattle.std.specs.Prelude.{◌≡◌, [], ◌∷◌, refl, pos, negsuc}
use Rattle.cp_meaning.proofs.Words.{book_discipline, enter_event, leave_event, delay_event, start_event, display_event, ended_event, opening}
use Rattle.cp_meaning.proofs.Following.{ending, goes, traced}
use Rattle.cp_meaning.proofs.worked.LeastPrograms.{least_of_subrange, sign_of_mod, class_begins_least, monitor_begins_least, local_variables_begin_least, process_begins_least, line_in_order, delay_lets_line_in}

-- var x: 3..5; begin display(x); x := 4; display(x) end.
pub least_of_subrange-ends : ending least_of_subrange ≡ (ended_event, pos 3 ∷ pos 4 ∷ [])
least_of_subrange-ends = refl

-- begin display((-1) mod 2); display(1 mod (-2)); display((-3) mod 2) end.
pub sign_of_mod-ends : ending sign_of_mod ≡ (ended_event, negsuc 0 ∷ pos 1 ∷ negsuc 0 ∷ [])
sign_of_mod-ends = refl

-- type e = (a, b, c); r = record n: 3..5; s: set of e; w: array [1..2] of b..c end; k = class; var x: r; i: 2..4; procedure entry show(j: integer); begin display(x.n); display(x.w[j]); display(x.s = []); display(i) end; begin end; var x: k; begin init x; x.show(2) end.
pub class_begins_least-ends : ending class_begins_least ≡ (ended_event, pos 3 ∷ pos 1 ∷ pos 1 ∷ pos 2 ∷ [])
class_begins_least-ends = refl

-- type m = monitor; var q: array [1..2] of queue; a: array [1..2] of 3..5; procedure entry show; begin display(a[2]); display(empty(q[1])); a[1] := 4; display(a[1]); display(a[2]) end; begin end; var x: m; begin init x; x.show end.
pub monitor_begins_least-ends : ending monitor_begins_least ≡ (ended_event, pos 3 ∷ pos 1 ∷ pos 4 ∷ pos 3 ∷ [])
monitor_begins_least-ends = refl

-- type t = 3..5; var i: integer; procedure p; var x: array [1..2] of t; n: integer; begin display(x[2]); x[2] := 4; display(n); n := 9 end; function f: t; begin end; begin p; p; display(f) end.
pub local_variables_begin_least-ends : ending local_variables_begin_least ≡ (ended_event, pos 3 ∷ pos 0 ∷ pos 3 ∷ pos 0 ∷ pos 3 ∷ [])
local_variables_begin_least-ends = refl

-- type t = 3..5; p = process(n: integer); var x: array [1..2] of t; begin display(x[n]) end; var a: p; begin init a(2) end.
pub process_begins_least-goes :
    traced process_begins_least ([]) (opening process_begins_least book_discipline) (goes 0 ∷ goes 0 ∷ goes 1 ∷ goes 1 ∷ []) ≡ (
      (
          (start_event, ([])) ∷
          (ended_event, ([])) ∷
          (display_event, ([])) ∷
          (ended_event, ([])) ∷
          []),
      pos 3 ∷ [],
    )
process_begins_least-goes = refl

-- type m = monitor; procedure entry go(n: integer); begin display(n) end; begin end; p = process(x: m; n: integer); begin x.go(n) end; var x: m; a, b, c: p; begin init x, a(x, 1), b(x, 2), c(x, 3) end.
pub line_in_order-goes :
    traced line_in_order (1 ∷ []) (opening line_in_order book_discipline) (goes 0 ∷ goes 0 ∷ goes 0 ∷ goes 0 ∷ goes 1 ∷ goes 2 ∷ goes 3 ∷ goes 1 ∷ goes 1 ∷ goes 2 ∷ goes 2 ∷ goes 3 ∷ goes 3 ∷ []) ≡ (
      (
          (start_event, (([]) ∷ [])) ∷
          (start_event, (([]) ∷ [])) ∷
          (start_event, (([]) ∷ [])) ∷
          (ended_event, (([]) ∷ [])) ∷
          (enter_event, ((1 ∷ []) ∷ [])) ∷
          (enter_event, ((1 ∷ []) ∷ [])) ∷
          (enter_event, ((1 ∷ []) ∷ [])) ∷
          (display_event, ((1 ∷ []) ∷ [])) ∷
          (leave_event, ((2 ∷ []) ∷ [])) ∷
          (display_event, ((2 ∷ []) ∷ [])) ∷
          (leave_event, ((3 ∷ []) ∷ [])) ∷
          (display_event, ((3 ∷ []) ∷ [])) ∷
          (leave_event, (([]) ∷ [])) ∷
          []),
      pos 1 ∷ pos 2 ∷ pos 3 ∷ [],
    )
line_in_order-goes = refl

-- type m = monitor; var q: queue; procedure entry hold; begin delay(q) end; procedure entry go(n: integer); begin display(n) end; begin end; a = process(x: m); begin x.hold end; b = process(x: m; n: integer); begin x.go(n) end; var x: m; r: a; s, t: b; begin init x, r(x), s(x, 1), t(x, 2) end.
pub delay_lets_line_in-goes :
    traced delay_lets_line_in (1 ∷ []) (opening delay_lets_line_in book_discipline) (goes 0 ∷ goes 0 ∷ goes 0 ∷ goes 0 ∷ goes 1 ∷ goes 2 ∷ goes 3 ∷ goes 1 ∷ goes 2 ∷ goes 2 ∷ goes 3 ∷ goes 3 ∷ []) ≡ (
      (
          (start_event, (([]) ∷ [])) ∷
          (start_event, (([]) ∷ [])) ∷
          (start_event, (([]) ∷ [])) ∷
          (ended_event, (([]) ∷ [])) ∷
          (enter_event, ((1 ∷ []) ∷ [])) ∷
          (enter_event, ((1 ∷ []) ∷ [])) ∷
          (enter_event, ((1 ∷ []) ∷ [])) ∷
          (delay_event, ((2 ∷ []) ∷ [])) ∷
          (display_event, ((2 ∷ []) ∷ [])) ∷
          (leave_event, ((3 ∷ []) ∷ [])) ∷
          (display_event, ((3 ∷ []) ∷ [])) ∷
          (leave_event, (([]) ∷ [])) ∷
          []),
      pos 1 ∷ pos 2 ∷ [],
    )
delay_lets_line_in-goes = refl
