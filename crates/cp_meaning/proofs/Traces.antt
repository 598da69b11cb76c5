-- The kernel calls of programs, with who is inside each monitor after them, by computing.
use Rattle.std.specs.Prelude.{◌≡◌, [], ◌∷◌, refl, pos}
use Rattle.cp_meaning.specs.Outcome.{queue_in_use, init_twice}
use Rattle.cp_meaning.proofs.Words.{book_discipline, by_gates, any_gates, opening}
use Rattle.cp_meaning.specs.Kernel.{local_event, enter_event, leave_event, delay_event, continue_event, start_event, display_event, ended_event, fault_event}
use Rattle.cp_meaning.proofs.Following.{goes, goes_in, traced}
use Rattle.cp_meaning.proofs.worked.TracedPrograms.{inner_delay_keeps_outer, buffer_trace, queue_used, continue_admits_line, resumed_before_line, admits_third, start_order, unseen_variable, waits_in_other_monitor, array_of_processes, started_twice}

-- type inner = monitor; var q: queue; procedure entry hold; begin delay(q) end; procedure entry free; begin continue(q) end; begin end; outer = monitor(i: inner); procedure entry go; begin i.hold end; begin end; a = process(o: outer); begin o.go end; b = process(i: inner); begin i.free end; var i: inner; o: outer; p, r: a; s: b; begin init i, o(i), p(o), r(o), s(i) end.
pub inner_delay_keeps_outer-goes :
    traced inner_delay_keeps_outer (1 ∷ 2 ∷ []) (opening inner_delay_keeps_outer book_discipline) (goes 0 ∷ goes 0 ∷ goes 0 ∷ goes 0 ∷ goes 1 ∷ goes 1 ∷ goes 1 ∷ goes 2 ∷ goes 3 ∷ goes 3 ∷ goes 1 ∷ goes 1 ∷ goes 3 ∷ goes 1 ∷ goes 2 ∷ goes 2 ∷ []) ≡ (
      (
          (start_event, ([] ∷ [] ∷ [])) ∷
          (start_event, ([] ∷ [] ∷ [])) ∷
          (start_event, ([] ∷ [] ∷ [])) ∷
          (ended_event, ([] ∷ [] ∷ [])) ∷
          (enter_event, ([] ∷ (1 ∷ []) ∷ [])) ∷
          (enter_event, ((1 ∷ []) ∷ (1 ∷ []) ∷ [])) ∷
          (delay_event, ([] ∷ (1 ∷ []) ∷ [])) ∷
          (enter_event, ([] ∷ (1 ∷ []) ∷ [])) ∷
          (enter_event, ((3 ∷ []) ∷ (1 ∷ []) ∷ [])) ∷
          (continue_event, ((1 ∷ []) ∷ (1 ∷ []) ∷ [])) ∷
          (leave_event, ([] ∷ (1 ∷ []) ∷ [])) ∷
          (leave_event, ([] ∷ (2 ∷ []) ∷ [])) ∷
          (ended_event, ([] ∷ (2 ∷ []) ∷ [])) ∷
          (ended_event, ([] ∷ (2 ∷ []) ∷ [])) ∷
          (enter_event, ((2 ∷ []) ∷ (2 ∷ []) ∷ [])) ∷
          (delay_event, ([] ∷ (2 ∷ []) ∷ [])) ∷
          []),
      [],
    )
inner_delay_keeps_outer-goes = refl

-- type buffer = monitor; var full: boolean; slot: integer; sender, receiver: queue; procedure entry put(x: integer); begin if full then delay(sender); slot := x; full := true; continue(receiver) end; procedure entry get(var x: integer); begin if not full then delay(receiver); x := slot; full := false; continue(sender) end; begin full := false end; producer = process(b: buffer); begin b.put(7) end; consumer = process(b: buffer); var v: integer; begin b.get(v); display(v) end; var b: buffer; p: producer; c: consumer; begin init b, p(b), c(b) end.
pub buffer_trace-goes :
    traced buffer_trace (1 ∷ []) (opening buffer_trace book_discipline) (goes 0 ∷ goes 0 ∷ goes 0 ∷ goes 2 ∷ goes 2 ∷ goes 1 ∷ goes 1 ∷ goes 1 ∷ goes 2 ∷ goes 2 ∷ goes 2 ∷ []) ≡ (
      (
          (start_event, ([] ∷ [])) ∷
          (start_event, ([] ∷ [])) ∷
          (ended_event, ([] ∷ [])) ∷
          (enter_event, ((2 ∷ []) ∷ [])) ∷
          (delay_event, ([] ∷ [])) ∷
          (enter_event, ((1 ∷ []) ∷ [])) ∷
          (continue_event, ((2 ∷ []) ∷ [])) ∷
          (ended_event, ((2 ∷ []) ∷ [])) ∷
          (continue_event, ([] ∷ [])) ∷
          (display_event, ([] ∷ [])) ∷
          (ended_event, ([] ∷ [])) ∷
          []),
      pos 7 ∷ [],
    )
buffer_trace-goes = refl

-- type m = monitor; var q: queue; procedure entry hold; begin delay(q) end; begin end; p = process(x: m); begin x.hold end; var x: m; a, b: p; begin init x, a(x), b(x) end.
pub queue_used-goes :
    traced queue_used (1 ∷ []) (opening queue_used book_discipline) (goes 0 ∷ goes 0 ∷ goes 0 ∷ goes 1 ∷ goes 1 ∷ goes 2 ∷ goes 2 ∷ []) ≡ (
      (
          (start_event, ([] ∷ [])) ∷
          (start_event, ([] ∷ [])) ∷
          (ended_event, ([] ∷ [])) ∷
          (enter_event, ((1 ∷ []) ∷ [])) ∷
          (delay_event, ([] ∷ [])) ∷
          (enter_event, ((2 ∷ []) ∷ [])) ∷
          (fault_event queue_in_use, ((2 ∷ []) ∷ [])) ∷
          []),
      [],
    )
queue_used-goes = refl

-- type m = monitor; var q: queue; procedure entry go(n: integer); begin display(n); continue(q) end; begin end; p = process(x: m; n: integer); begin x.go(n) end; var x: m; a, b: p; begin init x, a(x, 1), b(x, 2) end.
pub continue_admits_line-goes :
    traced continue_admits_line (1 ∷ []) (opening continue_admits_line book_discipline) (goes 0 ∷ goes 0 ∷ goes 0 ∷ goes 1 ∷ goes 2 ∷ goes 1 ∷ goes 1 ∷ goes 2 ∷ goes 1 ∷ goes 2 ∷ goes 2 ∷ []) ≡ (
      (
          (start_event, ([] ∷ [])) ∷
          (start_event, ([] ∷ [])) ∷
          (ended_event, ([] ∷ [])) ∷
          (enter_event, ((1 ∷ []) ∷ [])) ∷
          (enter_event, ((1 ∷ []) ∷ [])) ∷
          (display_event, ((1 ∷ []) ∷ [])) ∷
          (continue_event, ((2 ∷ []) ∷ [])) ∷
          (display_event, ((2 ∷ []) ∷ [])) ∷
          (ended_event, ((2 ∷ []) ∷ [])) ∷
          (continue_event, ([] ∷ [])) ∷
          (ended_event, ([] ∷ [])) ∷
          []),
      pos 1 ∷ pos 2 ∷ [],
    )
continue_admits_line-goes = refl

-- type m = monitor; var q: queue; procedure entry hold; begin delay(q); display(1) end; procedure entry go; begin display(2); continue(q) end; procedure entry look; begin display(3) end; begin end; a = process(x: m); begin x.hold end; b = process(x: m); begin x.go end; c = process(x: m); begin x.look end; var x: m; r: a; s: b; t: c; begin init x, r(x), s(x), t(x) end.
pub resumed_before_line-goes :
    traced resumed_before_line (1 ∷ []) (opening resumed_before_line book_discipline) (goes 0 ∷ goes 0 ∷ goes 0 ∷ goes 0 ∷ goes 1 ∷ goes 1 ∷ goes 2 ∷ goes 3 ∷ goes 2 ∷ goes 2 ∷ goes 1 ∷ goes 1 ∷ goes 3 ∷ goes 3 ∷ goes 1 ∷ goes 2 ∷ goes 3 ∷ []) ≡ (
      (
          (start_event, ([] ∷ [])) ∷
          (start_event, ([] ∷ [])) ∷
          (start_event, ([] ∷ [])) ∷
          (ended_event, ([] ∷ [])) ∷
          (enter_event, ((1 ∷ []) ∷ [])) ∷
          (delay_event, ([] ∷ [])) ∷
          (enter_event, ((2 ∷ []) ∷ [])) ∷
          (enter_event, ((2 ∷ []) ∷ [])) ∷
          (display_event, ((2 ∷ []) ∷ [])) ∷
          (continue_event, ((1 ∷ []) ∷ [])) ∷
          (display_event, ((1 ∷ []) ∷ [])) ∷
          (leave_event, ((3 ∷ []) ∷ [])) ∷
          (display_event, ((3 ∷ []) ∷ [])) ∷
          (leave_event, ([] ∷ [])) ∷
          (ended_event, ([] ∷ [])) ∷
          (ended_event, ([] ∷ [])) ∷
          (ended_event, ([] ∷ [])) ∷
          []),
      pos 2 ∷ pos 1 ∷ pos 3 ∷ [],
    )
resumed_before_line-goes = refl

-- type m = monitor; var q: queue; procedure entry go(n: integer); begin display(n); continue(q) end; begin end; p = process(x: m; n: integer); begin x.go(n) end; var x: m; a, b, c: p; begin init x, a(x, 1), b(x, 2), c(x, 3) end.
pub admits_third-goes :
    traced admits_third (1 ∷ []) (opening admits_third (by_gates any_gates)) (goes 0 ∷ goes 0 ∷ goes 0 ∷ goes 0 ∷ goes 1 ∷ goes 2 ∷ goes 3 ∷ goes 1 ∷ goes 1 ∷ goes_in 3 ∷ goes 3 ∷ goes 3 ∷ goes 2 ∷ goes 2 ∷ goes 1 ∷ goes 2 ∷ goes 3 ∷ []) ≡ (
      (
          (start_event, ([] ∷ [])) ∷
          (start_event, ([] ∷ [])) ∷
          (start_event, ([] ∷ [])) ∷
          (ended_event, ([] ∷ [])) ∷
          (enter_event, ((1 ∷ []) ∷ [])) ∷
          (enter_event, ((1 ∷ []) ∷ [])) ∷
          (enter_event, ((1 ∷ []) ∷ [])) ∷
          (display_event, ((1 ∷ []) ∷ [])) ∷
          (continue_event, ([] ∷ [])) ∷
          (local_event, ((3 ∷ []) ∷ [])) ∷
          (display_event, ((3 ∷ []) ∷ [])) ∷
          (continue_event, ((2 ∷ []) ∷ [])) ∷
          (display_event, ((2 ∷ []) ∷ [])) ∷
          (continue_event, ([] ∷ [])) ∷
          (ended_event, ([] ∷ [])) ∷
          (ended_event, ([] ∷ [])) ∷
          (ended_event, ([] ∷ [])) ∷
          []),
      pos 1 ∷ pos 3 ∷ pos 2 ∷ [],
    )
admits_third-goes = refl

-- the same, where process 2 is admitted
pub admits_second-goes :
    traced admits_third (1 ∷ []) (opening admits_third (by_gates any_gates)) (goes 0 ∷ goes 0 ∷ goes 0 ∷ goes 0 ∷ goes 1 ∷ goes 2 ∷ goes 3 ∷ goes 1 ∷ goes 1 ∷ goes_in 2 ∷ goes 2 ∷ goes 2 ∷ goes 3 ∷ goes 3 ∷ goes 1 ∷ goes 2 ∷ goes 3 ∷ []) ≡ (
      (
          (start_event, ([] ∷ [])) ∷
          (start_event, ([] ∷ [])) ∷
          (start_event, ([] ∷ [])) ∷
          (ended_event, ([] ∷ [])) ∷
          (enter_event, ((1 ∷ []) ∷ [])) ∷
          (enter_event, ((1 ∷ []) ∷ [])) ∷
          (enter_event, ((1 ∷ []) ∷ [])) ∷
          (display_event, ((1 ∷ []) ∷ [])) ∷
          (continue_event, ([] ∷ [])) ∷
          (local_event, ((2 ∷ []) ∷ [])) ∷
          (display_event, ((2 ∷ []) ∷ [])) ∷
          (continue_event, ((3 ∷ []) ∷ [])) ∷
          (display_event, ((3 ∷ []) ∷ [])) ∷
          (continue_event, ([] ∷ [])) ∷
          (ended_event, ([] ∷ [])) ∷
          (ended_event, ([] ∷ [])) ∷
          (ended_event, ([] ∷ [])) ∷
          []),
      pos 1 ∷ pos 2 ∷ pos 3 ∷ [],
    )
admits_second-goes = refl

-- type k = class; begin display(1) end; p = process(n: integer); begin end; var x: k; a: p; function f: integer; begin display(2) end; begin init x, a(f) end.
pub start_order-goes :
    traced start_order ([]) (opening start_order book_discipline) (goes 0 ∷ goes 0 ∷ goes 0 ∷ goes 0 ∷ goes 1 ∷ []) ≡ (
      (
          (display_event, ([])) ∷
          (display_event, ([])) ∷
          (start_event, ([])) ∷
          (ended_event, ([])) ∷
          (ended_event, ([])) ∷
          []),
      pos 1 ∷ pos 2 ∷ [],
    )
start_order-goes = refl

-- var display: integer; type p = process; begin display(1) end; var a: p; begin init a end.
pub unseen_variable-goes :
    traced unseen_variable ([]) (opening unseen_variable book_discipline) (goes 0 ∷ goes 0 ∷ goes 1 ∷ goes 1 ∷ []) ≡ (
      (
          (start_event, ([])) ∷
          (ended_event, ([])) ∷
          (display_event, ([])) ∷
          (ended_event, ([])) ∷
          []),
      pos 1 ∷ [],
    )
unseen_variable-goes = refl

-- type m = monitor; var q: queue; procedure entry h; begin delay(q) end; begin end; n = monitor(x: m); begin x.h end; var a: m; b: n; begin init a, b(a) end.
pub waits_in_other_monitor-goes :
    traced waits_in_other_monitor (1 ∷ 2 ∷ []) (opening waits_in_other_monitor book_discipline) (goes 0 ∷ goes 0 ∷ []) ≡ (
      (
          (enter_event, ((0 ∷ []) ∷ [] ∷ [])) ∷
          (delay_event, ([] ∷ [] ∷ [])) ∷
          []),
      [],
    )
waits_in_other_monitor-goes = refl

-- type p = process(n: integer); begin display(n) end; var a: array [1..2] of p; begin init a[2](2), a[1](1) end.
pub array_of_processes-goes :
    traced array_of_processes ([]) (opening array_of_processes book_discipline) (goes 0 ∷ goes 0 ∷ goes 0 ∷ goes 1 ∷ goes 2 ∷ goes 1 ∷ goes 2 ∷ []) ≡ (
      (
          (start_event, ([])) ∷
          (start_event, ([])) ∷
          (ended_event, ([])) ∷
          (display_event, ([])) ∷
          (display_event, ([])) ∷
          (ended_event, ([])) ∷
          (ended_event, ([])) ∷
          []),
      pos 1 ∷ pos 2 ∷ [],
    )
array_of_processes-goes = refl

-- type p = process; begin end; var a: p; begin init a, a end.
pub started_twice-goes :
    traced started_twice ([]) (opening started_twice book_discipline) (goes 0 ∷ goes 0 ∷ []) ≡ (
      (
          (start_event, ([])) ∷
          (fault_event init_twice, ([])) ∷
          []),
      [],
    )
started_twice-goes = refl
