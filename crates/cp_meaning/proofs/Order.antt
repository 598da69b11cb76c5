-- In which order programs work, by computing.
use Rattle.std.specs.Prelude.{◌≡◌, [], ◌∷◌, refl, pos, negsuc}
use Rattle.cp_meaning.proofs.Words.{overflow, zero_divisor, out_of_range, no_case, not_init, ended_event, fault_event}
use Rattle.cp_meaning.proofs.Following.{ending}
use Rattle.cp_meaning.proofs.worked.OrderPrograms.{targets_index_first, innermost_first, beyond_before_range, first_out_of_range, value_kept_in_item, downwards, last_integer, sign_overflows, least_mod_minus_one, least_div_minus_one, argument_before_not_init, not_init_last, argument_before_init_twice, first_operation, index_where_it_stands, both_operands, element_at_once, calls_before_variables, reference_and_copy, empty_sets_equal, nothing_in_empty_set, whole_array_copied, field_of_element, case_and_loops, class_in_class, continue_in_loop}

-- var a: array [1..2] of integer; function f(n: integer): integer; begin display(n); f := 1 end; begin a[f(1)] := f(2) end.
pub targets_index_first-ends : ending targets_index_first ≡ (ended_event, pos 1 ∷ pos 2 ∷ [])
targets_index_first-ends = refl

-- function f(n: integer): integer; begin display(n); f := n + 1 end; begin display(f(f(1)) + f(5)) end.
pub innermost_first-ends : ending innermost_first ≡ (ended_event, pos 1 ∷ pos 2 ∷ pos 5 ∷ pos 9 ∷ [])
innermost_first-ends = refl

-- var i: 1..2; begin for i := 9 to 3 do end.
pub beyond_before_range-ends : ending beyond_before_range ≡ (ended_event, [])
beyond_before_range-ends = refl

-- var i: 1..2; begin for i := 0 to 3 do end.
pub first_out_of_range-ends : ending first_out_of_range ≡ (fault_event out_of_range, [])
first_out_of_range-ends = refl

-- var i: integer; begin for i := 1 to 3 do begin display(i); i := 7 end; display(i) end.
pub value_kept_in_item-ends : ending value_kept_in_item ≡ (ended_event, pos 1 ∷ pos 2 ∷ pos 3 ∷ pos 7 ∷ [])
value_kept_in_item-ends = refl

-- var i: char; begin for i := 'c' downto 'a' do display(i) end.
pub downwards-ends : ending downwards ≡ (ended_event, pos 99 ∷ pos 98 ∷ pos 97 ∷ [])
downwards-ends = refl

-- begin display(succ(32767)) end.
pub last_integer-ends : ending last_integer ≡ (fault_event out_of_range, [])
last_integer-ends = refl

-- begin display(-(-32767 - 1)) end.
pub sign_overflows-ends : ending sign_overflows ≡ (fault_event overflow, [])
sign_overflows-ends = refl

-- begin display((-32767 - 1) mod (-1)) end.
pub least_mod_minus_one-ends : ending least_mod_minus_one ≡ (ended_event, pos 0 ∷ [])
least_mod_minus_one-ends = refl

-- begin display((-32767 - 1) div (-1)) end.
pub least_div_minus_one-ends : ending least_div_minus_one ≡ (fault_event overflow, [])
least_div_minus_one-ends = refl

-- type s = 1..2; k = class; procedure entry p(n: s); begin end; begin end; var x: array [1..2] of k; begin x[1].p(3) end.
pub argument_before_not_init-ends : ending argument_before_not_init ≡ (fault_event out_of_range, [])
argument_before_not_init-ends = refl

-- type s = 1..2; k = class; procedure entry p(n: s); begin end; begin end; var x: array [1..2] of k; begin x[1].p(2) end.
pub not_init_last-ends : ending not_init_last ≡ (fault_event not_init, [])
not_init_last-ends = refl

-- type s = 1..2; k = class(n: s); begin end; var x: k; begin init x(1), x(1 div 0) end.
pub argument_before_init_twice-ends : ending argument_before_init_twice ≡ (fault_event zero_divisor, [])
argument_before_init_twice-ends = refl

-- var a: array [1..2] of integer; begin display(32767 + 1 + 1 div 0) end.
pub first_operation-ends : ending first_operation ≡ (fault_event overflow, [])
first_operation-ends = refl

-- var a: array [1..2] of integer; begin display(a[3] + 1 div 0) end.
pub index_where_it_stands-ends : ending index_where_it_stands ≡ (fault_event out_of_range, [])
index_where_it_stands-ends = refl

-- var b: boolean; begin b := false and (1 div 0 = 1) end.
pub both_operands-ends : ending both_operands ≡ (fault_event zero_divisor, [])
both_operands-ends = refl

-- begin display(1 in [200, 1 div 0]) end.
pub element_at_once-ends : ending element_at_once ≡ (fault_event out_of_range, [])
element_at_once-ends = refl

-- var n: integer; function f(a: integer): integer; begin n := n + 1; f := a end; begin display(f(n) + f(n) + n) end.
pub calls_before_variables-ends : ending calls_before_variables ≡ (ended_event, pos 3 ∷ [])
calls_before_variables-ends = refl

-- var n: integer; function f(a: integer): integer; begin n := n + a; f := n end; procedure p(var a: integer; b: integer); begin display(a); display(b) end; begin p(n, f(1) + n) end.
pub reference_and_copy-ends : ending reference_and_copy ≡ (ended_event, pos 1 ∷ pos 2 ∷ [])
reference_and_copy-ends = refl

-- begin display([] = []) end.
pub empty_sets_equal-ends : ending empty_sets_equal ≡ (ended_event, pos 1 ∷ [])
empty_sets_equal-ends = refl

-- begin display('a' in []) end.
pub nothing_in_empty_set-ends : ending nothing_in_empty_set ≡ (ended_event, pos 0 ∷ [])
nothing_in_empty_set-ends = refl

-- var a, b: array [1..2] of integer; begin b[2] := 5; a := (b); display(a[2]) end.
pub whole_array_copied-ends : ending whole_array_copied ≡ (ended_event, pos 5 ∷ [])
whole_array_copied-ends = refl

-- type r = record x, y: integer end; var a: array [1..2] of r; procedure p(var v: r); begin v.y := v.y + 3 end; begin a[2].y := 4; p(a[2]); display(a[2].y); display(a[1].y) end.
pub field_of_element-ends : ending field_of_element ≡ (ended_event, pos 7 ∷ pos 0 ∷ [])
field_of_element-ends = refl

-- const two = 2; var i: integer; begin repeat i := i + 1; case i of 1: display('a'); two, 3: display(i) end until i = 3; while i > 0 do i := i - 2; display(i); case i of 1: end end.
pub case_and_loops-ends : ending case_and_loops ≡ (fault_event no_case, pos 97 ∷ pos 2 ∷ pos 3 ∷ negsuc 0 ∷ [])
case_and_loops-ends = refl

-- type k = class(n: integer); var v: integer; procedure entry add(a: integer); begin v := v + a end; function entry sum: integer; begin sum := v + n end; begin v := 10 end; d = class(x: k); procedure entry go; begin x.add(5) end; begin end; var x: k; y: d; begin init x(100), y(x); y.go; display(x.sum) end.
pub class_in_class-ends : ending class_in_class ≡ (ended_event, pos 115 ∷ [])
class_in_class-ends = refl

-- type m = monitor; var q: queue; procedure entry e(var a: integer); var i: integer; begin for i := 1 to 9 do begin a := i; if i = 3 then continue(q) end end; begin end; var x: m; v: integer; begin init x; x.e(v); display(v) end.
pub continue_in_loop-ends : ending continue_in_loop ≡ (ended_event, pos 3 ∷ [])
continue_in_loop-ends = refl
