-- What small programs show, and how they end, by computing.
use Rattle.std.specs.Prelude.{◌≡◌, [], ◌∷◌, refl, pos, negsuc}
use Rattle.cp_meaning.proofs.Words.{overflow, zero_divisor, out_of_range, not_init, init_twice, ended_event, fault_event}
use Rattle.cp_meaning.proofs.Following.{ending}
use Rattle.cp_meaning.proofs.worked.ShownPrograms.{divide_by_zero, add_overflow, shown_values, function_call_first, right_side_first, for_to_upper_bound, set_operations, set_assignment_range, set_element_before_range, not_initialised, init_twice_class, dangling_else}

-- begin display(1 div 0) end.
pub divide_by_zero-ends : ending divide_by_zero ≡ (fault_event zero_divisor, [])
divide_by_zero-ends = refl

-- begin display(32767 + 1) end.
pub add_overflow-ends : ending add_overflow ≡ (fault_event overflow, [])
add_overflow-ends = refl

-- type t = (red, green); var e: t; begin e := succ(red); display(chr(65)); display(e); display(true); display(-7 div 2); display(-7 mod 2); display('(:10:)') end.
pub shown_values-ends : ending shown_values ≡ (ended_event, pos 65 ∷ pos 1 ∷ pos 1 ∷ negsuc 2 ∷ negsuc 0 ∷ pos 10 ∷ [])
shown_values-ends = refl

-- var n: integer; function f: integer; begin n := n + 1; f := n end; begin display(n + f) end.
pub function_call_first-ends : ending function_call_first ≡ (ended_event, pos 2 ∷ [])
function_call_first-ends = refl

-- var i: integer; a: array [1..2] of integer; begin a[i] := 1 div 0 end.
pub right_side_first-ends : ending right_side_first ≡ (fault_event zero_divisor, [])
right_side_first-ends = refl

-- var i: 1..3; begin for i := 1 to 3 do display(i) end.
pub for_to_upper_bound-ends : ending for_to_upper_bound ≡ (ended_event, pos 1 ∷ pos 2 ∷ pos 3 ∷ [])
for_to_upper_bound-ends = refl

-- var a, b: set of 0..9; begin a := [1, 3, 5]; b := [3, 4]; display(3 in a & b); display(1 in a - b); display(4 in (a or b)); display((a or b) = [1, 3, 4, 5]); display(200 in a) end.
pub set_operations-ends : ending set_operations ≡ (ended_event, pos 1 ∷ pos 1 ∷ pos 1 ∷ pos 1 ∷ pos 0 ∷ [])
set_operations-ends = refl

-- var a: set of 0..9; begin a := [10] end.
pub set_assignment_range-ends : ending set_assignment_range ≡ (fault_event out_of_range, [])
set_assignment_range-ends = refl

-- var a: set of 0..9; begin a := [10, 1 div 0] end.
pub set_element_before_range-ends : ending set_element_before_range ≡ (fault_event zero_divisor, [])
set_element_before_range-ends = refl

-- type m = monitor; procedure entry e; begin end; begin end; var x: m; begin x.e end.
pub not_initialised-ends : ending not_initialised ≡ (fault_event not_init, [])
not_initialised-ends = refl

-- type c = class; begin end; var k: c; begin init k, k end.
pub init_twice_class-ends : ending init_twice_class ≡ (fault_event init_twice, [])
init_twice_class-ends = refl

-- var a, b: boolean; x: integer; begin a := true; if a then if b then x := 1 else x := 2; display(x) end.
pub dangling_else-ends : ending dangling_else ≡ (ended_event, pos 2 ∷ [])
dangling_else-ends = refl
