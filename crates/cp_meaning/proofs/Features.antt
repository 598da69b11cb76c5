-- Features of the language, by computing.
use Rattle.std.specs.Prelude.{◌≡◌, [], ◌∷◌, refl, pos, negsuc}
use Rattle.cp_meaning.proofs.Words.{out_of_range, no_case, ended_event, fault_event}
use Rattle.cp_meaning.proofs.Following.{ending}
use Rattle.cp_meaning.proofs.worked.FeaturePrograms.{own_name_in_for, own_name_in_heading, whole_subrange, type_named_again, constant_hides, reference_passed_on, sets_in_records, classes_in_monitor, array_of_chars, call_at_each_test, call_at_each_until, truth_values, arithmetic, cycle_until_no_case, empty_queue}

-- function f: integer; begin for f := 1 to 3 do end; begin display(f) end.
pub own_name_in_for-ends : ending own_name_in_for ≡ (ended_event, pos 3 ∷ [])
own_name_in_for-ends = refl

-- var x: false..true; procedure p(var a: boolean); begin a := true end; begin p(x); display(x) end.
pub whole_subrange-ends : ending whole_subrange ≡ (ended_event, pos 1 ∷ [])
whole_subrange-ends = refl

-- type integer = integer; var x: integer; begin x := 1; display(x) end.
pub type_named_again-ends : ending type_named_again ≡ (ended_event, pos 1 ∷ [])
type_named_again-ends = refl

-- const true = 5; begin display(true) end.
pub constant_hides-ends : ending constant_hides ≡ (ended_event, pos 5 ∷ [])
constant_hides-ends = refl

-- var x: integer; procedure q(var b: integer); begin b := b * 2 end; procedure p(var a: integer); const x = 3; begin q(a); a := a + x end; begin x := 4; p(x); display(x) end.
pub reference_passed_on-ends : ending reference_passed_on ≡ (ended_event, pos 11 ∷ [])
reference_passed_on-ends = refl

-- type day = (mon, tue, wed); week = set of day; r = record work: week; first: day end; var v: r; function has(s: week; d: day): boolean; begin has := d in s end; begin v.work := [mon, wed]; v.first := succ(v.first); display(has(v.work, tue)); display(has(v.work, wed)); display(v.first); display(pred(wed)) end.
pub sets_in_records-ends : ending sets_in_records ≡ (ended_event, pos 0 ∷ pos 1 ∷ pos 1 ∷ pos 1 ∷ [])
sets_in_records-ends = refl

-- type k = class; var n: integer; procedure entry up; begin n := n + 1 end; function entry get: integer; begin get := n end; begin n := 5 end; m = monitor; var c: array [1..2] of k; procedure entry go(var r: integer); begin c[2].up; r := c[1].get * 100 + c[2].get end; begin init c[1], c[2] end; var x: m; v: integer; begin init x; x.go(v); display(v) end.
pub classes_in_monitor-ends : ending classes_in_monitor ≡ (ended_event, pos 506 ∷ [])
classes_in_monitor-ends = refl

-- var a: array [0..2] of char; i: integer; begin for i := 2 downto 0 do a[i] := chr(ord('x') + i); display(a[1]); i := 0; repeat a[i] := pred(a[i]); i := i + 1 until i > 2; display(a[0]) end.
pub array_of_chars-ends : ending array_of_chars ≡ (ended_event, pos 121 ∷ pos 119 ∷ [])
array_of_chars-ends = refl

-- var n: integer; function f: boolean; begin n := n + 1; f := n < 3 end; begin while f do display(n); display(n * 10) end.
pub call_at_each_test-ends : ending call_at_each_test ≡ (ended_event, pos 1 ∷ pos 2 ∷ pos 30 ∷ [])
call_at_each_test-ends = refl

-- var n: integer; function f: integer; begin n := n + 1; f := n end; begin repeat display(7) until f >= 2 end.
pub call_at_each_until-ends : ending call_at_each_until ≡ (ended_event, pos 7 ∷ pos 7 ∷ [])
call_at_each_until-ends = refl

-- begin display(not (1 > 2) and ('b' >= 'a') or false); display(false = true); display(1 <> 2) end.
pub truth_values-ends : ending truth_values ≡ (ended_event, pos 1 ∷ pos 0 ∷ pos 1 ∷ [])
truth_values-ends = refl

-- begin display(7 mod (-2)); display((-7) mod 2); display(2 * 3 - 4 * 5); display(abs(-5)) end.
pub arithmetic-ends : ending arithmetic ≡ (ended_event, pos 1 ∷ negsuc 0 ∷ negsuc 13 ∷ pos 5 ∷ [])
arithmetic-ends = refl

-- var n: integer; begin cycle n := n + 1; case n of 1, 2: display(n) end end end.
pub cycle_until_no_case-ends : ending cycle_until_no_case ≡ (fault_event no_case, pos 1 ∷ pos 2 ∷ [])
cycle_until_no_case-ends = refl

-- type m = monitor; var q: queue; procedure entry go(var b: boolean); begin b := empty(q) end; begin end; var x: m; b: boolean; begin init x; x.go(b); display(b) end.
pub empty_queue-ends : ending empty_queue ≡ (ended_event, pos 1 ∷ [])
empty_queue-ends = refl

-- The type is the program's, since the routine is not visible in its heading.
-- type range = 1..5; m = monitor; procedure entry range(x: range); begin display(x) end; begin end; var v: m; begin init v; v.range(7) end.
pub own_name_in_heading-ends : ending own_name_in_heading ≡ (fault_event out_of_range, [])
own_name_in_heading-ends = refl
