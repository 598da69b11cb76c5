-- The lines that run errors name, by computing.
use Rattle.std.specs.Prelude.{◌≡◌, ℕ, List, [], ◌∷◌, refl}
use Rattle.cp_meaning.proofs.Words.{Program, book_discipline}
use Rattle.cp_meaning.specs.Steps.{opening, line_at}
use Rattle.cp_meaning.proofs.Following.{is_last, up_to}
use Rattle.cp_meaning.proofs.worked.LinedPrograms.{call_line, for_line, until_line, test_line, display_line, start_line, case_line, inner_line}

-- the line of the item at which the program's own process ends in a run error
abbrev pub line_of_error : Program → List ℕ → ℕ
line_of_error p lines = line_at (record { program = p; lines = lines }) (up_to is_last 200 p 0 (opening p book_discipline)).state 0

-- type s = 1..2; function f(n: s): integer; begin end; begin display(1 +\nf(3)) end.
pub call_line-is : line_of_error call_line (1 ∷ 1 ∷ 1 ∷ 1 ∷ 1 ∷ 1 ∷ 1 ∷ 1 ∷ 1 ∷ 1 ∷ 1 ∷ 1 ∷ 1 ∷ 1 ∷ 1 ∷ 1 ∷ 1 ∷ 1 ∷ 1 ∷ 1 ∷ 1 ∷ 1 ∷ 1 ∷ 1 ∷ 1 ∷ 2 ∷ 2 ∷ 2 ∷ 2 ∷ 2 ∷ 2 ∷ 2 ∷ []) ≡ 2
call_line-is = refl

-- var i: 1..2; begin\nfor i := 1 to\n3 do end.
pub for_line-is : line_of_error for_line (1 ∷ 1 ∷ 1 ∷ 1 ∷ 1 ∷ 1 ∷ 1 ∷ 1 ∷ 2 ∷ 2 ∷ 2 ∷ 2 ∷ 2 ∷ 3 ∷ 3 ∷ 3 ∷ 3 ∷ []) ≡ 2
for_line-is = refl

-- begin repeat until\n1 div 0 = 1 end.
pub until_line-is : line_of_error until_line (1 ∷ 1 ∷ 1 ∷ 2 ∷ 2 ∷ 2 ∷ 2 ∷ 2 ∷ 2 ∷ 2 ∷ []) ≡ 2
until_line-is = refl

-- begin if\n1 div 0 = 1 then end.
pub test_line-is : line_of_error test_line (1 ∷ 1 ∷ 2 ∷ 2 ∷ 2 ∷ 2 ∷ 2 ∷ 2 ∷ 2 ∷ 2 ∷ []) ≡ 1
test_line-is = refl

-- begin display(\n1 div 0) end.
pub display_line-is : line_of_error display_line (1 ∷ 1 ∷ 1 ∷ 2 ∷ 2 ∷ 2 ∷ 2 ∷ 2 ∷ 2 ∷ []) ≡ 1
display_line-is = refl

-- type k = class; begin end; var x: k; begin init\nx,\nx end.
pub start_line-is : line_of_error start_line (1 ∷ 1 ∷ 1 ∷ 1 ∷ 1 ∷ 1 ∷ 1 ∷ 1 ∷ 1 ∷ 1 ∷ 1 ∷ 1 ∷ 1 ∷ 1 ∷ 1 ∷ 2 ∷ 2 ∷ 3 ∷ 3 ∷ 3 ∷ []) ≡ 3
start_line-is = refl

-- begin\ncase\n1 of 2: end end.
pub case_line-is : line_of_error case_line (1 ∷ 2 ∷ 3 ∷ 3 ∷ 3 ∷ 3 ∷ 3 ∷ 3 ∷ 3 ∷ []) ≡ 2
case_line-is = refl

-- type s = 1..2; var v: s; procedure p;\nbegin v :=\n3 end; begin\np end.
pub inner_line-is : line_of_error inner_line (1 ∷ 1 ∷ 1 ∷ 1 ∷ 1 ∷ 1 ∷ 1 ∷ 1 ∷ 1 ∷ 1 ∷ 1 ∷ 1 ∷ 1 ∷ 1 ∷ 1 ∷ 2 ∷ 2 ∷ 2 ∷ 3 ∷ 3 ∷ 3 ∷ 3 ∷ 4 ∷ 4 ∷ 4 ∷ []) ≡ 2
inner_line-is = refl
