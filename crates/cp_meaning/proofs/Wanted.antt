-- What is read off states where a choice is due, by computing.
use Rattle.std.specs.Prelude.{◌≡◌, List, [], ◌∷◌, Some, None, refl}
use Rattle.cp_meaning.proofs.Words.{Program, State, Discipline, book_discipline, by_gates, any_gates, opening}
use Rattle.cp_meaning.specs.Readings.{ready_of, rising_line, holder_of, monitors_of}
use Rattle.cp_meaning.proofs.Following.{Turn, goes, turn}
use Rattle.cp_meaning.proofs.worked.TracedPrograms.{admits_third}

abbrev pub after_turns : Program → State → List Turn → State
after_turns p s [] = s
after_turns p s (t ∷ word) = after_turns p (turn p s t).state word

-- three callers, each at its first call, and the first one's `continue`
abbrev pub three_callers : Discipline → State
three_callers g = after_turns admits_third (opening admits_third g) (goes 0 ∷ goes 0 ∷ goes 0 ∷ goes 0 ∷ goes 1 ∷ goes 2 ∷ goes 3 ∷ goes 1 ∷ goes 1 ∷ [])

pub any-wants : rising_line (three_callers (by_gates any_gates)) 1 ≡ 2 ∷ 3 ∷ []
any-wants = refl

pub any-pending : (three_callers (by_gates any_gates)).pending ≡ Some 1
any-pending = refl

pub any-holder : holder_of (three_callers (by_gates any_gates)) 1 ≡ None
any-holder = refl

pub first-wants : ready_of (three_callers book_discipline) ≡ 1 ∷ 2 ∷ []
first-wants = refl

pub first-holder : holder_of (three_callers book_discipline) 1 ≡ Some 2
first-holder = refl

pub first-monitors : monitors_of (three_callers book_discipline) ≡ 1 ∷ []
first-monitors = refl
