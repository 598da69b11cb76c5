-- How many steps small programs make, by computing.
use Rattle.std.specs.Prelude.{◌≡◌, ℕ, List, [], ◌∷◌, refl}
use Rattle.cp_meaning.proofs.Words.{Program, book_discipline, State, Event, local_event, display_event, ended_event, opening, step_of}
use Rattle.cp_meaning.proofs.worked.CountedPrograms.{nothing_done, one_shown, two_rounds, one_call}

-- the events of steps by these processes, in order
abbrev pub events : Program → State → List ℕ → List Event
events p s [] = []
events p s (pid ∷ word) = let r = step_of p s pid in r.event ∷ events p r.state word

pub nothing_done_steps : events nothing_done (opening nothing_done book_discipline) (0 ∷ 0 ∷ []) ≡ local_event ∷ ended_event ∷ []
nothing_done_steps = refl

pub one_shown_steps : events one_shown (opening one_shown book_discipline) (0 ∷ 0 ∷ 0 ∷ []) ≡ local_event ∷ display_event ∷ ended_event ∷ []
one_shown_steps = refl

pub two_rounds_steps : events two_rounds (opening two_rounds book_discipline) (0 ∷ 0 ∷ 0 ∷ 0 ∷ 0 ∷ 0 ∷ []) ≡ local_event ∷ local_event ∷ local_event ∷ local_event ∷ local_event ∷ ended_event ∷ []
two_rounds_steps = refl

pub one_call_steps : events one_call (opening one_call book_discipline) (0 ∷ 0 ∷ 0 ∷ 0 ∷ []) ≡ local_event ∷ local_event ∷ local_event ∷ ended_event ∷ []
one_call_steps = refl
