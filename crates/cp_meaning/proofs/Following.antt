-- Several steps in a row, for the worked programs.
use Rattle.std.specs.Prelude.{ℕ, zero, suc, ℤ, Bool, true, false, if◌then◌else◌, List, [], ◌∷◌, map}
use Rattle.cp_meaning.proofs.Words.{Program, Process, book_discipline, State, is_inside, opening, step_of, admitted}
use Rattle.cp_meaning.specs.Kernel.{Event, local_event, ended_event, fault_event, output_full, Stepped}

abbrev pub is_local : Event → Bool
is_local local_event = true
is_local e = false

abbrev pub is_last : Event → Bool
is_last ended_event = true
is_last (fault_event e) = true
is_last output_full = true
is_last e = false

-- steps of one process up to the event that passes, of which there are at most this many more
abbrev pub up_to : (Event → Bool) → ℕ → Program → ℕ → State → Stepped
up_to passes zero p pid s = step_of p s pid
up_to passes (suc n) p pid s =
    let r = step_of p s pid in
    let rest = up_to passes n p pid r.state in
    if passes r.event then r else rest

abbrev pub numbers_of : State → List ℤ
numbers_of s = map (λ x. x.number) s.output

abbrev pub Ending : Type 0
Ending = Event × List ℤ

-- the last event of the program's own process, and what is shown then
abbrev pub ending : Program → Ending
ending p =
    let r = up_to is_last 200 p 0 (opening p book_discipline) in
    (r.event, numbers_of r.state)

-- ---- traces

-- a process goes on to its next event that is not local; one of a line is admitted
pub data Turn : Type 0 where
  goes : ℕ → Turn
  goes_in : ℕ → Turn

abbrev pub turn : Program → State → Turn → Stepped
turn p s (goes pid) = up_to (λ e. if is_local e then false else true) 100 p pid s
turn p s (goes_in q) = record { state = admitted s q; event = local_event }

abbrev pub inside_from : ℕ → ℕ → List Process → List ℕ
inside_from m n [] = []
inside_from m n (p ∷ ps) = if is_inside m p then n ∷ inside_from m (suc n) ps else inside_from m (suc n) ps

-- who is inside each of these monitors
abbrev pub insides : List ℕ → State → List (List ℕ)
insides ms s = map (λ m. inside_from m 0 s.processes) ms

abbrev pub Traced : Type 0
Traced = List (Event × List (List ℕ)) × List ℤ

abbrev pub with_line_first : Event × List (List ℕ) → Traced → Traced
with_line_first l t = (l ∷ t.0, t.1)

-- the events with who is inside after each, and what is shown at the end
abbrev pub traced : Program → List ℕ → State → List Turn → Traced
traced p ms s [] = ([], numbers_of s)
traced p ms s (t ∷ word) =
    let r = turn p s t in
    with_line_first (r.event, insides ms r.state) (traced p ms r.state word)
