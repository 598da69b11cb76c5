-- By the book the first of a line goes in, and the caller of `continue` returns at once.
use Rattle.cp_at_once_laws.proofs.Words.{◌≡◌, ℕ, List, Option, ap, sym, first_gates, book_discipline, Discipline, State, Doing, moved_to, ready}
use Rattle.cp_meaning.specs.State.{Call, Item}
use Rattle.cp_meaning.specs.Kernel.{continuing, signalling}

pub gates_first : (s : State) → s.discipline ≡ book_discipline → s.discipline.gates ≡ first_gates
gates_first s first = ap (λ (d : Discipline). d.gates) first

pub returns_at_once : (s : State) (pid : ℕ) (d : Doing) (m : ℕ) (o : Option ℕ) (going : List Call) (items : List Item) → s.discipline ≡ book_discipline → continuing (moved_to ready s pid d) m o ≡ signalling s.discipline.signals s pid d m o going items
returns_at_once s pid d m o going items first = sym (ap (λ (w : Discipline). signalling w.signals s pid d m o going items) first)
