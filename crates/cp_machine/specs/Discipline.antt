-- Which disciplines can be kept, and which is that of the book.
use Rattle.std.specs.Prelude.{◌≡◌, ◌&&◌, Bool, false, true}
use Rattle.cp_machine.specs.declared.discipline.Discipline.{Discipline}
use Rattle.cp_machine.specs.declared.discipline.Gates.{Gates}
use Rattle.cp_machine.specs.declared.discipline.Gates.TheVariants.{First, Any}
use Rattle.cp_machine.specs.declared.discipline.Signals.{Signals}
use Rattle.cp_machine.specs.declared.discipline.Signals.TheVariants.{Return, Continue, Wait}

-- a caller that is to be the first of the line waits where the first of a line goes in
abbrev pub IsDiscipline : Discipline → Type 0
IsDiscipline d = d.gates ≡ Any → d.signals ≡ Wait → ⊥

abbrev pub lets_first_in : Gates → Bool
lets_first_in First = true
lets_first_in Any = false

abbrev pub lets_caller_return : Signals → Bool
lets_caller_return Return = true
lets_caller_return Continue = false
lets_caller_return Wait = false

-- the first of a line goes in, and the caller of a continue returns
abbrev pub is_of_the_book : Discipline → Bool
is_of_the_book d = lets_first_in d.gates && lets_caller_return d.signals
