-- In every step each changed variable is one that the process holds.
use Rattle.std.specs.Prelude.{◌≡◌, ℕ, ◌<◌, length, Some, None, true}
use Rattle.cp_tree.specs.Syntax.{Program}
use Rattle.cp_meaning.specs.Values.{is_member}
use Rattle.cp_meaning.specs.State.{ready, process_at, Discipline, State}
use Rattle.cp_meaning.specs.Kernel.{line_of}
use Rattle.cp_meaning.specs.Steps.{opening, step_of, admitted, IsReached}
use Rattle.cp_meaning.specs.Ownership.{IsLawful, ChangesHeld, OthersKept, VariablesKept}
use Rattle.cp_meaning.specs.WellFormed.{IsWellFormed}

-- The opening state is lawful, and each step and admission leads from a reached state that is lawful to a lawful one.
-- From a lawful state, whether it is reached or not, a step changes only what is held, but for the parameters that a start binds, and an admission changes no variable.
pub record Ownership (p : Program) (g : Discipline) : Type 0 where
  pub opening_lawful : IsLawful (opening p g)
  pub steps_lawful : (s : State) (pid : ℕ) → IsReached p g s → IsLawful s → s.pending ≡ None → pid < length s.processes → (process_at s.processes pid).status ≡ ready → IsLawful (step_of p s pid).state
  pub admissions_lawful : (s : State) (m q : ℕ) → IsReached p g s → IsLawful s → s.pending ≡ Some m → is_member q (line_of s m) ≡ true → IsLawful (admitted s q)
  pub changes_held : (s : State) (pid : ℕ) → IsLawful s → s.pending ≡ None → pid < length s.processes → (process_at s.processes pid).status ≡ ready → ChangesHeld p s (step_of p s pid).state pid
  pub others_kept : (s : State) (pid : ℕ) → IsLawful s → s.pending ≡ None → pid < length s.processes → (process_at s.processes pid).status ≡ ready → OthersKept s (step_of p s pid).state pid
  pub admissions_keep : (s : State) (m q : ℕ) → IsLawful s → s.pending ≡ Some m → is_member q (line_of s m) ≡ true → VariablesKept s (admitted s q)

-- for every well-formed program, under both gates
abbrev pub OwnershipLaw : Type 0
OwnershipLaw = (p : Program) → IsWellFormed p → (g : Discipline) → Ownership p g
