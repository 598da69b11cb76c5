-- The search at once on the slot machine: nothing is left out of the meaning of the program on its own names.
use Rattle.std.specs.Prelude.{◌≡◌, ℕ, List, Bool, true, Contains}
use Rattle.cp_tree.specs.Read.{IsRead}
use Rattle.cp_tree.specs.Syntax.{Tree}
use Rattle.cp_layout.specs.Laid.{plain, laid}
use Rattle.cp_slots.specs.Tables.{Tables}
use Rattle.cp_meaning_laws.specs.Accepted.{IsAccepted}
use Rattle.cp_meaning.specs.State.{book_discipline}
use Rattle.cp_machine.specs.Machine.{Machine}
use Rattle.cp_machine.specs.declared.discipline.Discipline.{Discipline}
use Rattle.cp_machine.specs.declared.shown.Shown.{Shown}
use Rattle.cp_run.specs.declared.outcome.OutcomeKind.{OutcomeKind}
use Rattle.cp_run.specs.Slots.{slots}
use Rattle.cp_machine_laws.specs.Named.{named, discipline_of}
use Rattle.cp_endless_laws.specs.Repeats.{IsAloneAfter, SpinsAfter}
use Rattle.cp_endless_laws.specs.Shown.{ShowsAfter}
use Rattle.cp_endless_laws.specs.Silent.{silent_slots, named_without_output}
use Rattle.cp_at_once_laws.specs.AtOnce.{QuietLeg}
use Rattle.cp_at_once_laws.specs.Quiet.{names, is_quiet}
use Rattle.cp_at_once_laws.specs.Search.{SearchesAtOnce}
use Rattle.cp_at_once_laws.specs.Whole.{IsAloneBy, SpinsBy, LeavesNoEndOut}

-- the first of a line goes in, and the caller of `continue` returns at once
abbrev pub by_the_book : Discipline
by_the_book = discipline_of book_discipline

-- no enter and no run error
abbrev pub IsQuietEvent : Tables → Machine → ℕ → Type 0
IsQuietEvent r m p = is_quiet ((silent_slots r by_the_book).event m p) ≡ true

-- What may be made at once on slots: a leg without an enter and a run error, after which each component is in the phase in which it was.
pub record IsQuietOnSlots (r : Tables) (m : Machine) (p : ℕ) : Type 0 where
  pub after : Machine
  pub leg : QuietLeg (silent_slots r by_the_book) (IsQuietEvent r) m p after
  pub phases : after.phases ≡ m.phases

-- each value that the step shows is told
abbrev pub Tells : Tables → (Shown → Type 0) → Machine → ℕ → Type 0
Tells r told m p = (v : Shown) → Contains ((slots r by_the_book).output ((slots r by_the_book).step m p)) v → told v

-- Each end, who goes on for ever, and each value to which a schedule of the program comes on its own names, with any limit of steps, is told.
pub record LeavesNone (t : Tree) (known : OutcomeKind → Type 0) (alone spins : ℕ → Type 0) (told : Shown → Type 0) : Type 0 where
  pub ends : LeavesNoEndOut (names t) known alone spins
  pub values : (limit : ℕ) (word : List ℕ) (v : Shown) → ShowsAfter (named t book_discipline) named_without_output limit word v → told v

-- Of the tables of each program that is read and breaks no rule: whatever the search keeps and tells.
abbrev pub LeavesNothingOut : Type 0
LeavesNothingOut =
    (t : Tree) (r : Tables) → IsRead t.program → IsAccepted t → plain r ≡ laid t →
    (steps most : ℕ) (kept : Machine → Bool) (known : OutcomeKind → Bool) (alone spins : ℕ → Bool) (told : Shown → Bool) →
    SearchesAtOnce (silent_slots r by_the_book) steps most (IsQuietOnSlots r) (λ m. kept m ≡ true) (λ k. known k ≡ true) (λ q. alone q ≡ true) (λ q. spins q ≡ true) (Tells r (λ v. told v ≡ true)) →
    LeavesNone t (λ k. known k ≡ true) (λ q. alone q ≡ true) (λ q. spins q ≡ true) (λ v. told v ≡ true)

-- A stretch that is seen to repeat on slots goes on for ever on names, and from some step on one process makes each of its steps: the one that is told.
pub record RepeatsByOne (t : Tree) (r : Tables) : Type 0 where
  pub alone : (limit : ℕ) (word : List ℕ) (q : ℕ) → IsAloneAfter (silent_slots r by_the_book) limit word q → IsAloneBy (names t) limit word q
  pub spins : (limit : ℕ) (word : List ℕ) (q : ℕ) → SpinsAfter (silent_slots r by_the_book) limit word q → SpinsBy (names t) limit word q

abbrev pub RepeatsByOneLaw : Type 0
RepeatsByOneLaw = (t : Tree) (r : Tables) → IsRead t.program → IsAccepted t → plain r ≡ laid t → RepeatsByOne t r
