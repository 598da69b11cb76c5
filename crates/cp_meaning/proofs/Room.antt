-- The output has room for 1,000 values: the step of a `display` with 999 and with 1,000 values before it, by computing.
use Rattle.std.specs.Prelude.{◌≡◌, ℕ, [], length, refl, pos, codes, replicate}
use Rattle.cp_tree.specs.Syntax.{number, no_expressions, more_expressions, designator, no_selectors, invoke, no_statements, more_statements, Program}
use Rattle.cp_meaning.specs.Types.{integers}
use Rattle.cp_meaning.specs.State.{book_discipline, Shown, State}
use Rattle.cp_meaning.proofs.Words.{Event, display_event, output_full, opening, step_of}
use Rattle.cp_meaning.proofs.Written.{named_at, just}

-- begin display(7) end.
abbrev displays_one : Program
displays_one = record { parts = ([]); routines = ([]); body = (record { at = 0; statements = (more_statements (invoke 1 (designator (named_at 1 (codes "display")) no_selectors) (more_expressions (just 3 (number 3 7)) no_expressions)) no_statements) }); period = 6 }

abbrev three : Shown
three = record { base = integers; number = pos 3 }

-- the state before its only display, where n values were shown
abbrev after_values : ℕ → State
after_values n = record (opening displays_one book_discipline) { output = replicate n three }

-- the event of the display, and the number of values that are shown then
abbrev displays_after : ℕ → Event × ℕ
displays_after n = let r = step_of displays_one (after_values n) 0 in (r.event, length r.state.output)

pub room_for_last : displays_after 999 ≡ (display_event, 1000)
room_for_last = refl

pub room_for_no_more : displays_after 1000 ≡ (output_full, 1000)
room_for_no_more = refl
