-- Which schedule is told; and an answer that tells of none reports none.
use Rattle.std.proofs.Common.{◌≡◌, ◌≤◌, ◌<◌, ℕ, List, Result, Ok, Err, IfOk, inl, inr, length, string_bytes, sym, ◌∙◌, subst}
use Rattle.std.proofs.lemmas.Bool.{cases_lt}
use Rattle.std.specs.declared.alloc.AllocError.{AllocError}
use Rattle.cp_slots.specs.Tables.{Tables}
use Rattle.cp_outcomes.specs.declared.telling.First.{First}
use Rattle.cp_outcomes.specs.declared.telling.First.TheVariants as first
use Rattle.cp_ends_story.specs.declared.numbered.NumberedSchedule.{NumberedSchedule}
use Rattle.cp_ends_story.specs.declared.numbered.NumberedSchedule.TheVariants as numbered
use Rattle.cp_show_mark.specs.declared.answer.ShowAnswer.{ShowAnswer}
use Rattle.cp_show_mark.specs.declared.answer.ShowVerdict.{ShowVerdict}
use Rattle.cp_show_mark.specs.declared.answer.ShowVerdict.TheVariants.{Reported, TooMany, Misread}
use Rattle.cp_show_options.specs.declared.choosing.ScheduleChoice.{ScheduleChoice}
use Rattle.cp_show_options.specs.declared.choosing.ScheduleChoice.TheVariants as choice
use Rattle.cp_show_options.specs.declared.parts.Asked.{Asked}
use Rattle.cp_tool.specs.declared.options.Options.{Options}
use Rattle.cpx_show.specs.Schedules.{DrawsAll, IsTracedAs}
use Rattle.cpx_show.specs.Selecting.{IsAskedFor, IsChoiceOf, GivesSchedule, IsOfNumber, IsOfOutcome}
use Rattle.cpx_show.specs.declared.schedules.ScheduleForm.{ScheduleForm}
use Rattle.cpx_show.specs.declared.selecting.ChosenSchedule.{ChosenSchedule}
use Rattle.cpx_show.specs.declared.selecting.Selection.{Selection}
use Rattle.cpx_show.specs.declared.selecting.Selection.TheVariants.{Schedule, Without}

abbrev IsOther : ShowVerdict → Type 0
IsOther Reported = ⊥
IsOther _ = Unit {0}

pub misread_only : (verdict : ShowVerdict) → verdict ≡ Misread → verdict ≡ Reported → ⊥
misread_only verdict is reported = subst IsOther (sym is ∙ reported) tt

pub too_many_only : (verdict : ShowVerdict) → verdict ≡ TooMany → verdict ≡ Reported → ⊥
too_many_only verdict is reported = subst IsOther (sym is ∙ reported) tt

-- what is asked for, by how it is chosen
pub asked_by : (a : Asked) (r : Tables) (s : Selection) (choice : ScheduleChoice) → a.schedule ≡ choice → IsChoiceOf choice a.options r s → IsAskedFor a r s
asked_by a r s choice is h = subst (λ (c : ScheduleChoice). IsChoiceOf c a.options r s) (sym is) h

-- one that is given is shown
not_given : (choice : ScheduleChoice) (o : Options) (r : Tables) (answer : ShowAnswer) → IsChoiceOf choice o r (Without answer) → GivesSchedule choice → ⊥
not_given (choice.Given round) o r answer h given = h
not_given (choice.First number) o r answer h given = given
not_given (choice.Simplest number) o r answer h given = given
not_given (choice.End number) o r answer h given = given
not_given (choice.Wait number) o r answer h given = given

of_outcome : (chosen : First) (answer : ShowAnswer) → IsOfOutcome chosen (Without answer) → answer.verdict ≡ Reported → ⊥
of_outcome (first.Word word) answer h reported = h
of_outcome (first.None known) answer h reported = misread_only answer.verdict h reported
of_outcome first.NotSearched answer h reported = too_many_only answer.verdict h reported

of_number : (found : NumberedSchedule) (answer : ShowAnswer) → IsOfNumber found (Without answer) → answer.verdict ≡ Reported → ⊥
of_number (numbered.Word word round) answer h reported =
    elim (cases_lt 100 (length word.items)) [
      | inl long ↦ too_many_only answer.verdict (h.1 long) reported
      | inr short ↦ h.0 short
    ]
of_number (numbered.None count) answer h reported = misread_only answer.verdict h reported
of_number numbered.NotKnown answer h reported = too_many_only answer.verdict h reported

-- an answer in place of a schedule reports none
never_reported : (choice : ScheduleChoice) (o : Options) (r : Tables) (answer : ShowAnswer) → IsChoiceOf choice o r (Without answer) → answer.verdict ≡ Reported → ⊥
never_reported (choice.Given round) o r answer h reported = h
never_reported (choice.First number) o r answer (job, is, chosen, first, of) reported = of_outcome chosen answer of reported
never_reported (choice.Simplest number) o r answer (job, is, chosen, schedule, of) reported = of_outcome chosen answer of reported
never_reported (choice.End number) o r answer (subject, is, found, schedule, of) reported = of_number found answer of reported
never_reported (choice.Wait number) o r answer (subject, is, found, schedule, of) reported = of_number found answer of reported

pub without_traced : (f : ScheduleForm) (Is : ChosenSchedule → List ℕ → Type 0) (a : Asked) (r : Tables) (answer : ShowAnswer) → IsAskedFor a r (Without answer) → IsTracedAs f Is a r answer.verdict (string_bytes answer.text)
without_traced f Is a r answer h = record { given = λ given all. absurd (not_given a.schedule a.options r answer h given); told = λ reported. absurd (never_reported a.schedule a.options r answer h reported) }

-- the schedule that is asked for, and its text
pub schedule_traced : (f : ScheduleForm) (Is : ChosenSchedule → List ℕ → Type 0) (a : Asked) (r : Tables) (s : ChosenSchedule) (result : Result ShowAnswer AllocError) → IfOk result (λ x. x.verdict ≡ Reported → Is s (string_bytes x.text)) → (DrawsAll f → IfOk result (λ x. x.verdict ≡ Reported)) → IsAskedFor a r (Schedule s) → IfOk result (λ x. IsTracedAs f Is a r x.verdict (string_bytes x.text))
schedule_traced f Is a r s (Ok x) told drawn asked = record { given = λ given all. drawn all; told = λ reported. (s, asked, told reported) }
schedule_traced f Is a r s (Err e) told drawn asked = tt
