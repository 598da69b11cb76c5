-- One schedule told in names, from the slot machine on.
use Rattle.std.specs.Prelude.{◌≡◌, ℕ, List, Bool, Option, if◌then◌else◌}
use Rattle.cp_slots.specs.Tables.{Tables}
use Rattle.cp_legend.specs.Names.{Legend}
use Rattle.cp_run.specs.Code.{answer_of}
use Rattle.cp_walk.specs.TraceText.{end_text}
use Rattle.cp_tool.specs.declared.options.Options.{Options}
use Rattle.cp_story.specs.Objects.{line_of}
use Rattle.cp_story.specs.Round.{IsFirstOfRound}
use Rattle.cp_story.specs.declared.story.Story.{Story}
use Rattle.cp_story.specs.StoryData.{story_data}
use Rattle.cp_story.specs.Text.{story_text}
use Rattle.cp_lanes.specs.declared.sheet.SheetExtent.{SheetExtent}
use Rattle.cp_lanes.specs.declared.sheet.SheetExtent.TheVariants as extent
use Rattle.cp_show_mark.specs.Stories.{IsStoryOf}
use Rattle.cp_show_mark.specs.declared.answer.ShowVerdict.{ShowVerdict}
use Rattle.cp_show_mark.specs.declared.answer.ShowVerdict.TheVariants.{Reported}
use Rattle.cp_show_options.specs.declared.parts.Asked.{Asked}
use Rattle.cpx_show.specs.declared.schedules.ScheduleForm.{ScheduleForm}
use Rattle.cpx_show.specs.declared.schedules.ScheduleForm.TheVariants as form
use Rattle.cpx_show.specs.declared.selecting.ChosenSchedule.{ChosenSchedule}
use Rattle.cpx_show.specs.declared.selecting.Selection.TheVariants.{Schedule}
use Rattle.cpx_show.specs.Selecting.{IsAskedFor, GivesSchedule}

abbrev pub trace_form : (json : Bool) → ScheduleForm
trace_form json = if json then form.Json else form.Lines

-- The text of a story: its lines, with the last line of the plain trace; or its object of JSON, with the lines of the source. Both say before which event a round begins. Of a picture
-- nothing is said.
abbrev pub IsWrittenAs : ScheduleForm → Tables → Legend → (source : List (List ℕ)) → (word : List ℕ) → Story → (again : Option ℕ) → List ℕ → Type 0
IsWrittenAs form.Lines r l source word story again text = text ≡ story_text l story again (end_text r.names word (answer_of story.end))
IsWrittenAs form.Json r l source word story again text = text ≡ line_of (story_data l story again word source)
IsWrittenAs (form.Picture view) r l source word story again text = Unit {0}

-- the text of the story of a schedule's word, with the event with which its round begins
pub record IsStoryText (f : ScheduleForm) (o : Options) (r : Tables) (l : Legend) (source : List (List ℕ)) (s : ChosenSchedule) (text : List ℕ) : Type 0 where
  pub story : Story
  pub so : IsStoryOf l r o.discipline o.choices o.steps s.word.items story
  pub again : Option ℕ
  pub begins : IsFirstOfRound story.events.items s.word.items s.round again
  pub written : IsWrittenAs f r l source s.word.items story again text

abbrev pub AreNotNamed : SheetExtent → Type 0
AreNotNamed (extent.Between first last) = ⊥
AreNotNamed _ = Unit {0}

-- what is shown is no picture of rows that are named
abbrev pub DrawsAll : ScheduleForm → Type 0
DrawsAll (form.Picture view) = AreNotNamed view.extent
DrawsAll _ = Unit {0}

-- The schedule that is asked for is told so, where there is one. One that is given is always told, but for rows that there are not.
pub record IsTracedAs (f : ScheduleForm) (Is : ChosenSchedule → List ℕ → Type 0) (a : Asked) (r : Tables) (verdict : ShowVerdict) (text : List ℕ) : Type 0 where
  pub given : GivesSchedule a.schedule → DrawsAll f → verdict ≡ Reported
  pub told : verdict ≡ Reported → (s : ChosenSchedule) × IsAskedFor a r (Schedule s) × Is s text
