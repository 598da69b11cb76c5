-- The outcomes and the ends of all schedules, from the slot machine on.
use Rattle.std.specs.Prelude.{◌≡◌, ℕ, List, ◌∷◌, ◌++◌, Bool, true, false, codes, string_bytes, if◌then◌else◌}
use Rattle.cp_slots.specs.Tables.{Tables}
use Rattle.cp_legend.specs.declared.legend.Legend as code_legend
use Rattle.cp_tool.specs.declared.options.Options.{Options}
use Rattle.cp_ends_story.specs.Findings.{TellsEnds}
use Rattle.cp_ends_story.specs.declared.subject.EndsSubject.{EndsSubject}
use Rattle.cp_ends_story.specs.declared.subject.EndsSummary.{EndsSummary}
use Rattle.cp_outcomes.specs.Written.{TellsOutcomes}
use Rattle.cp_outcomes.specs.declared.subject.Format.{Format}
use Rattle.cp_outcomes.specs.declared.subject.Format.TheVariants.{Json, Text}
use Rattle.cp_outcomes.specs.declared.subject.Subject.{Subject}
use Rattle.cp_outcomes.specs.declared.subject.Summary.{Summary}
use Rattle.cp_show_mark.specs.declared.answer.ShowVerdict.{ShowVerdict}
use Rattle.cp_show_mark.specs.declared.answer.ShowVerdict.TheVariants.{Reported, TooMany}
use Rattle.cpx_show.specs.Selecting.{IsEndsSubjectOf}

-- the program, its names, and the limits, whose outcomes are told
pub record IsSubjectOf (s : Subject) (o : Options) (r : Tables) (l : code_legend.Legend) : Type 0 where
  pub program : s.program.now ≡ r
  pub legend : s.legend.now ≡ l
  pub choices : s.limits.choices ≡ o.choices
  pub steps : s.limits.steps ≡ o.steps
  pub discipline : s.limits.discipline ≡ o.discipline
  pub states : s.states ≡ o.states

abbrev pub form_of : (json : Bool) → Format
form_of json = if json then Json else Text

abbrev pub verdict_on : (whole : Bool) → ShowVerdict
verdict_on whole = if whole then Reported else TooMany

-- they are told in this form
pub record AreOutcomesOf (form : Format) (o : Options) (r : Tables) (l : code_legend.Legend) (verdict : ShowVerdict) (text : List ℕ) : Type 0 where
  pub subject : Subject
  pub asked : IsSubjectOf subject o r l
  pub summary : Summary
  pub told : TellsOutcomes subject form summary
  pub verdict_is : verdict ≡ verdict_on summary.is_whole
  pub text_is : text ≡ string_bytes summary.text

-- The verdict says whether the ends that are found are all, and who may wait for ever is known where that is asked. Of the text nothing is said.
pub record AreEndsOf (o : Options) (r : Tables) (verdict : ShowVerdict) : Type 0 where
  pub subject : EndsSubject
  pub asked : IsEndsSubjectOf subject o r
  pub summary : EndsSummary
  pub told : TellsEnds subject summary
  pub verdict_is : verdict ≡ verdict_on summary.is_whole

-- Behind them stands what no schedule comes to: after an empty line, or as the last member of the object. Of that itself nothing is said.
abbrev pub HasCover : (json : Bool) → (told cover text : List ℕ) → Type 0
HasCover false told cover text = text ≡ told ++ 10 ∷ cover
HasCover true told cover text = (front : List ℕ) → told ≡ front ++ codes "}\n" → text ≡ front ++ codes ",\"cover\":" ++ cover ++ codes "}\n"

-- where that is asked for
abbrev pub IsCovered : (json cover : Bool) → (told text : List ℕ) → Type 0
IsCovered json true told text = (cover : List ℕ) × HasCover json told cover text
IsCovered json false told text = text ≡ told
