-- What is told of an annotation that is false, in words.
use Rattle.std.specs.Prelude.{ℕ, ◌==◌, if◌then◌else◌, List, [], ◌++◌, length, Option, Some, None, slice_get, codes, decimal}
use Rattle.cp_legend.specs.Names.{Legend, name_of_routine}
use Rattle.cp_legend.specs.Written.{value_text}
use Rattle.cp_store.specs.declared.error.ErrorName.{ErrorName}
use Rattle.cp_story.specs.Annotations.{Violated}
use Rattle.cp_story.specs.CauseText.{behind_colon, cause_line, component_text}
use Rattle.cp_story.specs.Joined.{joined}
use Rattle.cp_story.specs.Passed.{Given}
use Rattle.cp_story.specs.declared.annotation.Annotation.{Annotation}
use Rattle.cp_story.specs.declared.annotation.Annotation.TheVariants as annotation
use Rattle.cp_story.specs.declared.annotation.Moment.{Moment}
use Rattle.cp_story.specs.declared.annotation.Moment.TheVariants as moment
use Rattle.cp_story.specs.declared.cause.Cause.{Cause}

-- ---- in words

abbrev pub variable_text : Given → List ℕ
variable_text g = g.name ++ codes " = " ++ value_text g.value

abbrev pub variables_text : List Given → List ℕ
variables_text gs = joined [] (codes ", ") variable_text gs

-- a routine of a component
abbrev pub routine_text : Legend → (component routine : ℕ) → List ℕ
routine_text l n routine = component_text l n ++ codes "." ++ name_of_routine (slice_get l.routines routine)

abbrev pub moment_text : Legend → (component : ℕ) → Moment → List ℕ
moment_text l n (moment.Delay line) = codes " before the delay in line " ++ decimal line
moment_text l n (moment.Continue line) = codes " before the continue in line " ++ decimal line
moment_text l n (moment.Return routine) = codes " where " ++ routine_text l n routine ++ codes " returns"
moment_text l n moment.Initialised = codes " at the end of its initial statement"

abbrev pub annotation_text : Legend → Annotation → List ℕ
annotation_text l annotation.Assertion = codes "breaks an assertion"
annotation_text l (annotation.Invariant n at) = codes "breaks the invariant of " ++ component_text l n ++ moment_text l n at

-- what is broken and when, and the variables in it with their values
abbrev pub violation_text : Legend → Violated → List ℕ
violation_text l v = annotation_text l v.annotation ++ behind_colon (variables_text v.values)

abbrev pub if_some : List ℕ → Option (List ℕ)
if_some text = if length text == 0 then None else Some text

-- what a run error is of, on a line of its own: the variables of an annotation that is false, or what failed, if that is known for sure
abbrev pub detail_line : Legend → ErrorName → Option Cause → Option Violated → Option (List ℕ)
detail_line l name cause None = cause_line l name cause
detail_line l name cause (Some v) = if_some (variables_text v.values)
