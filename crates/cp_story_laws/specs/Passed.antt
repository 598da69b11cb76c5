-- What a call is given, and what it gives back: values, and the places to which `var` parameters refer.
use Rattle.std.specs.Prelude.{List, [], ◌∷◌, ◌++◌, map, flat_map, Option, Some, None}
use Rattle.cp_meaning.specs.Declarations.{Parameter}
use Rattle.cp_meaning.specs.Names.{result_name}
use Rattle.cp_meaning.specs.Places.{View, content_of, value_at, value_held}
use Rattle.cp_meaning.specs.State.{Call, Content, refers, current}
use Rattle.cp_meaning.specs.Types.{Ty}
use Rattle.cp_legend.specs.Values.{Value, named}
use Rattle.cp_legend_laws.specs.ValuesTold.{value_told}
use Rattle.cp_story.specs.Passed.{Given, given}
use Rattle.cp_story_laws.specs.Places.{parameters_of, place_text, result_of}

-- ---- what the innermost call is given

-- the place to which a `var` parameter refers, or the value of another one
abbrev pub content_told : View → Parameter → Option Content → Value
content_told v q (Some (refers place)) = named (place_text v place)
content_told v q o = value_told q.ty (value_held o)

abbrev pub argument_told : View → Parameter → Value
argument_told v q = content_told v q (content_of q.name (current v.calls).environment)

abbrev pub arguments_told : View → List Value
arguments_told v = map (argument_told v) (parameters_of (current v.calls))

-- ---- what it gives back

-- the value of the place to which a `var` parameter refers
abbrev pub content_given : View → Parameter → Option Content → List Given
content_given v q (Some (refers place)) = given (place_text v place) (value_told q.ty (value_at v place)) ∷ []
content_given v q o = []

abbrev pub parameter_given : View → Parameter → List Given
parameter_given v q = content_given v q (content_of q.name (current v.calls).environment)

abbrev pub result_given : Call → Option Ty → List Given
result_given c None = []
result_given c (Some t) = given [] (value_told t (value_held (content_of result_name c.environment))) ∷ []

-- those of its `var` parameters, and the result of a function
abbrev pub given_back : View → List Given
given_back v = flat_map (parameter_given v) (parameters_of (current v.calls)) ++ result_given (current v.calls) (result_of (current v.calls))
