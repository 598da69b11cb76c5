-- What the source calls a place: a variable of an open call or of a component, with the fields and indices that lead to a part of it.
use Rattle.std.specs.Prelude.{ℕ, false, List, [], ◌∷◌, ◌++◌, Option, Some, None}
use Rattle.cp_tree.specs.Syntax.{Program}
use Rattle.cp_meaning.specs.Declarations.{Parameter, RoutineMeaning, Variable, routine_in}
use Rattle.cp_meaning.specs.Names.{Name}
use Rattle.cp_meaning.specs.Places.{View, call_above}
use Rattle.cp_meaning.specs.Scopes.{Scope, routine_meaning}
use Rattle.cp_meaning.specs.State.{Call, Holder, in_call, in_component, Place, component_at}
use Rattle.cp_meaning.specs.Steps.{parameter_variables}
use Rattle.cp_meaning.specs.Systems.{system_of}
use Rattle.cp_meaning.specs.Types.{Ty}
use Rattle.cp_meaning.specs.Values.{Choice}
use Rattle.cp_resolved.specs.Layouts.{look}
use Rattle.cp_resolved.specs.TreeLayouts.{components_among}
use Rattle.cp_legend_laws.specs.PlacesTold.{part_text}
use Rattle.cp_legend_laws.specs.Routines.{local_name, own_variables}
use Rattle.cp_story_laws.specs.Routines.{routine_of}

-- ---- what a call executes

-- the routine that was declared last of those that are visible, which in the body of a routine is the routine itself
abbrev pub routine_meant : Scope → Option RoutineMeaning
routine_meant [] = None
routine_meant ((x, routine_meaning r) ∷ s) = Some (routine_in ((x, routine_meaning r) ∷ s) r)
routine_meant (d ∷ s) = routine_meant s

abbrev pub parameters_in : Option RoutineMeaning → List Parameter
parameters_in None = []
parameters_in (Some m) = m.parameters

abbrev pub result_in : Option RoutineMeaning → Option Ty
result_in None = None
result_in (Some m) = m.result

abbrev pub variables_in : Option RoutineMeaning → List Variable
variables_in None = []
variables_in (Some m) = own_variables m

-- the parameters, the result and the variables of the routine of a call
abbrev pub parameters_of : Call → List Parameter
parameters_of c = parameters_in (routine_meant c.scope)

abbrev pub result_of : Call → Option Ty
result_of c = result_in (routine_meant c.scope)

abbrev pub variables_of : Call → List Variable
variables_of c = variables_in (routine_meant c.scope)

-- ---- variables of components

-- the variables and parameters of a system type that have values
abbrev pub permanent_variables : Program → (system : ℕ) → List Variable
permanent_variables p k = components_among false (parameter_variables (system_of p k).parameters ++ (system_of p k).variables)

-- ---- places

-- what is no variable of the source has no name
abbrev pub text_with : Name → Option Ty → List Choice → List ℕ
text_with x None cs = []
text_with x (Some t) cs = part_text x t cs

abbrev pub text_held : View → Holder → Name → List Choice → List ℕ
text_held v (in_component n) x cs = text_with x (look x (permanent_variables v.program (component_at v.components n).system)) cs
text_held v (in_call below) x cs = let c = call_above v.calls below in text_with (local_name (routine_of c) x) (look x (variables_of c)) cs

abbrev pub place_text : View → Place → List ℕ
place_text v q = text_held v q.holder q.name q.choices
