-- The layouts of a tree, by what is laid out of it: each name lies where it lies in the state in which the statements begin.
use Rattle.std.specs.Prelude.{ℕ, ◌+◌, ◌-◌, Bool, true, false, if◌then◌else◌, List, [], ◌∷◌, ◌++◌, length, Option, Some, None, slice_get}
use Rattle.cp_tree.specs.Syntax.{Definition, type_definition, system_definition, SystemDefinition, ProgramPart, program_constants, program_types, program_variables, Program, Tree}
use Rattle.cp_slots.specs.declared.place.PlaceOrigin.{PlaceOrigin}
use Rattle.cp_slots.specs.declared.place.PlaceOrigin.TheVariants.{Permanent, Local}
use Rattle.cp_symbols.specs.declared.names.LayoutMeaning.{LayoutMeaning}
use Rattle.cp_symbols.specs.declared.names.LayoutMeaning.TheVariants as meaning
use Rattle.cp_layout.specs.Layers as layers
use Rattle.cp_layout.specs.Layers.{Layer, System, nothing_laid, own_result}
use Rattle.cp_layout.specs.LaidExpressions.{component_count}
use Rattle.cp_layout.specs.LaidDeclarations as laid
use Rattle.cp_meaning.specs.Names.{Name, temporary, result_name}
use Rattle.cp_meaning.specs.Types.{Ty, has_components}
use Rattle.cp_meaning.specs.Scopes.{Scope}
use Rattle.cp_meaning.specs.Declarations.{Variable, Parameter, RoutineMeaning}
use Rattle.cp_meaning.specs.Systems.{program_system, system_of}
use Rattle.cp_meaning.specs.State.{Item, function_call}
use Rattle.cp_meaning.specs.Expressions.{result_called, routine_called}
use Rattle.cp_meaning.specs.Steps.{parameter_variables}
use Rattle.cp_resolved.specs.Begun.{parts_begun, all_begun}
use Rattle.cp_resolved.specs.Calls.{all_calls_laid, calls_before}
use Rattle.cp_resolved.specs.Layouts.{FrameLayout, SystemLayout, Layouts}
use Rattle.cp_resolved.specs.Openings.{Opening, openings_of, meaning_at}

-- ---- the states in which the routines of system types begin, after their parameters and parts

abbrev pub definition_parts : Layer → Definition → List Layer
definition_parts l (type_definition t) = []
definition_parts l (system_definition s) = parts_begun l s ∷ []

abbrev pub definitions_parts : Layer → List SystemDefinition → List Layer
definitions_parts l [] = []
definitions_parts l (d ∷ ds) = definition_parts l d.value ++ definitions_parts (laid.system_definition l d) ds

abbrev pub part_parts : Layer → ProgramPart → List Layer
part_parts l (program_constants at ds) = []
part_parts l (program_types at ds) = definitions_parts l ds
part_parts l (program_variables at gs) = []

abbrev pub program_parts_parts : Layer → List ProgramPart → List Layer
program_parts_parts l [] = []
program_parts_parts l (p ∷ ps) = part_parts l p ++ program_parts_parts (laid.program_part l p) ps

-- by the numbers of the system types; those of the program itself come last
abbrev pub all_parts : Tree → List Layer
all_parts t = program_parts_parts (nothing_laid t.lines) t.program.parts ++ laid.program_parts (nothing_laid t.lines) t.program.parts ∷ []

abbrev pub layer_or : Layer → Option Layer → Layer
layer_or other None = other
layer_or other (Some l) = l

-- where the routines of a system type begin, and where the statements of a routine begin
abbrev pub parts_at : Tree → ℕ → Layer
parts_at t k = layer_or (nothing_laid t.lines) (slice_get (all_parts t) k)

abbrev pub begun_at : Tree → ℕ → Layer
begun_at t n = layer_or (nothing_laid t.lines) (slice_get (all_begun t) n)

-- after the whole program
abbrev pub whole_laid : Tree → Layer
whole_laid t = laid.program (nothing_laid t.lines) t.program

-- ---- frames

abbrev pub origin_in : PlaceOrigin → Option LayoutMeaning → PlaceOrigin
origin_in other (Some (meaning.Variable o v)) = o
origin_in other m = other

-- of a temporary name the cell of its call, and else that of the result
abbrev pub hidden_origin : Layer → List Item → Name → PlaceOrigin
hidden_origin l is (c ∷ at ∷ xs) = Local (length l.frame.image + calls_before at is)
hidden_origin l is x = Local (own_result l)

abbrev pub parameters_by : Bool → List Parameter → List Variable
parameters_by is_var [] = []
parameters_by true (q ∷ qs) = if q.is_var then (let v : Variable = record { name = q.name; ty = q.ty } in v) ∷ parameters_by true qs else parameters_by true qs
parameters_by false (q ∷ qs) = if q.is_var then parameters_by false qs else (let v : Variable = record { name = q.name; ty = q.ty } in v) ∷ parameters_by false qs

abbrev pub result_variables : Option Ty → List Variable
result_variables None = []
result_variables (Some t) = (let v : Variable = record { name = result_name; ty = t } in v) ∷ []

abbrev pub call_variables : Program → Scope → List Item → List Variable
call_variables p s [] = []
call_variables p s (function_call at d es ∷ is) = (let v : Variable = record { name = temporary at; ty = result_called (routine_called p s d) } in v) ∷ call_variables p s is
call_variables p s (i ∷ is) = call_variables p s is

abbrev pub frame_layout : Program → RoutineMeaning → Layer → FrameLayout
frame_layout p m l =
    record {
      origins = λ x. origin_in (hidden_origin l (all_calls_laid m.scope m.body) x) (layers.find x l.names);
      variables = call_variables p m.scope (all_calls_laid m.scope m.body) ++ (result_variables m.result ++ (parameters_by false m.parameters ++ m.variables));
      references = parameters_by true m.parameters;
    }

-- ---- system types

abbrev pub slot_in : Option LayoutMeaning → ℕ
slot_in (Some (meaning.Variable (Permanent n) v)) = n
slot_in (Some (meaning.Bound n k)) = n
slot_in m = 0

abbrev pub first_in : Option LayoutMeaning → ℕ
first_in (Some (meaning.Contained n v)) = n
first_in m = 0

abbrev pub components_among : Bool → List Variable → List Variable
components_among b [] = []
components_among true (v ∷ vs) = if has_components v.ty then v ∷ components_among true vs else components_among true vs
components_among false (v ∷ vs) = if has_components v.ty then components_among false vs else v ∷ components_among false vs

-- the initial statement of the program is its last routine
abbrev pub initial_or : ℕ → Option System → ℕ
initial_or last None = last
initial_or last (Some s) = s.initial

abbrev pub system_layout : Tree → ℕ → SystemLayout
system_layout t k =
    record {
      slots = λ x. slot_in (layers.find x (parts_at t k).names);
      variables = components_among false (parameter_variables (system_of t.program k).parameters ++ (system_of t.program k).variables);
      parts = components_among true (parameter_variables (system_of t.program k).parameters);
      firsts = λ x. first_in (layers.find x (parts_at t k).names);
      initial = initial_or (length (whole_laid t).routines - 1) (slice_get (whole_laid t).systems k);
      count = component_count (whole_laid t) k;
    }

-- ---- all

abbrev pub owner_in : ℕ → Option Opening → ℕ
owner_in other None = other
owner_in other (Some o) = o.owner

-- only a function's name stands for a result
abbrev pub name_with : Option Name → Option Ty → Option Name
name_with x None = None
name_with x (Some t) = x

abbrev pub name_in : Option Opening → Option Name
name_in None = None
name_in (Some o) = name_with o.name o.meaning.result

abbrev pub layouts_of : Tree → Layouts
layouts_of t =
    record {
      systems = system_layout t;
      frames = λ n. frame_layout t.program (meaning_at t.program n) (begun_at t n);
      meanings = meaning_at t.program;
      owners = λ n. owner_in (program_system t.program) (slice_get (openings_of t.program) n);
      names = λ n. name_in (slice_get (openings_of t.program) n);
    }
