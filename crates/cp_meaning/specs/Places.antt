-- Places: where a name's value stands, and how it is read and changed.
use Rattle.std.specs.Prelude.{ℕ, ◌==◌, ◌-◌, suc, if◌then◌else◌, List, [], ◌∷◌, ◌++◌, length, Option, Some, None, pos, slice_set}
use Rattle.cp_tree.specs.Syntax.{Program}
use Rattle.cp_meaning.specs.Names.{Name, same_name, result_name}
use Rattle.cp_meaning.specs.Types.{Ty, ordinal, all_integers}
use Rattle.cp_meaning.specs.Values.{Value, number_value, Choice, the_element, part_at, with_part}
use Rattle.cp_meaning.specs.Scopes.{Meaning, local_variable, permanent_variable, routine_meaning, find, since}
use Rattle.cp_meaning.specs.Declarations.{routine_in}
use Rattle.cp_meaning.specs.Components.{Path, step_down, same_path}
use Rattle.cp_meaning.specs.State.{Holder, in_call, in_component, Place, Content, holds, refers, knows, Environment, Component, component_at, Call, no_call, current}

-- What a statement of a process sees and changes: its open calls, innermost first, and the components.
pub record View : Type 0 where
  pub program : Program
  pub calls : List Call
  pub components : List Component

-- a place, with the type of what stands there
pub record Target : Type 0 where
  pub place : Place
  pub ty : Ty

-- ---- environments

-- what the environment has for a name
abbrev pub content_of : Name → Environment → Option Content
content_of x [] = None
content_of x (b ∷ bs) = if same_name x b.0 then Some b.1 else content_of x bs

-- with this content, whether the name had one or not
abbrev pub with_content : Name → Content → Environment → Environment
with_content x c [] = (x, c) ∷ []
with_content x c (b ∷ bs) = if same_name x b.0 then (b.0, c) ∷ bs else b ∷ with_content x c bs

-- the open call with this number of open calls below it
abbrev pub call_above : List Call → ℕ → Call
call_above [] below = no_call
call_above (c ∷ cs) below = if length cs == below then c else call_above cs below

abbrev pub with_environment : Call → Environment → Call
with_environment c e = record { component = c.component; kind = c.kind; scope = c.scope; environment = e }

abbrev pub with_call_environment : List Call → ℕ → Environment → List Call
with_call_environment [] below e = []
with_call_environment (c ∷ cs) below e = if length cs == below then with_environment c e ∷ cs else c ∷ with_call_environment cs below e

abbrev pub with_permanents : List Component → ℕ → Environment → List Component
with_permanents cs n e =
    let c = component_at cs n in
    slice_set cs n (record { path = c.path; system = c.system; kind = c.kind; status = c.status; environment = e; line = c.line })

-- the names of an open call, or of a component
abbrev pub environment_of : View → Holder → Environment
environment_of v (in_call below) = (call_above v.calls below).environment
environment_of v (in_component n) = (component_at v.components n).environment

abbrev pub with_environment_of : View → Holder → Environment → View
with_environment_of v (in_call below) e = record { program = v.program; calls = with_call_environment v.calls below e; components = v.components }
with_environment_of v (in_component n) e = record { program = v.program; calls = v.calls; components = with_permanents v.components n e }

-- ---- names

abbrev pub this_call : View → Holder
this_call v = in_call (length v.calls - 1)

-- the component whose statement is executed
abbrev pub this_component : View → ℕ
this_component v = (current v.calls).component

abbrev pub plain_place : Holder → Name → Place
plain_place h x = record { holder = h; name = x; choices = [] }

-- a `var` parameter stands for the place that it refers to
abbrev pub referred : Option Content → Place → Place
referred (Some (refers q)) place = q
referred o place = place

abbrev pub result_type : Option Ty → Ty
result_type (Some t) = t
result_type None = ordinal all_integers

-- A function's own name is its result. A name that is no variable has a place that no accepted program uses.
abbrev pub target_meant : View → Name → Option Meaning → Target
target_meant v x (Some (permanent_variable t)) = record { place = plain_place (in_component (this_component v)) x; ty = t }
target_meant v x (Some (local_variable t)) = record { place = referred (content_of x (environment_of v (this_call v))) (plain_place (this_call v) x); ty = t }
target_meant v x (Some (routine_meaning r)) = record { place = plain_place (this_call v) result_name; ty = result_type (routine_in (since x (current v.calls).scope) r).result }
target_meant v x o = record { place = plain_place (this_call v) x; ty = ordinal all_integers }

-- the place and type of a variable by its name
abbrev pub target_named : View → Name → Target
target_named v x = target_meant v x (find x (current v.calls).scope)

-- a part of what stands at a place
abbrev pub with_choice : Place → Choice → Place
with_choice q c = record { holder = q.holder; name = q.name; choices = q.choices ++ c ∷ [] }

-- ---- values at places

abbrev pub value_held : Option Content → Value
value_held (Some (holds w)) = w
value_held o = number_value (pos 0)

-- the value that stands at a place
abbrev pub value_at : View → Place → Value
value_at v q = part_at (value_held (content_of q.name (environment_of v q.holder))) q.choices

-- with the value w at that place
abbrev pub stored : View → Place → Value → View
stored v q w =
    let e = environment_of v q.holder in
    with_environment_of v q.holder (with_content q.name (holds (with_part (value_held (content_of q.name e)) q.choices w)) e)

-- ---- components

-- the place in the list of the component with this path
abbrev pub component_with : Path → List Component → ℕ
component_with path [] = 0
component_with path (c ∷ cs) = if same_path path c.path then 0 else suc (component_with path cs)

abbrev pub element_chosen : List Choice → Option ℕ
element_chosen (the_element n ∷ cs) = Some n
element_chosen cs = None

abbrev pub around_of : View → Holder → Path
around_of v (in_component n) = (component_at v.components n).path
around_of v (in_call below) = []

-- a parameter is the component that it was bound to; a component variable is the component with its path
abbrev pub component_known : View → Place → Option Content → ℕ
component_known v q (Some (knows n)) = n
component_known v q o = component_with (step_down (around_of v q.holder) q.name (element_chosen q.choices)) v.components

-- A component is named by a variable or parameter of the component whose statement names it. The tests are guards: another place has no component, but the
-- number past the last one. An accepted program always passes them, since no routine has a component as a parameter, a variable or a result (C13),
-- and what is called or started is a component (C5, C17).
abbrev pub component_by : View → Place → Holder → ℕ
component_by v q (in_call below) = length v.components
component_by v q (in_component n) = if n == this_component v then component_known v q (content_of q.name (component_at v.components n).environment) else length v.components

-- the component that stands at a place
abbrev pub component_there : View → Place → ℕ
component_there v q = component_by v q q.holder
