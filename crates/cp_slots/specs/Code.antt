-- Items as plain data: places, expressions and actions, without where they lie in memory.
use Rattle.std.specs.Prelude.{ℕ, ℤ, Bool, List, [], ◌∷◌, map, Option}
use Rattle.cp_slots.specs.declared.place.PlaceOrigin.{PlaceOrigin}
use Rattle.cp_slots.specs.declared.place.Arithmetic.{Arithmetic}
use Rattle.cp_slots.specs.declared.place.Logic.{Logic}
use Rattle.cp_slots.specs.declared.place.Comparison.{Comparison}
use Rattle.cp_slots.specs.declared.place.SetOperation.{SetOperation}
use Rattle.cp_slots.specs.declared.place.Place as code_place
use Rattle.cp_slots.specs.declared.place.Index as code_index
use Rattle.cp_slots.specs.declared.place.OrdinalExpression as code_expression
use Rattle.cp_slots.specs.declared.place.SetExpression as code_set
use Rattle.cp_slots.specs.declared.place.OrdinalExpression.TheOpen.{OrdinalExpression-F, SetExpression-F, Index-F, Place-F}
use Rattle.cp_slots.specs.declared.place.ComponentPlace as code_component
use Rattle.cp_slots.specs.declared.place.ComponentPlace.TheVariants as component
use Rattle.cp_slots.specs.declared.place.ArgumentValue as code_value
use Rattle.cp_slots.specs.declared.place.ArgumentValue.TheVariants as value
use Rattle.cp_slots.specs.declared.place.Argument as code_argument
use Rattle.cp_slots.specs.declared.item.Said.{Said}
use Rattle.cp_slots.specs.declared.item.ShownKind.{ShownKind}
use Rattle.cp_slots.specs.declared.item.ResolvedArm as code_arm
use Rattle.cp_slots.specs.declared.item.Action as code_action
use Rattle.cp_slots.specs.declared.item.Action.TheVariants as action
use Rattle.cp_slots.specs.declared.item.Item as code_item

-- ---- places and expressions

mutual
  pub data Place : Type 0 where
    -- origin, cells that fields add, indices
    place : PlaceOrigin → ℕ → Indices → Place

  pub data Indices : Type 0 where
    no_indices : Indices
    more_indices : Index → Indices → Indices

  pub data Index : Type 0 where
    -- the index, its least and its last value, and the cells of an element
    index : OrdinalExpression → ℤ → ℤ → ℕ → Index

  pub data OrdinalExpression : Type 0 where
    number : ℤ → OrdinalExpression
    load : Place → OrdinalExpression
    negate : OrdinalExpression → OrdinalExpression
    absolute : OrdinalExpression → OrdinalExpression
    opposite : OrdinalExpression → OrdinalExpression
    successor : OrdinalExpression → ℤ → OrdinalExpression
    predecessor : OrdinalExpression → ℤ → OrdinalExpression
    character : OrdinalExpression → OrdinalExpression
    arithmetic : Arithmetic → OrdinalExpression → OrdinalExpression → OrdinalExpression
    logic : Logic → OrdinalExpression → OrdinalExpression → OrdinalExpression
    compare : Comparison → OrdinalExpression → OrdinalExpression → OrdinalExpression
    same_set : Bool → SetExpression → SetExpression → OrdinalExpression
    member : OrdinalExpression → SetExpression → OrdinalExpression
    is_empty : Place → OrdinalExpression

  pub data SetExpression : Type 0 where
    load_set : Place → SetExpression
    empty_set : SetExpression
    with_element : SetExpression → OrdinalExpression → SetExpression
    combine : SetOperation → SetExpression → SetExpression → SetExpression

abbrev pub indices_of : List Index → Indices
indices_of [] = no_indices
indices_of (i ∷ is) = more_indices i (indices_of is)

-- one level, with each part already seen

abbrev pub place_step : Place-F OrdinalExpression SetExpression Index Place → Place
place_step p = place p.origin p.offset (indices_of p.indices.items)

abbrev pub index_step : Index-F OrdinalExpression SetExpression Index Place → Index
index_step i = index i.at i.low i.high i.size

abbrev pub expression_step : OrdinalExpression-F OrdinalExpression SetExpression Index Place → OrdinalExpression
expression_step (OrdinalExpression-F.Number z) = number z
expression_step (OrdinalExpression-F.«OrdinalExpression::Load» p) = load p
expression_step (OrdinalExpression-F.Negate e) = negate e.value
expression_step (OrdinalExpression-F.Absolute e) = absolute e.value
expression_step (OrdinalExpression-F.Not e) = opposite e.value
expression_step (OrdinalExpression-F.Successor e last) = successor e.value last
expression_step (OrdinalExpression-F.Predecessor e first) = predecessor e.value first
expression_step (OrdinalExpression-F.Character e) = character e.value
expression_step (OrdinalExpression-F.Arithmetic o a b) = arithmetic o a.value b.value
expression_step (OrdinalExpression-F.Logic o a b) = logic o a.value b.value
expression_step (OrdinalExpression-F.Compare o a b) = compare o a.value b.value
expression_step (OrdinalExpression-F.SameSet wanted a b) = same_set wanted a.value b.value
expression_step (OrdinalExpression-F.Member e a) = member e.value a.value
expression_step (OrdinalExpression-F.IsEmpty p) = is_empty p

abbrev pub set_step : SetExpression-F OrdinalExpression SetExpression Index Place → SetExpression
set_step (SetExpression-F.«SetExpression::Load» p) = load_set p
set_step SetExpression-F.Empty = empty_set
set_step (SetExpression-F.With a e) = with_element a.value e.value
set_step (SetExpression-F.Combine o a b) = combine o a.value b.value

-- all levels

abbrev pub expression_seen : code_expression.OrdinalExpression → OrdinalExpression
expression_seen = code_expression.fold-OrdinalExpression OrdinalExpression SetExpression Index Place expression_step set_step index_step place_step

abbrev pub set_seen : code_set.SetExpression → SetExpression
set_seen = code_set.fold-SetExpression OrdinalExpression SetExpression Index Place expression_step set_step index_step place_step

abbrev pub place_seen : code_place.Place → Place
place_seen = code_place.fold-Place OrdinalExpression SetExpression Index Place expression_step set_step index_step place_step

abbrev pub index_seen : code_index.Index → Index
index_seen = code_index.fold-Index OrdinalExpression SetExpression Index Place expression_step set_step index_step place_step

-- ---- components and arguments

pub data ComponentPlace : Type 0 where
  own : ComponentPlace
  contained : ℕ → ComponentPlace
  -- the first, the least and the last index, the stride, the index
  element : ℕ → ℤ → ℤ → ℕ → OrdinalExpression → ComponentPlace
  parameter : ℕ → ComponentPlace

abbrev pub component_seen : code_component.ComponentPlace → ComponentPlace
component_seen component.Own = own
component_seen (component.Contained n) = contained n
component_seen (component.Element first low high stride e) = element first low high stride (expression_seen e.value)
component_seen (component.Parameter slot) = parameter slot

pub data ArgumentValue : Type 0 where
  scalar : OrdinalExpression → ℤ → ℤ → ArgumentValue
  set : SetExpression → ℕ → ℕ → ArgumentValue
  copy : Place → ℕ → ArgumentValue
  reference : Place → ArgumentValue
  component_of : ComponentPlace → ArgumentValue

abbrev pub value_seen : code_value.ArgumentValue → ArgumentValue
value_seen (value.Scalar e low high) = scalar (expression_seen e) low high
value_seen (value.Set e low high) = set (set_seen e) low high
value_seen (value.Copy p size) = copy (place_seen p) size
value_seen (value.Reference p) = reference (place_seen p)
value_seen (value.Component c) = component_of (component_seen c)

pub record Argument : Type 0 where
  pub slot : ℕ
  pub value : ArgumentValue

abbrev pub argument_seen : code_argument.Argument → Argument
argument_seen a = record { slot = a.slot; value = value_seen a.value }

-- ---- items

pub record Arm : Type 0 where
  pub labels : List ℤ
  pub body : Option ℕ

abbrev pub arm_seen : code_arm.ResolvedArm → Arm
arm_seen a = record { labels = a.labels.items; body = a.body }

pub data Action : Type 0 where
  nothing : Action
  assign : Place → OrdinalExpression → ℤ → ℤ → Action
  assign_set : Place → SetExpression → ℕ → ℕ → Action
  -- target, source, cells
  copy_cells : Place → Place → ℕ → Action
  block : Option ℕ → Action
  choose : OrdinalExpression → Option ℕ → Option ℕ → Action
  select : OrdinalExpression → List Arm → Action
  assert_that : OrdinalExpression → Said → Action
  while_do : OrdinalExpression → Option ℕ → ℕ → Action
  until : OrdinalExpression → Option ℕ → ℕ → Action
  -- variable, least, last, from, to, downwards, list
  for_do : PlaceOrigin → ℤ → ℤ → OrdinalExpression → OrdinalExpression → Bool → Option ℕ → Action
  cycle : Option ℕ → Action
  -- routine, component, by a component, arguments, result
  call : ℕ → ComponentPlace → Bool → List Argument → Option ℕ → Action
  start : ComponentPlace → ℕ → List Argument → Action
  delay : Place → Action
  continue_at : Place → Action
  display : OrdinalExpression → ShownKind → Action

abbrev pub action_seen : code_action.Action → Action
action_seen action.Empty = nothing
action_seen (action.Assign p e low high) = assign (place_seen p) (expression_seen e) low high
action_seen (action.AssignSet p e low high) = assign_set (place_seen p) (set_seen e) low high
action_seen (action.Copy p q size) = copy_cells (place_seen p) (place_seen q) size
action_seen (action.Block list) = block list
action_seen (action.If e s t) = choose (expression_seen e) s t
action_seen (action.Case e arms) = select (expression_seen e) (map arm_seen arms.items)
action_seen (action.Assert e said) = assert_that (expression_seen e) said
action_seen (action.While e s again) = while_do (expression_seen e) s again
action_seen (action.Until e s again) = until (expression_seen e) s again
action_seen (action.For variable low high from to down s) = for_do variable low high (expression_seen from) (expression_seen to) down s
action_seen (action.Cycle list) = cycle list
action_seen (action.Call r c is_entry arguments result) = call r (component_seen c) is_entry (map argument_seen arguments.items) result
action_seen (action.Start c r arguments) = start (component_seen c) r (map argument_seen arguments.items)
action_seen (action.Delay p) = delay (place_seen p)
action_seen (action.Continue p) = continue_at (place_seen p)
action_seen (action.Display e kind) = display (expression_seen e) kind

pub record Item : Type 0 where
  pub action : Action
  pub next : Option ℕ
  pub line : ℕ
  pub routine : ℕ
  pub need : ℕ

abbrev pub item_seen : code_item.Item → Item
item_seen i = record { action = action_seen i.action; next = i.next; line = i.line; routine = i.routine; need = i.need }
