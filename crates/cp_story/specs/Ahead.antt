-- Which statements processes may come to: those at which the lists on their control stacks go on, and step by step what may come after each.
use Rattle.std.specs.Prelude.{ℕ, suc, zero, ◌+◌, ◌==◌, ◌&&◌, ◌*◌, ℤ, neg_ℤ, ◌-ℤ◌, int_le, unsigned_abs, nat_lt, Bool, if◌then◌else◌, List, [], ◌∷◌, ◌++◌, length, Option, Some, None, slice_get, slice_index_or, unwrap_or}
use Rattle.std.specs.List.{list_any}
use Rattle.cp_slots.specs.declared.item.Action.{Action}
use Rattle.cp_slots.specs.declared.item.Action.TheVariants as action
use Rattle.cp_slots.specs.declared.item.ResolvedArm.{ResolvedArm}
use Rattle.cp_slots.specs.declared.place.ComponentPlace.{ComponentPlace}
use Rattle.cp_slots.specs.declared.place.ComponentPlace.TheVariants.{Own, Contained, Element, Parameter}
use Rattle.cp_slots.specs.declared.place.Place as code_place
use Rattle.cp_slots.specs.declared.place.Index as code_index
use Rattle.cp_slots.specs.declared.place.OrdinalExpression as code_expression
use Rattle.cp_slots.specs.declared.place.OrdinalExpression.TheOpen.{OrdinalExpression-F}
use Rattle.cp_slots.specs.declared.place.SetExpression as code_set
use Rattle.cp_slots.specs.declared.tables.Process.{Process}
use Rattle.cp_slots.specs.Tables.{Tables, item_at, process_at, routine_at}
use Rattle.cp_symbols.specs.Kinds.{plus, times}
use Rattle.cp_legend.specs.Names.{Legend, Named}
use Rattle.cp_machine.specs.declared.process.Entry.{Entry}
use Rattle.cp_machine.specs.declared.process.Entry.TheVariants.{Rest, Successor, Return, InitEnd}
use Rattle.cp_machine.specs.Machine.{Machine, Thread, thread_at}
use Rattle.cp_story.specs.declared.ahead.Ahead.{Ahead}

-- ---- a statement, by its item, of a process in a component

abbrev pub is_one : Ahead → Ahead → Bool
is_one a b = b.process == a.process && b.component == a.component && b.at == a.at

abbrev pub with_one : List Ahead → Ahead → List Ahead
with_one found a = if list_any (is_one a) found then found else found ++ a ∷ []

-- the first of a list, if there is one
abbrev pub with_list : (process component : ℕ) → List Ahead → Option ℕ → List Ahead
with_list p c found None = found
with_list p c found (Some at) = with_one found (record { process = p; component = c; at = at })

-- ---- an element, by its index

abbrev pub negated_by : OrdinalExpression-F code_expression.OrdinalExpression code_set.SetExpression code_index.Index code_place.Place → Option ℤ
negated_by (OrdinalExpression-F.Number z) = Some (neg_ℤ z)
negated_by _ = None

-- that of a number with a minus
abbrev pub negated : code_expression.OrdinalExpression → Option ℤ
negated e = negated_by (code_expression.out-OrdinalExpression e)

abbrev pub written_by : OrdinalExpression-F code_expression.OrdinalExpression code_set.SetExpression code_index.Index code_place.Place → Option ℤ
written_by (OrdinalExpression-F.Number z) = Some z
written_by (OrdinalExpression-F.Negate e) = negated e.value
written_by _ = None

-- the value of an index that is written as a number or a constant, maybe with a minus; any other is computed
abbrev pub written_index : code_expression.OrdinalExpression → Option ℤ
written_index e = written_by (code_expression.out-OrdinalExpression e)

-- where the element of an index begins, if the array has one
abbrev pub element_at : (first : ℕ) → (low high : ℤ) → (size : ℕ) → ℤ → Option ℕ
element_at first low high size z = if int_le low z && int_le z high then Some (plus first (times (unsigned_abs (z -ℤ low)) size)) else None

-- ---- on a control stack, from its top

abbrev pub with_rest : (process component : ℕ) → List Ahead → Entry → List Ahead
with_rest p c found (Rest at) = with_list p c found (Some at)
with_rest p c found (Successor at value last) = with_list p c found (Some at)
with_rest p c found _ = found

-- the component in which the entries below go on
abbrev pub component_under : (component : ℕ) → Entry → ℕ
component_under c (Return caller result monitor) = caller.component
component_under c (InitEnd caller component) = caller.component
component_under c _ = c

abbrev pub with_rests : (process component : ℕ) → List Ahead → List Entry → List Ahead
with_rests p c found [] = found
with_rests p c found (e ∷ es) = with_rests p (component_under c e) (with_rest p c found e) es

abbrev pub begun_by : Machine → (process : ℕ) → List Ahead → List Ahead
begun_by m p found = with_rests p (thread_at m.threads p).frame.component found (thread_at m.threads p).stack

-- those of the first processes
abbrev pub begun_below : Machine → (processes : ℕ) → List Ahead
begun_below m zero = []
begun_below m (suc n) = begun_by m n (begun_below m n)

-- ---- after a statement

abbrev pub with_arms : (process component : ℕ) → List Ahead → List ResolvedArm → List Ahead
with_arms p c found [] = found
with_arms p c found (arm ∷ arms) = with_arms p c (with_list p c found arm.body) arms

-- in the component of a number, if there is one
abbrev pub with_list_at : (process : ℕ) → List Ahead → (body component : Option ℕ) → List Ahead
with_list_at p found body None = found
with_list_at p found body (Some c) = with_list p c found body

-- in the first elements of an array of components
abbrev pub with_elements : (process first stride elements : ℕ) → List Ahead → Option ℕ → List Ahead
with_elements p first stride zero found body = found
with_elements p first stride (suc n) found body = with_list p (plus first (times n stride)) (with_elements p first stride n found body) body

-- in the element of this index, or in each where the index is computed
abbrev pub with_elements_at : (process first : ℕ) → (low high : ℤ) → (stride : ℕ) → List Ahead → (body : Option ℕ) → (index : Option ℤ) → List Ahead
with_elements_at p first low high stride found body (Some z) = with_list_at p found body (element_at first low high stride z)
with_elements_at p first low high stride found body None = with_elements p first stride (unsigned_abs (high -ℤ low) + 1) found body

-- the component that the parameter in a cell is bound to
abbrev pub bound_in : Machine → (slot : ℕ) → Option Named → ℕ
bound_in m slot None = 0
bound_in m slot (Some c) = slice_index_or m.bindings (plus c.base slot) 0

-- a routine, in each component that a place may name
abbrev pub with_called : Legend → Machine → Ahead → ComponentPlace → List Ahead → (body : Option ℕ) → List Ahead
with_called l m a Own found body = with_list a.process a.component found body
with_called l m a (Contained number) found body = with_list a.process (plus a.component number) found body
with_called l m a (Element first low high stride index) found body = with_elements_at a.process (plus a.component first) low high stride found body (written_index index.value)
with_called l m a (Parameter slot) found body = with_list a.process (bound_in m slot (slice_get l.components a.component)) found body

abbrev pub begins_with : (routine : ℕ) → Process → Bool
begins_with routine p = p.routine == routine

-- what an item executes; the initial statement of a process is executed by that process
abbrev pub with_inner : Legend → Tables → Machine → Ahead → List Ahead → Action → List Ahead
with_inner l r m a found (action.Block list) = with_list a.process a.component found list
with_inner l r m a found (action.Cycle list) = with_list a.process a.component found list
with_inner l r m a found (action.For variable low high first last down body) = with_list a.process a.component found body
with_inner l r m a found (action.If test then_list otherwise) = with_list a.process a.component (with_list a.process a.component found then_list) otherwise
with_inner l r m a found (action.Case selector arms) = with_arms a.process a.component found arms.items
with_inner l r m a found (action.While test body again) = with_list a.process a.component (with_list a.process a.component found body) (Some again)
with_inner l r m a found (action.Until test body again) = with_list a.process a.component (with_list a.process a.component found body) (Some again)
with_inner l r m a found (action.Call routine component is_entry arguments result) = with_called l m a component found (routine_at r routine).body
with_inner l r m a found (action.Start component routine arguments) = if list_any (begins_with routine) r.processes then found else with_called l m a component found (routine_at r routine).body
with_inner l r m a found _ = found

abbrev pub with_after : Legend → Tables → Machine → List Ahead → Ahead → List Ahead
with_after l r m found a = with_inner l r m a (with_list a.process a.component found (item_at r a.at).next) (item_at r a.at).action

-- ---- all

-- how many items there are: those of the program itself are laid out last, and of these the first one last of all
abbrev pub count_to : Option ℕ → ℕ
count_to None = 0
count_to (Some last) = plus last 1

abbrev pub item_count : Tables → ℕ
item_count r = count_to (routine_at r (process_at r 0).routine).body

abbrev pub after_known : Legend → Tables → Machine → List Ahead → Ahead → List Ahead
after_known l r m found a = if nat_lt a.at (item_count r) then with_after l r m found a else found

abbrev pub no_ahead : Ahead
no_ahead = record { process = 0; component = 0; at = 0 }

-- those that are found, with what may come after each from a place on, for so many
abbrev pub followed : Legend → Tables → Machine → (steps place : ℕ) → List Ahead → List Ahead
followed l r m zero place found = found
followed l r m (suc n) place found = if nat_lt place (length found) then followed l r m n (place + 1) (after_known l r m found (slice_index_or found place no_ahead)) else found

-- more than there may be statements of processes in components
abbrev pub most_ahead : Legend → Tables → ℕ
most_ahead l r = times (times (length r.processes) (length l.components)) (item_count r)

abbrev pub statements_ahead : Legend → Tables → Machine → List Ahead
statements_ahead l r m = followed l r m (most_ahead l r) 0 (begun_below m (length m.threads))
