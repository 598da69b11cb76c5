-- What a process reads and writes.
use Rattle.std.specs.Prelude.{ℕ, List, ◌++◌, replicate, Result, ℤ}
use Rattle.cp_slots.specs.Tables.{RoutineView}
use Rattle.cp_slots.specs.declared.place.Argument.{Argument}
use Rattle.cp_slots.specs.declared.place.ComponentPlace.{ComponentPlace}
use Rattle.cp_slots.specs.declared.place.OrdinalExpression.{OrdinalExpression}
use Rattle.cp_slots.specs.declared.place.PlaceOrigin.{PlaceOrigin}
use Rattle.cp_slots.specs.declared.place.Place.{Place}
use Rattle.cp_slots.specs.declared.place.SetExpression.{SetExpression}
use Rattle.cp_store.specs.declared.argument.Bound.{Bound}
use Rattle.cp_store.specs.declared.error.ErrorName.{ErrorName}
use Rattle.cp_store.specs.declared.memory.Address.{Address}
use Rattle.cp_store.specs.declared.set.SetValue.{SetValue}
use Rattle.cp_store.specs.Arguments.{bounds_at, bind_frame, bind_component, bindings_after}
use Rattle.cp_store.specs.Components as components
use Rattle.cp_store.specs.Memory.{Memory, nowhere, put_number, put_copy}
use Rattle.cp_store.specs.Places.{value_at, set_at, address_at, origin_address}
use Rattle.cp_store.specs.Sets.{put_set}
use Rattle.cp_machine.specs.Machine.{Machine, Thread, thread_at, with_permanents, with_bindings, with_thread}

abbrev pub memory_at : Machine → ℕ → Memory
memory_at m pid = record { permanents = m.permanents; cells = (thread_at m.threads pid).cells; references = (thread_at m.threads pid).references }

abbrev pub with_memory : Machine → ℕ → Memory → Machine
with_memory m pid x = with_thread (with_permanents m x.permanents) pid (record (thread_at m.threads pid) { cells = x.cells; references = x.references })

-- ---- readings, in the frame that the process executes

abbrev pub value_of : Machine → ℕ → OrdinalExpression → Result ℤ ErrorName
value_of m pid e = value_at (memory_at m pid) (thread_at m.threads pid).frame e

abbrev pub set_of : Machine → ℕ → SetExpression → Result SetValue ErrorName
set_of m pid e = set_at (memory_at m pid) (thread_at m.threads pid).frame e

abbrev pub address_of : Machine → ℕ → Place → Result Address ErrorName
address_of m pid place = address_at (memory_at m pid) (thread_at m.threads pid).frame place

-- where a variable lies
abbrev pub origin_of : Machine → ℕ → PlaceOrigin → Address
origin_of m pid variable = origin_address (thread_at m.threads pid).references (thread_at m.threads pid).frame variable

abbrev pub component_of : Machine → ℕ → ComponentPlace → Result ℕ ErrorName
component_of m pid place = components.component_at (memory_at m pid) m.bindings (thread_at m.threads pid).frame place

abbrev pub arguments_of : Machine → ℕ → List Argument → Result (List Bound) ErrorName
arguments_of m pid arguments = bounds_at (memory_at m pid) m.bindings (thread_at m.threads pid).frame arguments

-- ---- writes

abbrev pub number_put : Machine → ℕ → Address → ℤ → Machine
number_put m pid at v = with_memory m pid (put_number (memory_at m pid) at v)

-- the memory with a set in the cells from an address on
unfoldable pub set_written : Memory → Address → SetValue → Memory
set_written x at v = put_set x at v

abbrev pub set_put : Machine → ℕ → Address → SetValue → Machine
set_put m pid at v = with_memory m pid (set_written (memory_at m pid) at v)

abbrev pub cells_put : Machine → ℕ → (to from : Address) → ℕ → Machine
cells_put m pid to from size = with_memory m pid (put_copy (memory_at m pid) to from size)

-- ---- frames and parameters

-- a frame more for a routine
abbrev pub add_frame : Thread → RoutineView → Thread
add_frame t routine = record t { cells = t.cells ++ routine.image; references = t.references ++ replicate routine.references nowhere }

-- the parameters of the frame that the process executes are bound
abbrev pub frame_bound : Machine → ℕ → List Argument → List Bound → Machine
frame_bound m pid arguments bounds = with_memory m pid (bind_frame (memory_at m pid) (thread_at m.threads pid).frame arguments bounds)

-- the parameters of a component are bound, whose permanent cells begin at base
abbrev pub parameters_bound : Machine → ℕ → (base : ℕ) → List Argument → List Bound → Machine
parameters_bound m pid base arguments bounds =
    with_bindings (with_memory m pid (bind_component (memory_at m pid) base arguments bounds)) (bindings_after m.bindings base arguments bounds)

-- no parameter is bound to a component
abbrev pub no_bindings : ℕ → List ℕ
no_bindings cells = replicate cells 0
