-- What is seen of a resolved program.
use Rattle.std.specs.Prelude.{ℕ, ℤ, List, [], Option, None, map, slice_index_or}
use Rattle.std.specs.String.{string_bytes}
use Rattle.cp_slots.specs.declared.item.Item.{Item}
use Rattle.cp_slots.specs.declared.item.Action.TheVariants.{Empty}
use Rattle.cp_slots.specs.declared.tables.ResolvedRoutine.{ResolvedRoutine}
use Rattle.cp_slots.specs.declared.tables.ComponentKind.TheVariants.{Class}
use Rattle.cp_slots.specs.declared.tables.Component.{Component}
use Rattle.cp_slots.specs.declared.tables.ComponentParameter.{ComponentParameter}
use Rattle.cp_slots.specs.declared.tables.Process.{Process}
use Rattle.cp_slots.specs.declared.tables.SystemType.{SystemType}
use Rattle.cp_slots.specs.declared.tables.Layout.{Layout}

-- what is seen of a routine
pub record RoutineView : Type 0 where
  pub body : Option ℕ
  pub image : List ℤ
  pub references : ℕ
  pub result : ℕ
  pub room : ℕ
  pub reference_room : ℕ
  -- how many permanent cells its component has at least, and how many cells each `var` parameter has
  pub own : ℕ
  pub extents : List ℕ
  -- the system type of its component
  pub system : ℕ

abbrev pub routine_view : ResolvedRoutine → RoutineView
routine_view r =
    record {
      body = r.body;
      image = r.image.items;
      references = r.references;
      result = r.result;
      room = r.room;
      reference_room = r.reference_room;
      own = r.own;
      extents = r.extents.items;
      system = r.system;
    }

-- what is seen of a system type
pub record SystemView : Type 0 where
  pub own : ℕ
  pub parameters : List ComponentParameter

abbrev pub system_view : SystemType → SystemView
system_view s = record { own = s.own; parameters = s.parameters.items }

pub record Tables : Type 0 where
  pub items : List Item
  pub routines : List RoutineView
  pub systems : List SystemView
  pub components : List Component
  pub processes : List Process
  pub monitors : ℕ
  pub permanents : List ℤ
  pub depth : ℕ
  pub cells : ℕ
  pub references : ℕ
  pub arguments : ℕ
  pub names : List (List ℕ)

abbrev pub tables_of : Layout → Tables
tables_of l =
    record {
      items = l.items.items;
      routines = map routine_view l.routines.items;
      systems = map system_view l.systems.items;
      components = l.components.items;
      processes = l.processes.items;
      monitors = l.monitors;
      permanents = l.permanents.items;
      depth = l.depth;
      cells = l.cells;
      references = l.references;
      arguments = l.arguments;
      names = map string_bytes l.names.items;
    }

-- the entries of the tables, with a value past their ends

abbrev pub no_item : Item
no_item = record { action = Empty; next = None; line = 0; routine = 0; need = 0 }

abbrev pub item_at : Tables → ℕ → Item
item_at t at = slice_index_or t.items at no_item

abbrev pub no_routine : RoutineView
no_routine = record { body = None; image = []; references = 0; result = 0; room = 0; reference_room = 0; own = 0; extents = []; system = 0 }

abbrev pub routine_at : Tables → ℕ → RoutineView
routine_at t number = slice_index_or t.routines number no_routine

abbrev pub no_system : SystemView
no_system = record { own = 0; parameters = [] }

abbrev pub system_at : Tables → ℕ → SystemView
system_at t number = slice_index_or t.systems number no_system

abbrev pub no_parameter : ComponentParameter
no_parameter = record { slot = 0; system = 0 }

-- a parameter of a system type that is a component
abbrev pub parameter_at : Tables → (system number : ℕ) → ComponentParameter
parameter_at t system number = slice_index_or (system_at t system).parameters number no_parameter

abbrev pub no_component : Component
no_component = record { kind = Class; base = 0; system = 0 }

abbrev pub component_at : Tables → ℕ → Component
component_at t number = slice_index_or t.components number no_component

abbrev pub no_process : Process
no_process = record { component = 0; routine = 0 }

abbrev pub process_at : Tables → ℕ → Process
process_at t number = slice_index_or t.processes number no_process

-- the spelling of an enumeration constant
abbrev pub name_at : Tables → ℕ → List ℕ
name_at t number = slice_index_or t.names number []
