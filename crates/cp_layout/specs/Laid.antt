-- The tables of a tree, as a function of the tree: what `lay_out` gives.
-- It has the shape of the code on purpose, so that each function of the code is one equation. What makes tables those of a program, in the terms of the language,
-- is said by relations in `cp_resolved`, which are proved there of this function and not of the code.
use Rattle.std.specs.Prelude.{ℕ, ◌-◌, max, ℤ, List, [], ◌∷◌, ◌++◌, map, length, Option, Some, None, slice_get}
use Rattle.cp_tree.specs.Syntax.{Tree}
use Rattle.cp_slots.specs.declared.tables.Component.{Component}
use Rattle.cp_slots.specs.declared.tables.Process.{Process}
use Rattle.cp_layout.specs.declared.tables.RoomNeed.{RoomNeed}
use Rattle.cp_slots.specs.Tables.{Tables, RoutineView, SystemView}
use Rattle.cp_slots.specs.Code.{Item, item_seen}
use Rattle.cp_symbols.specs.Kinds.{plus}
use Rattle.cp_layout.specs.Layers.{Layer, Owned, System, need_of, nothing_laid}
use Rattle.cp_layout.specs.LaidDeclarations.{program}
use Rattle.cp_layout.specs.LaidComponents.{Listing, components_of_program}

-- tables whose items are plain data
pub record PlainTables : Type 0 where
  pub items : List Item
  pub routines : List RoutineView
  pub systems : List SystemView
  pub components : List Component
  pub processes : List Process
  pub monitors : ℕ
  pub permanents : List ℤ
  pub depth : ℕ
  pub cells : ℕ
  pub references : ℕ
  pub arguments : ℕ
  pub names : List (List ℕ)

abbrev pub plain : Tables → PlainTables
plain t =
    record {
      items = map item_seen t.items;
      routines = t.routines;
      systems = t.systems;
      components = t.components;
      processes = t.processes;
      monitors = t.monitors;
      permanents = t.permanents;
      depth = t.depth;
      cells = t.cells;
      references = t.references;
      arguments = t.arguments;
      names = t.names;
    }

-- ---- system types

abbrev pub system_type : Owned → SystemView
system_type o = record { own = o.cells; parameters = o.parameters }

abbrev pub types_of : List System → List SystemView
types_of ss = map (λ s. system_type s.owned) ss

-- the program is the last
abbrev pub system_types : List System → Owned → List SystemView
system_types ss o = types_of ss ++ system_type o ∷ []

-- ---- what each process may need

abbrev pub room_with : RoomNeed → RoutineView → (depth : ℕ) → RoomNeed
room_with r routine depth = record { depth = max r.depth depth; cells = max r.cells routine.room; references = max r.references routine.reference_room }

abbrev pub room_for : Layer → RoomNeed → Option RoutineView → RoomNeed
room_for l r None = r
room_for l r (Some routine) = room_with r routine (plus (need_of l.items routine.body) 1)

unfoldable pub room_from : Layer → RoomNeed → List Process → RoomNeed
room_from l r [] = r
room_from l r (p ∷ ps) = room_from l (room_for l r (slice_get l.routines p.routine)) ps

abbrev pub no_room : RoomNeed
no_room = record { depth = 1; cells = 0; references = 0 }

-- ---- the tables

abbrev pub tables_with : Layer → Listing → RoomNeed → PlainTables
tables_with l c r =
    record {
      items = l.items;
      routines = l.routines;
      systems = system_types l.systems l.owned;
      components = c.components;
      processes = c.processes;
      monitors = c.monitors;
      permanents = c.permanents;
      depth = r.depth;
      cells = r.cells;
      references = r.references;
      arguments = l.arguments;
      names = l.constants;
    }

abbrev pub tables_of_components : Layer → Listing → PlainTables
tables_of_components l c = tables_with l c (room_from l no_room c.processes)

-- the program is a process, and its initial statement is the last routine
unfoldable pub tables_laid : Layer → PlainTables
tables_laid l = tables_of_components l (components_of_program l.types l.systems l.owned (length l.routines - 1))

-- all that is laid out of a tree
abbrev pub whole : Tree → Layer
whole t = program (nothing_laid t.lines) t.program

unfoldable pub laid : Tree → PlainTables
laid t = tables_laid (whole t)
