-- What the names of a program stand for, as it is told to those who ask.
use Rattle.std.specs.Prelude.{◌≡◌, map, length}
use Rattle.std.specs.String.{string_bytes}
use Rattle.cp_symbols.specs.declared.symbols.SystemSymbol as code_system
use Rattle.cp_symbols.specs.declared.symbols.Symbols as code_symbols
use Rattle.cp_symbols.specs.Symbols.{RoutineName, symbol_seen, routine_seen, type_symbol_seen}
use Rattle.cp_layout.specs.Layers.{Layer, Heading, System}

abbrev pub name_of_routine : Heading → RoutineName
name_of_routine h = record { name = h.name; parameters = length h.parameters; result = h.result }

-- a system type, with how many components one is
abbrev pub symbol_of_system : System → code_system.SystemSymbol
symbol_of_system s = record { kind = s.kind; components = s.owned.count }

-- Symbols are those of what is laid out: each name that was declared, in their order, with what the layout itself takes it for; and each routine, system type, array,
-- record and constant of an enumeration has its own name and form at its number.
pub record AreSymbolsOf (s : code_symbols.Symbols) (l : Layer) : Type 0 where
  pub declared : map symbol_seen s.declared.items ≡ l.noted
  pub routines : map routine_seen s.routines.items ≡ map name_of_routine l.headings
  pub systems : s.systems.items ≡ map symbol_of_system l.systems
  pub types : map type_symbol_seen s.types.items ≡ l.types
  pub constants : map string_bytes s.constants.items ≡ l.constants
