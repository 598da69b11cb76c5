-- What the names of a program stand for, as it is told to those who ask.
use Rattle.std.specs.Prelude.{ℕ, List, map, Option}
use Rattle.std.specs.String.{string_bytes}
use Rattle.cp_symbols.specs.declared.names.LayoutMeaning.{LayoutMeaning}
use Rattle.cp_symbols.specs.declared.symbols.FunctionResult.{FunctionResult}
use Rattle.cp_symbols.specs.declared.symbols.Symbol as code_symbol
use Rattle.cp_symbols.specs.declared.symbols.RoutineSymbol as code_routine
use Rattle.cp_symbols.specs.declared.symbols.FieldSymbol as code_field
use Rattle.cp_symbols.specs.declared.symbols.TypeSymbol as code_type
use Rattle.cp_symbols.specs.declared.symbols.TypeSymbol.TheVariants as code_types
use Rattle.cp_symbols.specs.Kinds.{Compound, array, record_with, Field}

-- A name that was declared with what it stands for, how many routines there were then, and the system type that declares it. It stays noted when it is no longer
-- visible.
pub record Noted : Type 0 where
  pub name : List ℕ
  pub meaning : LayoutMeaning
  pub routine : ℕ
  pub system : Option ℕ

-- a name that is declared, but for constants of enumerations
abbrev pub symbol_seen : code_symbol.Symbol → Noted
symbol_seen s = record { name = string_bytes s.name; meaning = s.meaning; routine = s.routine; system = s.system }

-- a routine by its name, how many parameters it has, and its result
pub record RoutineName : Type 0 where
  pub name : List ℕ
  pub parameters : ℕ
  pub result : Option FunctionResult

abbrev pub routine_seen : code_routine.RoutineSymbol → RoutineName
routine_seen r = record { name = string_bytes r.name; parameters = r.parameters; result = r.result }

abbrev pub field_symbol_seen : code_field.FieldSymbol → Field
field_symbol_seen f = record { name = string_bytes f.name; value_type = f.value_type; offset = f.offset }

abbrev pub type_symbol_seen : code_type.TypeSymbol → Compound
type_symbol_seen (code_types.Array a) = array a
type_symbol_seen (code_types.Record fs cells) = record_with (map field_symbol_seen fs.items) cells
