-- Which processes a name of an expectation means.
use Rattle.std.specs.Prelude.{◌&&◌, ◌||◌, ◌==◌, ℕ, List, [], ◌∷◌, Bool, true, false, not, map, length, nat_lt, Option, Some, None, string_bytes}
use Rattle.std.specs.List.{list_all, list_any, range_with_len}
use Rattle.std.specs.Str.{bytes_eq, all_ascii_digits}
use Rattle.std.specs.Str.Parse.{digits_value, without_leading_plus}
use Rattle.std.specs.declared.alloc.Global.{Global}
use Rattle.std.specs.declared.string.String.{String}
use Rattle.cp_expectation.specs.declared.expectation.EndPattern.{EndPattern}
use Rattle.cp_expectation.specs.declared.expectation.EndPattern.TheVariants as pattern
use Rattle.cp_expectation.specs.declared.expectation.Topic.{Topic}
use Rattle.cp_expectation.specs.declared.expectation.Topic.TheVariants as topic
use Rattle.cp_legend.specs.Names.{Named, SystemName, component_seen, path_in, process_count, process_in, system_seen, type_in}
use Rattle.cp_legend.specs.declared.legend.Legend as code_legend
use Rattle.cp_walk.specs.Text.{Spellings}

-- the components and system types of a program, by their names
pub record Processes : Type 0 where
  pub components : List Named
  pub systems : List SystemName

abbrev pub processes_of : code_legend.Legend → Processes
processes_of l = record { components = map component_seen l.components.items; systems = map system_seen l.systems.items }

-- with the texts of the values that are displayed by names
pub record Names : Type 0 where
  pub values : Spellings
  pub processes : Processes

-- decimal digits, perhaps behind a plus, and this number by them
abbrev pub is_number_of : List ℕ → ℕ → Bool
is_number_of name q = let ds = without_leading_plus name in (nat_lt 0 (length ds) && all_ascii_digits ds) && (digits_value 10 ds == q)

-- the path itself, or that of an array of which it is an element
abbrev pub is_path_of : (name path : List ℕ) → Bool
is_path_of [] [] = true
is_path_of [] (c ∷ cs) = c == 91
is_path_of (n ∷ ns) [] = false
is_path_of (n ∷ ns) (c ∷ cs) = (n == c) && is_path_of ns cs

-- the type of this name; the program has none
abbrev pub is_type_of : (name type : List ℕ) → Bool
is_type_of name type = not (length name == 0) && bytes_eq type name

-- by its number, by its name or that of an array, or by its type
abbrev pub is_called : Processes → List ℕ → ℕ → Bool
is_called ps name q = is_number_of name q || (is_path_of name (path_in (process_in ps.components q)) || is_type_of name (type_in ps.systems (process_in ps.components q)))

-- a process that is named, or anybody
abbrev pub is_meant : Processes → Option (String Global) → ℕ → Bool
is_meant ps None q = true
is_meant ps (Some name) q = is_called ps (string_bytes name) q

-- some process is called so
abbrev pub is_known : Processes → List ℕ → Bool
is_known ps name = list_any (λ q. is_called ps name q) (range_with_len 0 (process_count ps.components))

-- each name of processes means some process of the program
abbrev pub is_known_perhaps : Processes → Option (String Global) → Bool
is_known_perhaps ps None = true
is_known_perhaps ps (Some name) = is_known ps (string_bytes name)

abbrev pub knows_end : Processes → EndPattern → Bool
knows_end ps (pattern.AllWaiting (Some who)) = list_all (λ name. is_known ps (string_bytes name)) who.processes.items
knows_end ps (pattern.Alone process) = is_known_perhaps ps process
knows_end ps (pattern.Spins process) = is_known_perhaps ps process
knows_end ps end = true

abbrev pub knows_processes : Processes → Topic → Bool
knows_processes ps (topic.End end output) = knows_end ps end
knows_processes ps (topic.Shown text) = true
knows_processes ps (topic.Waiting process) = is_known_perhaps ps process
