use Rattle.std.proofs.Common.{◌≡◌, drop, map}
use Rattle.std.specs.List.{list_any}
use Rattle.cp_symbols.specs.Symbols.{type_symbol_seen}
use Rattle.cp_story.specs.Integers.{in_compound}
use Rattle.cp_story.proofs.integers.among_types.Given as goal

-- what is left leads where all lead
abbrev pub invariant-loop-compound : goal.invariant-loop-compound
invariant-loop-compound l = list_any (in_compound l.known) (map type_symbol_seen l.types) ≡ list_any (in_compound l.known) (map type_symbol_seen (drop l.compound-index l.types))
