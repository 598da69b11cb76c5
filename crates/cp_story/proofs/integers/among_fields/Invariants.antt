use Rattle.std.proofs.Common.{◌≡◌, drop, map}
use Rattle.cp_symbols.specs.Symbols.{field_symbol_seen}
use Rattle.cp_story.specs.Integers.{among_fields}
use Rattle.cp_story.proofs.integers.among_fields.Given as goal

-- what is left leads where all lead
abbrev pub invariant-loop-field : goal.invariant-loop-field
invariant-loop-field l = among_fields l.known (map field_symbol_seen l.fields) ≡ among_fields l.known (map field_symbol_seen (drop l.field-index l.fields))
