use Rattle.std.proofs.Common.{◌≡◌, map, take}
use Rattle.cp_layout.specs.Kinds.{field_seen}
use Rattle.cp_symbols.specs.Symbols.{field_symbol_seen}
use Rattle.cp_layout.proofs.kinds.field_symbols.Given as goal

-- those that are gathered
abbrev pub invariant-loop-field : goal.invariant-loop-field
invariant-loop-field l = map field_symbol_seen l.symbols.items ≡ map field_seen (take l.field-index l.fields)
