use Rattle.std.proofs.Common.{◌≡◌, drop, map}
use Rattle.std.specs.Prelude.{option_map}
use Rattle.cp_symbols.specs.Symbols.{field_symbol_seen}
use Rattle.cp_legend.specs.Places.{field_at, field_from}
use Rattle.cp_legend.proofs.places.field_at.Given as goal

-- what is left leads where all lead
abbrev pub invariant-loop-field : goal.invariant-loop-field
invariant-loop-field l = field_at (map field_symbol_seen l.fields) l.offset ≡ field_from (option_map (λ f. field_symbol_seen f.now) l.found) (map field_symbol_seen (drop l.field-index l.fields)) l.offset
