use Rattle.std.proofs.Common.{◌≡◌, map, take}
use Rattle.std.specs.String.{string_bytes}
use Rattle.cp_layout.proofs.lists.Lists.constant_symbols.Given as goal

-- those that are gathered
abbrev pub invariant-loop-name : goal.invariant-loop-name
invariant-loop-name l = map string_bytes l.names.items ≡ map string_bytes (take l.name-index l.self.constants.items)
