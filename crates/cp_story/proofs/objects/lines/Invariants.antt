use Rattle.std.proofs.Common.{◌≡◌, ◌++◌, drop, map}
use Rattle.std.specs.String.{string_bytes}
use Rattle.serde_json.specs.View.{view}
use Rattle.cp_story.specs.Objects.{text_data}
use Rattle.cp_story.proofs.objects.lines.Given as goal

-- what is gathered, with what is left, is all
abbrev pub invariant-loop-line : goal.invariant-loop-line
invariant-loop-line l = map text_data (map string_bytes l.source) ≡ map view l.lines.items ++ map text_data (map string_bytes (drop l.line-index l.source))
