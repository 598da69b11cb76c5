use Rattle.std.proofs.Common.{◌≡◌, ◌++◌, map, string_bytes, take}
use Rattle.cp_outcomes.specs.Text.{numbered_text}
use Rattle.cp_outcomes.specs.Told.{setting_of, told_of}
use Rattle.cp_outcomes.proofs.texts.push_outcomes.Given as goal

abbrev pub invariant-loop-index : goal.invariant-loop-index
invariant-loop-index l = string_bytes l.text ≡ string_bytes l.initial.text ++ numbered_text (setting_of l.subject l.subject.limits.choices) l.width l.whole 1 (map told_of (take l.index l.told))
