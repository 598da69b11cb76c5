-- What is answered with `--at-once`: the report of what a search found that makes kernel calls at once, and whether each kept state was expanded.
use Rattle.std.specs.Prelude.{◌≡◌, ℕ, List, Bool, true, false}
use Rattle.cp_tree.specs.Syntax.{Tree}
use Rattle.cp_slots.specs.Tables.{Tables}
use Rattle.cp_resolved.specs.Enumerations.{constant_names}
use Rattle.cp_ends.specs.Holds.{SlotFindings}
use Rattle.cp_at_once.specs.Told.{AreFindings, at_once_text}
use Rattle.cp_tool.specs.declared.options.Options.{Options}
use Rattle.cp_tool.specs.declared.answer.Verdict.{Verdict}
use Rattle.cp_tool.specs.declared.answer.Verdict.TheVariants.{Reported, TooManyStates}

abbrev pub verdict_at_once : (whole : Bool) → Verdict
verdict_at_once true = Reported
verdict_at_once false = TooManyStates

abbrev pub IsAtOnceReport : Options → Tree → Tables → Verdict → List ℕ → Type 0
IsAtOnceReport o t r verdict text =
    (f : SlotFindings) × (whole : Bool) × AreFindings r o.discipline o.steps o.states f whole × (verdict ≡ verdict_at_once whole) × (text ≡ at_once_text (constant_names t.program) f whole)
