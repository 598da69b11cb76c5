-- What is answered with `--waits`, where all states were found: after the report of what was found, who may wait for ever, and what that says is so.
use Rattle.std.specs.Prelude.{◌≡◌, ℕ, List, ◌++◌, None}
use Rattle.cp_tree.specs.Syntax.{Tree}
use Rattle.cp_slots.specs.Tables.{Tables}
use Rattle.cp_resolved.specs.Enumerations.{constant_names}
use Rattle.cp_ends.specs.Holds.{SlotFindings}
use Rattle.cp_ends.specs.Told.{ends_text}
use Rattle.cp_waits.specs.Named.{TellWho}
use Rattle.cp_waits.specs.Told.{waits_text}
use Rattle.cp_waits.specs.declared.waiting.Waits.{Waits}
use Rattle.cp_waits.specs.declared.waiting.Waits.TheVariants as waits
use Rattle.cp_tool.specs.declared.options.Options.{Options}
use Rattle.cp_tool.specs.declared.answer.Verdict.{Verdict}
use Rattle.cp_tool.specs.declared.answer.Verdict.TheVariants.{Reported, NotSettled}

abbrev pub verdict_on : Waits → Verdict
verdict_on (waits.Known lines) = Reported
verdict_on (waits.NotSettled process) = NotSettled

abbrev pub IsWaitsReport : Options → Tree → Tables → SlotFindings → Verdict → List ℕ → Type 0
IsWaitsReport o t r f verdict text =
    (waits : Waits) × (verdict ≡ verdict_on waits) × (text ≡ ends_text (constant_names t.program) f None ++ waits_text waits) × TellWho r o.discipline o.steps f.ends waits
