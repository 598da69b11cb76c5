use Rattle.std.proofs.Common.{◌≡◌, ◌+◌, length}
use Rattle.cp_parts.specs.Runs.{AreFilled, IsOpen}
use Rattle.cp_parts.proofs.runs.Runs.extend.Given as goal

abbrev pub invariant-loop : goal.invariant-loop
invariant-loop l =
    record {
      filled : AreFilled l.initial.self.labels.items l.self.labels.items l.label (length l.initial.self.labels.items + l.counter);
      open_ : IsOpen l.self.labels.items l.self.spans.items l.label;
      spans : length l.self.spans.items ≡ length l.initial.self.spans.items;
    }
