use Rattle.std.proofs.Common.{◌≡◌, ◌≤◌}
use Rattle.cp_refusal.specs.Lines.{BeginsLine, line_in}
use Rattle.cp_refusal.proofs.page.line_start.Given as goal

abbrev pub invariant-loop-place : goal.invariant-loop-place
invariant-loop-place l = (l.line ≡ line_in l.source l.place) × (1 ≤ l.number → l.line ≤ l.number) × (l.number ≤ l.line → BeginsLine l.source l.place)
