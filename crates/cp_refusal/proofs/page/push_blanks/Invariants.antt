use Rattle.std.proofs.Common.{◌≡◌, replicate}
use Rattle.cp_refusal.specs.Text.{Takes}
use Rattle.cp_refusal.proofs.page.push_blanks.Given as goal

abbrev pub invariant-loop-at : goal.invariant-loop-at
invariant-loop-at l = Takes l.initial.text l.text (λ piece. piece ≡ replicate l._at 32)
