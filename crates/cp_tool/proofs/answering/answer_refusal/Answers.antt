use Rattle.std.proofs.Common.{ℕ, List, refl, subst, sym}
use Rattle.cp_front.specs.Refusals.{IsLineOf}
use Rattle.cp_tool.proofs.answering.answer_refusal.Goals as goal

pub returns : goal.returns
returns c = (refl, subst (λ (x : List ℕ). IsLineOf c.args.refusal x) (sym c.new.ensures) c.in_ok-line.ensures)
