use Rattle.cp_waits.proofs.Words.{inr, refl, rank_in, passed_over_in, is_trap_in}
use Rattle.cp_waits.proofs.waiting.standing_still.Goals as goal

pub returns : goal.returns
returns c = (
  refl,
  (
    inr (record { still = c.args.still.now; known = c.requires.known; waits = c.requires.waits; first = c.in_ok-word.ensures; again = c.new.ensures.items }),
    (rank_in c.args.parts.now, passed_over_in c.args.parts.now, is_trap_in c.args.parts.now, c.are_traps.ensures.0 c.if-not-are_traps.false),
  ),
)
