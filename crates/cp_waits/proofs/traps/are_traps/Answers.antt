use Rattle.cp_waits.proofs.Words.{ℕ, sym, ◌∙◌, ◌<◌, arith, refl, below_more, length, rank_in, passed_over_in, IsStateLed, is_trap_in}
use Rattle.cp_waits.proofs.traps.are_traps.Goals as goal

pub returns-then-not-is_state_led : goal.returns-then-not-is_state_led
returns-then-not-is_state_led c =
    let within : c.loop-state.state < length c.args.graph.now.ends.items = omega arith in
    ((λ t. absurd (cc)), (λ all. sym c.if-not-is_state_led.true ∙ c.is_state_led.ensures.1 (all c.loop-state.state within)))

pub loop-state-preserved : goal.loop-state-preserved
loop-state-preserved c = λ i.
    let P : ℕ → Type 0 = λ n. IsStateLed c.args.graph.now c.args.keeping (rank_in c.args.parts.now) (passed_over_in c.args.parts.now) (is_trap_in c.args.parts.now) n in
    λ less. below_more P c.loop-state.state (λ n h. c.loop-state.invariant n h) (c.is_state_led.ensures.0 c.if-not-is_state_led.false) i less

pub returns : goal.returns
returns c = (
  (λ t i within. c.loop-state.invariant i (omega (arith, within))),
  (λ t. refl),
)
