use Rattle.cp_waits.proofs.Words.{◌≡◌, ◌∙◌, ◌&&◌, ◌||◌, ap, arith, false, has, is_ready, length, lt-ltb, nat_eq, nat_lt, not, true, silent_slots, in_call_on_slots, waits_on_slots}
use Rattle.std.proofs.Common.{Bool}
use Rattle.cp_waits.proofs.Insides.{below_only}
use Rattle.cp_waits.proofs.Seeing.{seen_moment}
use Rattle.cp_waits.proofs.passing.PassingSetsSight.moved.Goals as goal

-- who is added to nobody is the only one
alone : (a b c : Bool) → a ≡ false → b ≡ true → (a || (b && c)) ≡ c
alone a b c nobody few = ap (λ x. x || (b && c)) nobody ∙ ap (λ x. x && c) few

beside : (a d b c : Bool) → a ≡ d → b ≡ true → (a || (b && c)) ≡ (d || c)
beside a d b c same few = ap (λ x. x || (b && c)) same ∙ ap (λ x. d || (x && c)) few

pub returns : goal.returns
returns c = λ r discipline m look.
    (let n = length r.processes in
    let few = look.few in
    let p = c.args.mover in
    seen_moment (silent_slots r discipline) in_call_on_slots waits_on_slots (record { state = m; mover = p }) _
    (λ q lt. look.wait q (omega (arith, lt, few)) ∙ below_only n q (waits_on_slots m q) lt)
    (λ q lt. look.wait_once q (omega (arith, lt, few)) ∙ below_only n q (waits_on_slots m q) lt)
    (λ q lt. look.stay q (omega (arith, lt, few)) ∙ below_only n q (in_call_on_slots m q) lt)
    (λ q lt. c.with.ensures q ∙ alone (has c.args.self.step q) (nat_lt q 16) (nat_eq q p) (look.step q (omega (arith, lt, few))) (lt-ltb q 16 (omega (arith, lt, few))))
    (λ q lt. c.with-2.ensures q ∙ beside (has c.args.self.served q) (not (is_ready m q)) (nat_lt q 16) (nat_eq q p) (look.served q (omega (arith, lt, few)) ∙ below_only n q (not (is_ready m q)) lt) (lt-ltb q 16 (omega (arith, lt, few)))))
