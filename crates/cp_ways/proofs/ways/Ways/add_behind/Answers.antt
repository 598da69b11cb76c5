use Rattle.std.proofs.Common.{rules, ◌≡◌, ◌∙◌, ◌+◌, ◌*◌, ◌∷◌, ◌++◌, ℕ, ap, arith}
use Rattle.cp_ways.proofs.Given.{Outcome, EndKey}
use Rattle.cp_ways.specs.Weights.{after, total, weight}
use Rattle.cp_ways.proofs.Sums.{total_weight, weight_cons}
use Rattle.cp_ways.proofs.ways.Ways.add_behind.Goals as goal

pub add-requires : goal.add-requires
add-requires c =
    let e : EndKey × ℕ = (c.in-Some.key.now, c.in-Some.count.now) in
    let at : c.loop-key.key-iterator ≡ (c.in-Some.key.now, c.in-Some.count.now) ∷ c.next.new.self = first_of (search (rules, c.in-Some.ensures.steps), cc (c.in-Some.ensures.steps, c.in-Some.key-is, c.in-Some.count-is), grind (arith, c.in-Some.ensures.steps, c.in-Some.key-is, c.in-Some.count-is)) in
    let h = c.loop-key.invariant (λ _. 1) in
    let first = ap (weight (λ _. 1)) at ∙ weight_cons (λ _. 1) e c.next.new.self in
    let here = total_weight c.loop-key.self.list.entries in
    let mine = total_weight c.args.self.now.list.entries in
    let theirs = total_weight c.args.further.now.list.entries in
    let small = c.requires.small in
    record { small = omega (arith, h, first, here, mine, theirs, small) }

joins : (a b c d w n r x : ℕ) → a ≡ b + n * x → n * x ≡ n * w → d ≡ n * w + r → b + d ≡ c → a + r ≡ c
joins a b c d w n r x p q s h = omega (arith, p, q, s, h)

pub loop-key-preserved : goal.loop-key-preserved
loop-key-preserved c = λ f.
    (let e : EndKey × ℕ = (c.in-Some.key.now, c.in-Some.count.now) in
    let at : c.loop-key.key-iterator ≡ (c.in-Some.key.now, c.in-Some.count.now) ∷ c.next.new.self = first_of (search (rules, c.in-Some.ensures.steps), cc (c.in-Some.ensures.steps, c.in-Some.key-is, c.in-Some.count-is), grind (arith, c.in-Some.ensures.steps, c.in-Some.key-is, c.in-Some.count-is)) in
    let shown = c.args.shown.now in
    let g : Outcome → ℕ = λ o. f (after shown o) in
    let made : Outcome = record { kind = c.in-Some.key.now.outcome.kind; output = c.in_ok-output.output } in
    let told : f made ≡ g c.in-Some.key.now.outcome = ap (λ output. f (record { kind = c.in-Some.key.now.outcome.kind; output = output })) (c.in_ok-output.ensures ∙ ap (λ rest. shown ++ rest) c.as_slice.ensures) in
    joins (weight f c.add.new.self.list.entries) (weight f c.loop-key.self.list.entries) (weight f c.args.self.now.list.entries + weight g c.args.further.now.list.entries) (weight g c.loop-key.key-iterator) (g c.in-Some.key.now.outcome) c.in-Some.count.now (weight g c.next.new.self) (f made)
    (c.in_ok-add.ensures.added f)
    (ap (λ n. c.in-Some.count.now * n) told)
    (ap (weight g) at ∙ weight_cons g e c.next.new.self)
    (c.loop-key.invariant f))
