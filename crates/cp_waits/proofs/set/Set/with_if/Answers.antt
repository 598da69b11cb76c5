use Rattle.cp_waits.proofs.Words.{◌≡◌, ◌∙◌, ◌&&◌, ◌||◌, ap, false, has, lt-ltb, nat_eq, refl, sym, true}
use Rattle.std.proofs.Common.{Bool}
use Rattle.cp_machine_laws.proofs.gates.Gates.{and_false as both_none}
use Rattle.cp_waits.proofs.set.Set.with_if.Goals as goal

all : (a b : Bool) → (a && b) ≡ (b && a)
all true true = refl
all true false = refl
all false true = refl
all false false = refl

none : (a b : Bool) → a ≡ (a || (b && false))
none true b = refl
none false b = sym (both_none b)

pub returns-then-is_in : goal.returns-then-is_in
returns-then-is_in c = λ q few. c.with.ensures q ∙ ap (λ b. has c.args.self q || (b && nat_eq q c.args.pid)) (lt-ltb q 16 few) ∙ ap (λ b. has c.args.self q || b) (all true (nat_eq q c.args.pid)) ∙ ap (λ b. has c.args.self q || (nat_eq q c.args.pid && b)) (sym c.if-is_in.true)

pub returns-else-is_in : goal.returns-else-is_in
returns-else-is_in c = λ q few. none (has c.args.self q) (nat_eq q c.args.pid) ∙ ap (λ b. has c.args.self q || (nat_eq q c.args.pid && b)) (sym c.if-is_in.false)
