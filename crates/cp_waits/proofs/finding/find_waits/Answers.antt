use Rattle.cp_waits.proofs.Words.{◌≡◌, ◌∙◌, None, Option, Some, refl, sym, true, false}
use Rattle.std.specs.Prelude.{Bool, is_some}
use Rattle.cp_waits.proofs.Told.{told_of_all}
use Rattle.cp_waits.proofs.finding.find_waits.Goals as goal

differ : (b : Bool) → b ≡ true → b ≡ false → ⊥
differ b is not = let e = sym is ∙ not in cc

none_there : {A : Type 0} (o : Option A) (b : Bool) → b ≡ is_some o → b ≡ false → o ≡ None
none_there None b e not = refl
none_there (Some x) b e not = absurd (differ b e not)

some_there : {A : Type 0} (o : Option A) (b : Bool) → b ≡ is_some o → b ≡ true → o ≡ None → ⊥
some_there None b e is none = differ b is e
some_there (Some x) b e is none = cc

pub returns-then-not-asks_waits-clause-waits : goal.returns-then-not-asks_waits-clause-waits
returns-then-not-asks_waits-clause-waits g c = λ asked whole. differ c.args.asks_waits asked c.if-not-asks_waits.true

pub returns-then-is_some-clause-waits : goal.returns-then-is_some-clause-waits
returns-then-is_some-clause-waits g c = λ asked whole. some_there c.in_ok-found-2.field-0.found.stopped c.is_some.result c.is_some.ensures c.if-is_some.true whole

pub returns-clause-waits : goal.returns-clause-waits
returns-clause-waits g c =
    let found = c.in_ok-found-2.field-0.found in
    let whole = none_there found.stopped c.is_some.result c.is_some.ensures c.if-is_some.false in
    (c.if-not-asks_waits.false, whole, told_of_all c.args.job.now.program.now c.args.job.now.limits.discipline c.args.job.now.limits.steps found c.in_ok-found-2.field-0.graph (c.in_ok-found-2.ensures.graph whole) c.in_ok-waits.waits c.in_ok-waits.ensures)
