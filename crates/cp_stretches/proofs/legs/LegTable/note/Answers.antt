use Rattle.std.proofs.Common.{arith, subst, sym}
use Rattle.std.specs.Prelude.{IfSome, option_to_list}
use Rattle.cp_effects.specs.declared.effect.Effect.{Effect}
use Rattle.cp_effects.specs.Changes.{numbers_at}
use Rattle.cp_effects.specs.Known.{AreKnown}
use Rattle.cp_effects.specs.Remembered.{IsRemembered}
use Rattle.cp_stretches.proofs.Knowing.{key_stays, told_by}
use Rattle.cp_stretches.proofs.legs.LegTable.note.Goals as goal

pub key_after-requires-clause-inside : goal.key_after-requires-clause-inside
key_after-requires-clause-inside c = λ place is.
    (let lt = c.are_below.ensures c.if-not-are_below.false place is in
    omega (arith, lt, c.places.ensures, c.args.table.now.few))

pub returns-then-not-are_below : goal.returns-then-not-are_below
returns-then-not-are_below c = λ s r discipline placed are is. (are, tt)

pub returns-in_ok-leg-in-Some : goal.returns-in_ok-leg-in-Some
returns-in_ok-leg-in-Some c = λ s r discipline placed are is.
    (let t = c.args.table.now in
    let row = c.args.row.now in
    let pid = c.args.pid in
    let places = c.args.touched.now.places.items in
    let numbers = numbers_at t places row in
    let effect = c.in-Some.effect in
    let key = c.in_ok-key.key in
    let k = c.in_ok-key.ensures.key in
    let new = c.remember.new.self in
    let remembered : IsRemembered s t r discipline pid places numbers effect.leg (option_to_list effect.shown) effect.writes.items =
    subst (λ o. IfSome o (λ (e : Effect). IsRemembered s t r discipline pid places numbers e.leg (option_to_list e.shown) e.writes.items)) c.in-Some.is is in
    let known : AreKnown s t r discipline new = c.in_ok-leg-in-Some.ensures.known s t r discipline pid k.scope numbers (c.in_ok-key.ensures.known s t r discipline are) k.keyed
    (subst (λ ps. IsRemembered s t r discipline pid ps numbers effect.leg (option_to_list effect.shown) effect.writes.items) (sym k.are) remembered) in (
      known,
      told_by s t r discipline new key pid k.scope c.in_ok-leg-in-Some.leg row known placed
          (key_stays t row c.key_after.new.self.effects new key pid places c.remember.ensures.keys c.remember.ensures.scopes k) c.in_ok-leg-in-Some.ensures.here,
    ))

pub returns-in_ok-give_up-in-None : goal.returns-in_ok-give_up-in-None
returns-in_ok-give_up-in-None c = λ s r discipline placed are is.
    (c.in_ok-give_up-in-None.ensures.known s c.args.table.now r discipline (c.in_ok-key.ensures.known s c.args.table.now r discipline are), tt)
