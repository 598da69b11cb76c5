use Rattle.std.proofs.Common.{rules, ◌≡◌, ◌++◌, ◌∷◌, ◌+◌, [], true, refl, subst, sym}
use Rattle.cp_states.specs.Numbers.{number_at}
use Rattle.cp_effects.specs.declared.changes.Write.{Write}
use Rattle.cp_effects.specs.Changes.{AreChangesBelow}
use Rattle.cp_effects.proofs.Changing.{below_more, below_same}
use Rattle.cp_effects.proofs.changes.add_change.Goals as goal

pub returns-then-number-before : goal.returns-then-number-before
returns-then-number-before c = λ _. below_same c.args.table.now c.args.touched.now.places.items c.args.before.now c.args.after.now c.args.writes.now.items c.args.position c.requires.below c.if-number-before.true

pub returns : goal.returns
returns c = λ _.
    (let t = c.args.table.now in
    let places = c.args.touched.now.places.items in
    let before = c.args.before.now in
    let after = c.args.after.now in
    let ws = c.args.writes.now.items in
    let w : Write = record { position = c.args.position; number = number_at after c.args.position } in
    let pushed : c.push.new.self.items ≡ ws ++ w ∷ [] = search rules in
    let may : c.may_change.result ≡ true = search rules in
    subst (λ xs. AreChangesBelow t places before after xs (c.args.position + 1)) (sym pushed)
    (below_more t places before after ws c.args.position c.requires.below w c.requires.position refl refl c.if-number-before.false (c.may_change.ensures may)))
