use Rattle.std.proofs.Common.{◌≡◌, ◌∙◌, ◌-◌, ℕ, List, ◌++◌, append_assoc, drop, length, sym, take, ap, take-append-drop}
use Rattle.std.specs.List.{flat_map}
use Rattle.std.proofs.lemmas.Grind.{flat_map-append}
use Rattle.std.proofs.lemmas.List.{take_rest}
use Rattle.std.proofs.lemmas.Result.{IfOk-weaker}
use Rattle.cp_key.specs.Numbers.{number_key}
use Rattle.cp_key.proofs.keyed.freeze_numbers.Goals as goal

-- the keys of the first elements and then those of the others
joined : {A : Type 0} (key : A → List ℕ) (xs : List A) (done : ℕ) (items : List ℕ) → (items ++ flat_map key (take done xs)) ++ flat_map key (take (length xs - done) (drop done xs)) ≡ items ++ flat_map key xs
joined key xs done items =
    ap (λ ys. (items ++ flat_map key (take done xs)) ++ flat_map key ys) (take_rest xs done)
    ∙ append_assoc items (flat_map key (take done xs)) (flat_map key (drop done xs))
    ∙ ap (λ ys. items ++ ys) (sym (flat_map-append key (take done xs) (drop done xs)))
    ∙ ap (λ ys. items ++ flat_map key ys) (take-append-drop done xs)

pub returns : goal.returns
returns g c =
    let key = g.T.Keyed.key_of in
    let xs = c.args.list.now in
    let old = c.args.key.now.items in
    let count : c.reserve.new.self.items ≡ old ++ number_key (length xs) = c.in_ok-reserve.ensures.items ∙ c.in_ok-freeze.ensures in
    IfOk-weaker c.freeze_each.result _ _ (λ done e. e ∙ ap (λ ys. ys ++ flat_map key (take (length xs - c.freeze_short-done.result) (drop c.freeze_short-done.result xs))) (c.freeze_short-done.ensures.items ∙ ap (λ ys. ys ++ flat_map key (take c.freeze_short-done.result xs)) count) ∙ joined key xs c.freeze_short-done.result (old ++ number_key (length xs)) ∙ append_assoc old (number_key (length xs)) (flat_map key xs)) c.freeze_each.ensures
