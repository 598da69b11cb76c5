use Rattle.std.proofs.Common.{◌≡◌, ◌∙◌, ◌<◌, length, take, sym, ap, subst, arith}
use Rattle.std.proofs.lemmas.List.{take_all, take_more}
use Rattle.cp_ends.specs.Holds.{Holds, SlotFindings}
use Rattle.cp_ends.proofs.Finding.{values_more, with_all}
use Rattle.cp_ends.proofs.found.Found.add_values.Goals as goal

pub loop-value-preserved : goal.loop-value-preserved
loop-value-preserved c =
    record {
      values = λ r f word h is.
          (let vs = c.args.values.now in
          let i = c.loop-value.value-index in
          let g : SlotFindings = with_all f word (take i vs) in
          let lt : i < length vs = omega arith in
          let on = c.in_ok-add_value.ensures.values r g word (c.loop-value.invariant.values r f word h is) is in
          subst (Holds r c.add_value.new.self) (sym (ap (with_all f word) (take_more vs i _ lt) ∙ values_more f word (take i vs) _)) on);
      states = c.add_value.ensures.states ∙ c.loop-value.invariant.states;
    }

pub returns-clause-values : goal.returns-clause-values
returns-clause-values c = λ r f word h is.
    (let vs = c.args.values.now in
    let whole : take c.loop-value.value-index vs ≡ vs = take_all c.loop-value.value-index vs (omega arith) in
    subst (λ l. Holds r c.loop-value.self (with_all f word l)) whole (c.loop-value.invariant.values r f word h is))
