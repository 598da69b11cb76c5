use Rattle.cp_at_once.proofs.Words.{◌≡◌, ◌∙◌, ◌<◌, length, refl, take, sym, subst, arith, ShowsLast, NotesValues}
use Rattle.std.proofs.lemmas.List.{take_all, take_more}
use Rattle.std.proofs.lemmas.List.Elements.{All-contains, Contains-get_or}
use Rattle.cp_at_once.proofs.Noting.{values_more, values_none}
use Rattle.cp_at_once.proofs.found.FoundAtOnce.add_values.Goals as goal

pub loop-value-init : goal.loop-value-init
loop-value-init c = record { kept = refl; found = λ r g most states word h is shows. values_none r g most c.args.self.now states h }

pub loop-value-preserved : goal.loop-value-preserved
loop-value-preserved c = record {
  kept = c.add_value.ensures.kept ∙ c.loop-value.invariant.kept;
  found = λ r g most states word h is shows.
      (let vs = c.args.values.now in
      let i = c.loop-value.value-index in
      let lt : i < length vs = omega arith in
      let was = c.loop-value.invariant.found r g most states word h is shows in
      let one = c.in_ok-add_value.ensures.value r g most states word was.0 is (All-contains (λ v. ShowsLast g v word) vs _ shows (Contains-get_or vs i _ lt)) in
      subst (NotesValues r g most c.args.self.now states c.add_value.new.self) (sym (take_more vs i _ lt)) (values_more r g most c.args.self.now states c.loop-value.self (take i vs) was c.add_value.new.self _ one));
}

pub returns-clause-values : goal.returns-clause-values
returns-clause-values c = λ r g most states word h is shows.
    (let vs = c.args.values.now in
    let whole : take c.loop-value.value-index vs ≡ vs = take_all c.loop-value.value-index vs (omega arith) in
    subst (NotesValues r g most c.args.self.now states c.loop-value.self) whole (c.loop-value.invariant.found r g most states word h is shows))
