use Rattle.std.proofs.Common.{◌≡◌, true, [], ◌∷◌, ◌++◌, ap, sym, ◌∙◌}
use Rattle.cp_waits.specs.Keeps.{keeps}
use Rattle.cp_waits.proofs.Ways.{way_on, each_on, any_on, map_on}
use Rattle.cp_waits.proofs.trails.Trail.go.Goals as goal

pub returns : goal.returns
returns c = λ g keeping first t edge kept to.
    let e = c.args.next.now.edge in
    record {
      way = t.way ++ e ∷ [];
      numbers = map_on (λ x. x.number) t.way e ∙ (ap (λ l. l ++ e.number ∷ []) t.numbers ∙ sym c.in_ok-push.ensures.items);
      leads = way_on g first c.args.self.now.state c.args.next.now.to t.way e t.leads edge to;
      keeps = each_on (λ x. keeps keeping x.passing ≡ true) t.way e t.keeps kept;
      served = λ q. any_on (λ x. x.passing.served) t.way e c.args.self.now.served c.or-self.result q (c.or-self.ensures q) (t.served q);
      waited = λ q. any_on (λ x. x.passing.wait_once) t.way e c.args.self.now.wait_once c.or-self-2.result q (c.or-self-2.ensures q) (t.waited q);
    }
