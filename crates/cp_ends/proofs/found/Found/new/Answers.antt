use Rattle.std.proofs.Common.{[], map, subst, sym}
use Rattle.cp_ends.specs.Holds.{AreFound, end_origin, value_origin}
use Rattle.cp_ends.proofs.found.Found.new.Goals as goal

pub returns-clause-nothing : goal.returns-clause-nothing
returns-clause-nothing c =
    record {
      states = c.in_ok-states.ensures.states;
      ends = subst (λ es. AreFound [] (map end_origin es) []) (sym c.new-ends.ensures.items) tt;
      values = subst (λ vs. AreFound [] (map value_origin vs) []) (sym c.new-values.ensures.items) tt;
    }
