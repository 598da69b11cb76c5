use Rattle.std.proofs.Common.{refl}
use Rattle.cp_legend.specs.Values.{types_seen}
use Rattle.cp_legend.proofs.legend.legend_of.Goals as goal

pub returns : goal.returns
unfolding types_seen
returns c =
    record {
      shapes = refl;
      constants = refl;
      systems = c.in_ok-systems.ensures;
      permanents = c.in_ok-permanents.ensures;
      routines = c.in_ok-routines.ensures;
      components = c.in_ok-components.ensures;
    }
