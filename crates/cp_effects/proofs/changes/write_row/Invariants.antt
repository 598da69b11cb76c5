use Rattle.std.proofs.Common.{◌≡◌, drop, length}
use Rattle.cp_effects.specs.Changes.{written}
use Rattle.cp_effects.proofs.changes.write_row.Given as goal

abbrev pub invariant-loop-write : goal.invariant-loop-write
invariant-loop-write l =
    record {
      long : length l.row ≡ length l.fn.row;
      rest : written (drop l.write-index l.writes) l.row ≡ written l.writes l.fn.row;
    }
