use Rattle.std.proofs.Common.{◌<◌, take}
use Rattle.std.specs.Prelude.{All}
use Rattle.cp_effects.specs.declared.changes.Write.{Write}
use Rattle.cp_ends.proofs.learning.are_behind.Given as goal

abbrev pub invariant-loop-write : goal.invariant-loop-write
invariant-loop-write l = All (λ (w : Write). l.position < w.position) (take l.write-index l.writes)
