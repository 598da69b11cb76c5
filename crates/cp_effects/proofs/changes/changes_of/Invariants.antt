use Rattle.cp_effects.specs.Changes.{AreChangesBelow}
use Rattle.cp_effects.proofs.changes.changes_of.Given as goal

abbrev pub invariant-loop-position : goal.invariant-loop-position
invariant-loop-position l = AreChangesBelow l.table l.touched.places.items l.before l.after l.writes.items l.position
