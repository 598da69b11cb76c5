use Rattle.std.proofs.Common.{◌≡◌, ◌++◌, take}
use Rattle.std.specs.Prelude.{flat_map}
use Rattle.cp_story.specs.Annotations.{index_origins}
use Rattle.cp_story.proofs.told_variables.+origins.Given as goal

-- those that are added
abbrev pub invariant-push_indices-loop-index : goal.invariant-push_indices-loop-index
invariant-push_indices-loop-index l = l.found.items ≡ l.fn.found.items ++ flat_map index_origins (take l.index-index l.indices)
