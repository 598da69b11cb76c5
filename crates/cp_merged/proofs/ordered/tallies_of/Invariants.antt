use Rattle.cp_merged.proofs.Words.{◌≡◌, ◌++◌, map, end_of, tally_of}
use Rattle.cp_merged.proofs.ordered.tallies_of.Given as goal

abbrev pub invariant-loop-key : goal.invariant-loop-key
invariant-loop-key l = map tally_of l.tallies.items ++ map end_of l.key-iterator ≡ map end_of l.fn.ends.entries
