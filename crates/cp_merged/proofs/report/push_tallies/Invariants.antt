use Rattle.cp_merged.proofs.Words.{◌≡◌, ◌++◌, string_bytes, take, each, tally_text, tally_of}
use Rattle.cp_merged.proofs.report.push_tallies.Given as goal

abbrev pub invariant-loop-tally : goal.invariant-loop-tally
invariant-loop-tally l = string_bytes l.text ≡ string_bytes l.initial.text ++ each (λ t. tally_text l.program.names (tally_of t)) (take l.tally-index l.tallies)
