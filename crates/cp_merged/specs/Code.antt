-- What the values of the code stand for.
use Rattle.std.specs.Prelude.{ℕ, List, Bool}
use Rattle.std.specs.Ordering.{nat_cmp, is_lt}
use Rattle.std.specs.Cmp.Lexicographic.{slice_cmp}
use Rattle.cp_walk.specs.Groups.{Tally}
use Rattle.cp_merged.specs.Layers.{Lead}
use Rattle.cp_merged.specs.declared.end_key.EndKey.{EndKey}
use Rattle.cp_merged.specs.declared.prefixes.Prefixes as code
use Rattle.cp_merged.specs.declared.tally.Tally as tallied

abbrev pub tally_of : tallied.Tally → Tally
tally_of t = record { first = record { word = t.first.items; outcome = t.outcome }; count = t.count }

-- an outcome and what leads to it
abbrev pub end_of : EndKey × code.Prefixes → Tally
end_of e = record { first = record { word = e.1.first.items; outcome = e.0.outcome }; count = e.1.count }

-- a row and what leads to its state
abbrev pub keyed : List ℕ × code.Prefixes → Lead (List ℕ)
keyed e = record { state = e.0; first = e.1.first.items; count = e.1.count }

-- whether the first word of one comes before that of the other
abbrev pub by_word : tallied.Tally → tallied.Tally → Bool
by_word t u = is_lt (slice_cmp nat_cmp t.first.items u.first.items)
