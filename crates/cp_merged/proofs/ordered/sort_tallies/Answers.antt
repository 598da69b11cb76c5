use Rattle.cp_merged.proofs.Words.{ap, map, sym, subst, arith, IsPermutation, tally_of, rows_in}
use Rattle.std.proofs.lemmas.List.Sorted.{IsPermutation-map}
use Rattle.cp_merged.proofs.Sorting.{rows_moved}
use Rattle.cp_merged.proofs.ordered.sort_tallies.Goals as goal

pub new-requires : goal.new-requires
new-requires c =
    let old = c.in_ok-tallies.tallies.items in
    let new = c.sort.new.tallies.items in
    let moved = rows_moved (map tally_of old) (map tally_of new) (IsPermutation-map tally_of old new c.sort.ensures.permutation) in
    let same = ap rows_in c.in_ok-tallies.ensures in
    let small = c.requires in
    omega (arith, moved, same, small)

pub returns-clause-permutation : goal.returns-clause-permutation
returns-clause-permutation c =
    let old = c.in_ok-tallies.tallies.items in
    let new = c.sort.new.tallies.items in
    subst (λ l. IsPermutation l (map tally_of c.new.result)) c.in_ok-tallies.ensures (subst (λ l. IsPermutation (map tally_of old) (map tally_of l)) (sym c.new.ensures) (IsPermutation-map tally_of old new c.sort.ensures.permutation))
