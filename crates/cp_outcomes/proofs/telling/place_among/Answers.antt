use Rattle.std.proofs.Common.{◌∙◌, ◌<◌, Some, option_map, length, map, ap, sym}
use Rattle.std.specs.List.{filter, slice_get}
use Rattle.std.proofs.lemmas.Option.{slice_get-get_or, slice_get-map}
use Rattle.std.proofs.lemmas.List.{take-map}
use Rattle.cp_merged.specs.Code.{tally_of}
use Rattle.cp_outcomes.specs.Told.{is_of}
use Rattle.cp_outcomes.proofs.Choosing.{passing_at}
use Rattle.cp_outcomes.proofs.telling.place_among.Goals as goal

pub returns-then-before-index-clause-is : goal.returns-then-before-index-clause-is
returns-then-before-index-clause-is c =
    let p = is_of c.args.stopped in
    let xs = c.args.tallies.now in
    let k = c.loop-place.place in
    let x = c.index-tallies-place.result in
    let lt : k < length xs = c.loop-place-test.true in
    let here = slice_get-map tally_of xs k ∙ ap (option_map tally_of) (slice_get-get_or xs k x lt ∙ ap Some (sym c.index-tallies-place.is)) in
    let index = sym c.if-before-index.true ∙ c.loop-place.invariant.counted ∙ ap (λ l. length (filter p l)) (sym (take-map tally_of k xs)) in
    ap (slice_get (filter p (map tally_of xs))) index ∙ passing_at p (map tally_of xs) k (tally_of x) here (sym c.is_among.ensures ∙ c.if-is_among.true) ∙ sym here
