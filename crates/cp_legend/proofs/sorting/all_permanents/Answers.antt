use Rattle.std.proofs.Common.{◌++◌, ◌∷◌, [], List, map, ap, ◌∙◌}
use Rattle.std.proofs.lemmas.List.{map-append}
use Rattle.cp_legend.specs.Names.{Variable, variables_seen, permanents_of, source_seen, at_each}
use Rattle.cp_legend.proofs.Naming.{each_step}
use Rattle.cp_legend.proofs.sorting.all_permanents.Goals as goal

pub loop-number-preserved : goal.loop-number-preserved
loop-number-preserved c =
    ap (map variables_seen) c.in_ok-push.ensures.items
    ∙ map-append variables_seen c.loop-number.all.items (c.in_ok-permanents_of.field-0 ∷ [])
    ∙ ap (λ (xs : List (List Variable)). xs ++ variables_seen c.in_ok-permanents_of.field-0 ∷ []) c.loop-number.invariant
    ∙ ap (λ (x : List Variable). at_each (permanents_of (source_seen c.args.symbols.now)) c.loop-number.number ++ x ∷ []) c.in_ok-permanents_of.ensures
    ∙ each_step (permanents_of (source_seen c.args.symbols.now)) c.loop-number.number
