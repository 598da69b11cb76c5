use Rattle.std.proofs.Common.{◌++◌, ◌∷◌, [], List, map, ap, ◌∙◌}
use Rattle.std.proofs.lemmas.List.{map-append}
use Rattle.cp_legend.specs.Names.{SystemName, system_seen, system_of, source_seen, at_each}
use Rattle.cp_legend.proofs.Naming.{each_step}
use Rattle.cp_legend.proofs.sorting.all_systems.Goals as goal

pub loop-number-preserved : goal.loop-number-preserved
loop-number-preserved c =
    ap (map system_seen) c.in_ok-push.ensures.items
    ∙ map-append system_seen c.loop-number.all.items (c.in_ok-system_of.field-0 ∷ [])
    ∙ ap (λ (xs : List (SystemName)). xs ++ system_seen c.in_ok-system_of.field-0 ∷ []) c.loop-number.invariant
    ∙ ap (λ (x : SystemName). at_each (system_of (source_seen c.args.symbols.now)) c.loop-number.number ++ x ∷ []) c.in_ok-system_of.ensures
    ∙ each_step (system_of (source_seen c.args.symbols.now)) c.loop-number.number
