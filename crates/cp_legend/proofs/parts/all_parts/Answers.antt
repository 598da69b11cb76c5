use Rattle.std.proofs.Common.{◌++◌, ◌∷◌, [], List, map, ap, ◌∙◌}
use Rattle.std.proofs.lemmas.List.{map-append}
use Rattle.cp_legend.specs.Names.{Part, parts_seen, parts_of, source_seen, at_each}
use Rattle.cp_legend.proofs.Naming.{each_step}
use Rattle.cp_legend.proofs.parts.all_parts.Goals as goal

pub loop-number-preserved : goal.loop-number-preserved
loop-number-preserved c =
    ap (map parts_seen) c.in_ok-push.ensures.items
    ∙ map-append parts_seen c.loop-number.all.items (c.in_ok-parts_of.field-0 ∷ [])
    ∙ ap (λ (xs : List (List Part)). xs ++ parts_seen c.in_ok-parts_of.field-0 ∷ []) c.loop-number.invariant
    ∙ ap (λ (x : List Part). at_each (parts_of (source_seen c.args.symbols.now)) c.loop-number.number ++ x ∷ []) c.in_ok-parts_of.ensures
    ∙ each_step (parts_of (source_seen c.args.symbols.now)) c.loop-number.number
