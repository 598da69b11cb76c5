use Rattle.std.proofs.Common.{◌+◌, ◌++◌, ◌∷◌, [], List, drop, map, ap, sym, ◌∙◌}
use Rattle.std.proofs.lemmas.List.{map-append}
use Rattle.cp_symbols.specs.Symbols.{routine_seen}
use Rattle.cp_legend.specs.Names.{RoutineNames, routine_names_seen, routines_from, source_seen}
use Rattle.cp_legend.proofs.Naming.{routines_step}
use Rattle.cp_legend.proofs.sorting.all_routines.Goals as goal

pub loop-number-preserved : goal.loop-number-preserved
loop-number-preserved c =
    c.loop-number.invariant
    ∙ routines_step (source_seen c.args.symbols.now) (map routine_names_seen c.loop-number.all.items) c.deref-routine-items.result.now c.loop-number.number c.routine-item.result c.loop-number-test.true c.routine-item.is
    ∙ ap (λ (ys : List RoutineNames). ys ++ routines_from (source_seen c.args.symbols.now) (c.loop-number.number + 1) (map routine_seen (drop (c.loop-number.number + 1) c.deref-routine-items.result.now)))
    (sym (ap (map routine_names_seen) c.in_ok-push.ensures.items
    ∙ map-append routine_names_seen c.loop-number.all.items (c.in_ok-routine_of.field-0 ∷ [])
    ∙ ap (λ (y : RoutineNames). map routine_names_seen c.loop-number.all.items ++ y ∷ []) c.in_ok-routine_of.ensures))
