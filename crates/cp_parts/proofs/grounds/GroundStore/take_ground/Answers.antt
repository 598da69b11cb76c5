use Rattle.std.proofs.Common.{◌∙◌, arith}
use Rattle.std.specs.Prelude.{pos}
use Rattle.cp_machine.specs.declared.state.Phase.TheVariants.{Uninitialised}
use Rattle.cp_parts.proofs.Laid.{laid_span, span_fits}
use Rattle.cp_parts.proofs.grounds.GroundStore.take_ground.Goals as goal

pub span-own-requires : goal.span-own-requires
span-own-requires c = omega (arith, c.requires.1.within, c.args.table.now.of_cells)

pub span-within-requires : goal.span-within-requires
span-within-requires c = omega (arith, c.requires.1.within, c.args.table.now.of_components)

pub at-requires : goal.at-requires
at-requires c = c.requires.1.ground.cells.within

pub at-requires-2 : goal.at-requires-2
at-requires-2 c = c.requires.1.ground.bindings.within

pub at-requires-3 : goal.at-requires-3
at-requires-3 c = c.requires.1.ground.phases.within

pub take_span-requires : goal.take_span-requires
take_span-requires c =
    let can = c.requires.1 in
    span_fits c.args.table.now.cells c.args.place c.span-own.result c.requires.0.permanents c.at.result.now c.args.cells.now c.span-own.ensures.is (c.at.ensures ∙ can.ground.cells.is) can.permanents can.cells_same

pub take_span-requires-2 : goal.take_span-requires-2
take_span-requires-2 c =
    let can = c.requires.1 in
    span_fits c.args.table.now.cells c.args.place c.span-own.result c.requires.0.bindings c.at-2.result.now c.args.bindings.now c.span-own.ensures.is (c.at-2.ensures ∙ can.ground.bindings.is) can.bindings_long can.bindings_same

pub take_span-requires-3 : goal.take_span-requires-3
take_span-requires-3 c =
    let can = c.requires.1 in
    span_fits c.args.table.now.components c.args.place c.span-within.result c.requires.0.phases c.at-3.result.now c.args.phases.now c.span-within.ensures.is (c.at-3.ensures ∙ can.ground.phases.is) can.phases_long can.phases_same

pub returns : goal.returns
returns c = λ m can.
    record {
      cells_laid = laid_span (pos 0) c.args.table.now.cells c.args.place c.span-own.result m.permanents c.at.result.now c.args.cells.now c.take_span.new.to c.span-own.ensures.is (c.at.ensures ∙ can.ground.cells.is) can.permanents can.cells_same (c.take_span.ensures (pos 0));
      bindings_laid = laid_span 0 c.args.table.now.cells c.args.place c.span-own.result m.bindings c.at-2.result.now c.args.bindings.now c.take_span-2.new.to c.span-own.ensures.is (c.at-2.ensures ∙ can.ground.bindings.is) can.bindings_long can.bindings_same (c.take_span-2.ensures 0);
      phases_laid = laid_span Uninitialised c.args.table.now.components c.args.place c.span-within.result m.phases c.at-3.result.now c.args.phases.now c.take_span-3.new.to c.span-within.ensures.is (c.at-3.ensures ∙ can.ground.phases.is) can.phases_long can.phases_same (c.take_span-3.ensures Uninitialised);
    }
