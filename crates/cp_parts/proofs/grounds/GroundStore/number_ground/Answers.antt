use Rattle.std.proofs.Common.{◌∙◌, ap, arith, length, map}
use Rattle.cp_machine.specs.Machine.{machine_of, thread_of}
use Rattle.cp_parts.specs.Coded.{waiting_code}
use Rattle.cp_parts.specs.Placed.{places_of}
use Rattle.cp_parts.specs.Runs.{in_span}
use Rattle.cp_parts.proofs.Pieces.{pieces_same}
use Rattle.cp_parts.proofs.grounds.GroundStore.number_ground.Goals as goal

pub returns-clause-kept : goal.returns-clause-kept
returns-clause-kept c = record { cells = c.number_of.ensures.kept; bindings = c.number_of-2.ensures.kept; phases = c.number_of-3.ensures.kept; waiting = c.number_of-4.ensures.kept }

pub returns-in_err-cells-clause-kept : goal.returns-in_err-cells-clause-kept
returns-in_err-cells-clause-kept c = let s = c.args.self.now in record { cells = c.number_of.ensures.kept; bindings = pieces_same s.bindings.items.items s.bindings.ends.items; phases = pieces_same s.phases.items.items s.phases.ends.items; waiting = pieces_same s.waiting.items.items s.waiting.ends.items }

pub returns-in_err-bindings-clause-kept : goal.returns-in_err-bindings-clause-kept
returns-in_err-bindings-clause-kept c = let s = c.args.self.now in record { cells = c.number_of.ensures.kept; bindings = c.number_of-2.ensures.kept; phases = pieces_same s.phases.items.items s.phases.ends.items; waiting = pieces_same s.waiting.items.items s.waiting.ends.items }

pub returns-in_err-phases-clause-kept : goal.returns-in_err-phases-clause-kept
returns-in_err-phases-clause-kept c = let s = c.args.self.now in record { cells = c.number_of.ensures.kept; bindings = c.number_of-2.ensures.kept; phases = c.number_of-3.ensures.kept; waiting = pieces_same s.waiting.items.items s.waiting.ends.items }

pub returns-in_err-waiting-clause-kept : goal.returns-in_err-waiting-clause-kept
returns-in_err-waiting-clause-kept c = record { cells = c.number_of.ensures.kept; bindings = c.number_of-2.ensures.kept; phases = c.number_of-3.ensures.kept; waiting = c.number_of-4.ensures.kept }

pub span-own-requires : goal.span-own-requires
span-own-requires c = omega (arith, c.requires.place, c.args.table.now.of_cells)

pub span-within-requires : goal.span-within-requires
span-within-requires c = omega (arith, c.requires.place, c.args.table.now.of_components)

pub part_of-requires-clause-within : goal.part_of-requires-clause-within
part_of-requires-clause-within c = omega (arith, c.span-own.ensures.within, c.requires.placed.1.cells, c.requires.placed.2.permanents, ap length c.deref.ensures.value)

pub part_of-requires-2-clause-within : goal.part_of-requires-2-clause-within
part_of-requires-2-clause-within c = omega (arith, c.span-own.ensures.within, c.requires.placed.1.cells, c.requires.placed.2.bindings, ap length c.deref-2.ensures.value)

pub part_of-requires-3-clause-within : goal.part_of-requires-3-clause-within
part_of-requires-3-clause-within c = omega (arith, c.span-within.ensures.within, c.requires.placed.1.components, c.requires.placed.2.phases, ap length c.deref-3.ensures.value)

pub waiting_numbers-numbers-requires : goal.waiting_numbers-numbers-requires
waiting_numbers-numbers-requires c = omega (arith, c.args.state.now.few, ap length c.deref-4.ensures.value)

pub returns-clause-ground : goal.returns-clause-ground
returns-clause-ground c =
    let t = c.args.table.now in
    let m = machine_of c.args.state.now in
    record {
      cells = record { within = c.in_ok-cells.ensures.number.0; is = c.in_ok-cells.ensures.number.1 ∙ c.part_of.ensures ∙ ap (in_span c.span-own.result) c.deref.ensures.value ∙ ap (λ s. in_span s m.permanents) c.span-own.ensures.is };
      bindings = record { within = c.in_ok-bindings.ensures.number.0; is = c.in_ok-bindings.ensures.number.1 ∙ c.part_of-2.ensures ∙ ap (in_span c.span-own.result) c.deref-2.ensures.value ∙ ap (λ s. in_span s m.bindings) c.span-own.ensures.is };
      phases = record { within = c.in_ok-phases.ensures.number.0; is = c.in_ok-phases.ensures.number.1 ∙ c.part_of-3.ensures ∙ ap (in_span c.span-within.result) c.deref-3.ensures.value ∙ ap (λ s. in_span s m.phases) c.span-within.ensures.is };
      waiting = record { within = c.in_ok-waiting.ensures.number.0; is = c.in_ok-waiting.ensures.number.1 ∙ c.as_slice.ensures.value ∙ c.waiting_numbers-numbers.ensures ∙ ap (λ ps. waiting_code (places_of t) c.args.place (map thread_of ps)) c.deref-4.ensures.value };
    }
