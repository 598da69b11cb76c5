use Rattle.std.proofs.Common.{◌∙◌, ◌+◌, ap, arith, drop, get_or, pos, rules, subst, sym}
use Rattle.cp_store.specs.declared.argument.Bound.TheVariants.{Scalar}
use Rattle.cp_store.specs.declared.memory.Address.TheVariants.{Permanent}
use Rattle.cp_store.specs.Arguments.{bindings_after, bind_component, put_value}
use Rattle.cp_store.specs.Inside.{AllFitComponent}
use Rattle.cp_store.specs.Memory.{memory_of, onward}
use Rattle.cp_store.proofs.Bindings.{bindings_next, component_next, component_rest}
use Rattle.cp_store.proofs.bind.bind_component.Goals as goal

pub loop-number-preserved : goal.loop-number-preserved
loop-number-preserved c =
    record {
      after = c.loop-number.invariant.after ∙ component_next c.args.arguments.now c.args.bounds.now c.loop-number.number c.index-arguments-number.result (Scalar (pos 0)) c.loop-number-test.true (omega (arith, c.requires.count, c.loop-number-test.true)) c.index-arguments-number.is (memory_of c.loop-number.permanents c.loop-number.room) c.args.base ∙ ap (λ m. bind_component m c.args.base (drop (c.loop-number.number + 1) c.args.arguments.now) (drop (c.loop-number.number + 1) c.args.bounds.now)) (sym c.put_in_component.ensures.after);
      bindings = c.loop-number.invariant.bindings ∙ bindings_next c.args.arguments.now c.args.bounds.now c.loop-number.number c.index-arguments-number.result (Scalar (pos 0)) c.loop-number-test.true (omega (arith, c.requires.count, c.loop-number-test.true)) c.index-arguments-number.is c.loop-number.bindings c.args.base ∙ ap (λ l. bindings_after l c.args.base (drop (c.loop-number.number + 1) c.args.arguments.now) (drop (c.loop-number.number + 1) c.args.bounds.now)) (sym c.put_in_component.ensures.bindings);
      fit =
          subst (λ m. AllFitComponent m c.put_in_component.new.bindings c.args.base (drop (c.loop-number.number + 1) c.args.arguments.now) (drop (c.loop-number.number + 1) c.args.bounds.now)) (sym c.put_in_component.ensures.after)
          (subst (λ l. AllFitComponent (put_value (memory_of c.loop-number.permanents c.loop-number.room) (Permanent (onward c.args.base c.index-arguments-number.result.slot)) (get_or c.args.bounds.now c.loop-number.number (Scalar (pos 0)))) l c.args.base (drop (c.loop-number.number + 1) c.args.arguments.now) (drop (c.loop-number.number + 1) c.args.bounds.now)) (sym c.put_in_component.ensures.bindings) (component_rest c.args.arguments.now c.args.bounds.now c.loop-number.number c.index-arguments-number.result (Scalar (pos 0)) c.loop-number-test.true (omega (arith, c.requires.count, c.loop-number-test.true)) c.index-arguments-number.is (memory_of c.loop-number.permanents c.loop-number.room) c.loop-number.bindings c.args.base c.loop-number.invariant.fit));
      room = search rules;
    }
