use Rattle.std.proofs.Common.{◌∙◌, ◌+◌, ap, arith, drop, pos, rules, subst, sym}
use Rattle.cp_store.specs.declared.argument.Bound.TheVariants.{Scalar}
use Rattle.cp_store.specs.Arguments.{bind_frame}
use Rattle.cp_store.specs.Inside.{AllFitFrame}
use Rattle.cp_store.specs.Memory.{memory_of}
use Rattle.cp_store.proofs.Bindings.{frame_next, frame_rest}
use Rattle.cp_store.proofs.bind.bind_frame.Goals as goal

pub loop-number-preserved : goal.loop-number-preserved
loop-number-preserved c =
    record {
      after = c.loop-number.invariant.after ∙ frame_next c.args.arguments.now c.args.bounds.now c.loop-number.number c.index-arguments-number.result (Scalar (pos 0)) c.loop-number-test.true (omega (arith, c.requires.count, c.loop-number-test.true)) c.index-arguments-number.is (memory_of c.loop-number.permanents c.loop-number.room) c.args.frame ∙ ap (λ m. bind_frame m c.args.frame (drop (c.loop-number.number + 1) c.args.arguments.now) (drop (c.loop-number.number + 1) c.args.bounds.now)) (sym c.put_in_frame.ensures.after);
      fit = subst (λ m. AllFitFrame m c.args.frame (drop (c.loop-number.number + 1) c.args.arguments.now) (drop (c.loop-number.number + 1) c.args.bounds.now)) (sym c.put_in_frame.ensures.after) (frame_rest c.args.arguments.now c.args.bounds.now c.loop-number.number c.index-arguments-number.result (Scalar (pos 0)) c.loop-number-test.true (omega (arith, c.requires.count, c.loop-number-test.true)) c.index-arguments-number.is (memory_of c.loop-number.permanents c.loop-number.room) c.args.frame c.loop-number.invariant.fit);
      room = search rules;
    }
