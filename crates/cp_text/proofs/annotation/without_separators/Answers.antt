use Rattle.std.proofs.Common.{◌-◌, arith, sym, ◌∙◌}
use Rattle.cp_text.proofs.AnnotationLaws.{without_last}
use Rattle.cp_text.proofs.annotation.without_separators.Goals as goal

pub loop-left-preserved : goal.loop-left-preserved
loop-left-preserved c =
    let within = c.loop-left.invariant.within in
    record {
      within = omega arith;
      same = c.loop-left.invariant.same ∙ without_last c.args.text.now (c.loop-left.left - 1) c.loop-left.left (omega arith) (omega arith) (sym c.is_separator.ensures ∙ c.if-not-is_separator.false);
    }
