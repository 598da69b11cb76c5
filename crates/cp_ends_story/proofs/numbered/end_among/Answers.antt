use Rattle.std.proofs.Common.{◌∙◌, ap, arith, sym}
use Rattle.cp_ends_story.specs.declared.subject.ToldEnd.{ToldEnd}
use Rattle.cp_ends_story.proofs.Numbering.{is_end}
use Rattle.cp_ends_story.proofs.numbered.end_among.Goals as goal

pub returns : goal.returns
returns c = is_end c.args.ends.now c.args.number c.index-ends-number.result c.in_ok-word.word (omega arith) (omega arith) c.index-ends-number.is (c.in_ok-word.ensures.items ∙ c.deref.ensures.value ∙ ap (λ (e : ToldEnd). e.word.items) (sym c.index-ends-number.is))
