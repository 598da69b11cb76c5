use Rattle.cp_merged.proofs.Words.{◌∙◌, ap, is_lt}
use Rattle.cp_merged.proofs.Adding.{is_less}
use Rattle.cp_merged.proofs.prefixes.is_after.Goals as goal

pub returns : goal.returns
returns c = c.is_lt.ensures ∙ ap is_lt c.cmp.ensures ∙ is_less c.args.other.now c.args.word.now
