use Rattle.std.proofs.Common.{◌∙◌, sym}
use Rattle.cp_merged.proofs.Rowing.{rows_length}
use Rattle.cp_merged.proofs.layer.StateLayer.len.Goals as goal

pub returns : goal.returns
returns c = let self = c.args.self.now in c.len.ensures ∙ self.leads.ok.0 ∙ sym (rows_length self.width self.numbers.items self.leads.items)
