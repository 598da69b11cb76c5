use Rattle.std.proofs.Common.{◌∙◌, ap, map}
use Rattle.cp_merged.specs.Code.{keyed}
use Rattle.cp_merged.specs.Layer.{rows_of}
use Rattle.cp_merged.specs.Layers.{with_lead}
use Rattle.cp_merged.proofs.Rowing.{Same, low}
use Rattle.cp_merged.proofs.layer.StateLayer.add.Goals as goal

pub returns-in-Some-clause-rows : goal.returns-in-Some-clause-rows
returns-in-Some-clause-rows c = c.merge.ensures.rows ∙ ap (λ row. with_lead Same (map keyed (rows_of c.args.self.now)) (low row c.args.prefixes.now)) c.in-Some.ensures.found.1
