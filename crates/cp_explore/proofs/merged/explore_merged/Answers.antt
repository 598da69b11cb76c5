use Rattle.std.proofs.Common.{map}
use Rattle.std.proofs.lemmas.Result.{IfOk-weaker}
use Rattle.cp_merged.specs.Code.{tally_of}
use Rattle.cp_explore.proofs.Meant.{tallied}
use Rattle.cp_explore.proofs.merged.explore_merged.Goals as goal

pub returns-clause-meaning : goal.returns-clause-meaning
returns-clause-meaning g c =
    let job = c.args.job in
    IfOk-weaker c.explore_merged_with.result _ _ (λ ts h. tallied job.program.now job.limits.discipline job.limits.choices job.limits.steps (map tally_of ts) h) c.explore_merged_with.ensures.tallies
