use Rattle.cp_tests.proofs.cuttings.beginnings_of.Goals as goal

pub beginnings-requires : goal.beginnings-requires
beginnings-requires c = record { rows = (c.args.job.now.program.now, c.args.job.now.limits, c.in-Some.ensures) }
