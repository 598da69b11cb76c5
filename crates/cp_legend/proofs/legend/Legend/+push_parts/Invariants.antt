use Rattle.cp_legend.proofs.legend.Legend.+push_parts.Given as goal

-- one step less
abbrev pub decreases-push_parts : goal.decreases-push_parts
decreases-push_parts l = l.steps
