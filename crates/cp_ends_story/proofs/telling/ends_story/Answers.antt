use Rattle.cp_ends_story.proofs.telling.ends_story.Goals as goal

pub returns : goal.returns
returns g c = record { findings = c.in_ok-findings.findings; found = c.in_ok-findings.ensures; whole = c.is_whole.ensures }
