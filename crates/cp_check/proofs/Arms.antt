-- Arms of a `case`: what is left leads where all lead.
use Rattle.std.proofs.Common.{List}
use Rattle.cp_check.proofs.Words.{CheckFault, Use, Scopes, Judged, both, ◌>>=◌, Refuses, Label, Context}
use Rattle.cp_tree.specs.Syntax.{Arms, no_arms, more_arms}
use Rattle.cp_check.specs.Cases.{join_arms}
use Rattle.cp_check.specs.Statements.{labelled, arms}
use Rattle.cp_check.proofs.Judging.{refuses_both}

pub arms_refuse : (s : Scopes) (w : Context) (e : CheckFault) (j : Judged (List Label × Use)) (as' : Arms) → Refuses e j → Refuses e (arms s w j as')
unfolding arms
arms_refuse s w e j no_arms h = h
arms_refuse s w e j (more_arms a as') h = arms_refuse s w e (both j (labelled s w a) >>= join_arms) as' (refuses_both e j _ join_arms h)
