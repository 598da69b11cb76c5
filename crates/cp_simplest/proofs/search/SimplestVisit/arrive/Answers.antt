use Rattle.std.proofs.Common.{subst, sym}
use Rattle.cp_simplest.specs.Own.{AreOwn}
use Rattle.cp_simplest.specs.declared.search.SimplestVisit.{SimplestVisit}
use Rattle.cp_simplest.proofs.search.SimplestVisit.arrive.Goals as goal
use Rattle.cp_simplest.proofs.search.SimplestVisit.arrive.Goals.{in-Ended+in_ok-target-in-Ended, in-Choice+in_ok-target-in-Choice, in-Choice-2+in_ok-add_state-in-Choice-2, in-Some+in_ok-insert, in_default}

pub returns : goal.returns
returns c =
    let r = c.args.job.now.run.program.now in
    let noted : AreOwn r c.match-halt.self.states = elim c.match-halt.branch [
      | in-Ended+in_ok-target-in-Ended w ↦ subst (λ v. AreOwn r v.states) (sym w.self-is) c.requires.states
      | in-Choice+in_ok-target-in-Choice w ↦ subst (λ v. AreOwn r v.states) (sym w.self-is) c.requires.states
      | in-Choice-2+in_ok-add_state-in-Choice-2 w ↦ subst (λ v. AreOwn r v.states) (sym w.self-is) w.in_ok-add_state-in-Choice-2.ensures
    ] in
    elim c.match-target.branch [
      | in-Some+in_ok-insert w ↦ subst (λ v. AreOwn r v.states) (sym w.self-is) noted
      | in_default w ↦ subst (λ v. AreOwn r v.states) (sym w.self-is) noted
    ]
