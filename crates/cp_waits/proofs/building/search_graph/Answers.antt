use Rattle.std.proofs.Common.{arith, subst}
use Rattle.cp_ends.specs.Whole.{IsAnswer}
use Rattle.cp_ends.proofs.Saying.{says}
use Rattle.cp_waits.proofs.Words.{ok_to}
use Rattle.cp_waits.proofs.Visiting.{has_graph, search_of}
use Rattle.cp_waits.proofs.building.search_graph.Goals as goal
use Rattle.cp_waits.proofs.building.search_graph.Goals.{then-most-eq0, else-most-eq0}

pub returns : goal.returns
returns g c =
    let r = c.args.job.now.program.now in
    let discipline = c.args.job.now.limits.discipline in
    let steps = c.args.job.now.limits.steps in
    let most = c.if-most-eq0.states in
    record {
      answer = λ some. ok_to c.build_graph.result _ _ c.build_graph.ensures (λ x h. subst (λ n. IsAnswer r discipline steps n x.found) (elim c.if-most-eq0.branch [
        | then-most-eq0 w ↦ absurd (omega (arith, some, w.if-most-eq0))
        | else-most-eq0 w ↦ w.states-is
      ]) (says r discipline steps most x.found (search_of r discipline steps most x.graph x.found x.found.stopped h)));
      kept = ok_to c.build_graph.result _ _ c.build_graph.ensures (λ x h. let a = says r discipline steps most x.found (search_of r discipline steps most x.graph x.found x.found.stopped h) in (a.findings, a.holds));
      graph = ok_to c.build_graph.result _ _ c.build_graph.ensures (λ x h whole. has_graph r discipline steps most x.graph x.found x.found.stopped h whole);
    }
