use Rattle.cp_walk.proofs.Words.{◌∙◌, arith, subst, Some, length-map, slots, Advanced, words_of}
use Rattle.cp_run.specs.declared.job.Job.{Job}
use Rattle.cp_walk.proofs.Deepened.{all_settled, deepened_more}
use Rattle.cp_walk.proofs.cutting.Cutting.to_depth_observed.Goals as goal

pub loop-at-preserved : goal.loop-at-preserved
loop-at-preserved g c =
    let job = c.args.self.now.job in
    let sys = slots job.program.now job.limits.discipline in
    let old = words_of c.args.self.now.words.items in
    let words = words_of c.loop-at.self.words.items in
    let new = words_of c.deepen_at.new.self.words.items in
    let here : Job = c.loop-at.self.job in
    let moved : Advanced (slots here.program.now here.limits.discipline) here.limits.choices here.limits.steps c.args.depth words c.loop-at.at new (Some c.in-Some.next) = subst (Advanced (slots here.program.now here.limits.discipline) here.limits.choices here.limits.steps c.args.depth words c.loop-at.at new) c.in-Some.is c.in_ok-next.ensures.advanced in
    let ours : Advanced sys job.limits.choices job.limits.steps c.args.depth words c.loop-at.at new (Some c.in-Some.next) = subst (λ (j : Job). Advanced (slots j.program.now j.limits.discipline) j.limits.choices j.limits.steps c.args.depth words c.loop-at.at new (Some c.in-Some.next)) c.loop-at.invariant.job moved in
    record {
      job = c.in_ok-next.ensures.job ∙ c.loop-at.invariant.job;
      within = omega (arith, ours.0, length-map c.deepen_at.new.self.words.items (λ v. v.items));
      settled = ours.1;
      splits = deepened_more sys job.limits.choices job.limits.steps c.args.depth old words new c.loop-at.invariant.splits ours.3;
    }

pub returns-clause-done : goal.returns-clause-done
returns-clause-done g c =
    let job = c.args.self.now.job in
    let sys = slots job.program.now job.limits.discipline in
    let items = c.loop-at.self.words.items in
    let long = length-map items (λ v. v.items) in
    all_settled sys job.limits.choices job.limits.steps c.args.depth (words_of items) c.loop-at.at (omega (arith, long, c.loop-at.invariant.within)) (omega (arith, long, c.loop-at-test.false, c.len.ensures, c.loop-at.self.words.ok.0)) c.loop-at.invariant.settled
