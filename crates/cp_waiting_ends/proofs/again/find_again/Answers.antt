use Rattle.std.proofs.Common.{◌≤◌, length, arith}
use Rattle.cp_ends.proofs.Keeping.{states_length}
use Rattle.cp_waiting_ends.proofs.Meeting.{ends_of}
use Rattle.cp_waiting_ends.proofs.again.find_again.Goals as goal

pub returns : goal.returns
returns g c = λ most f holds answer.
    (let r = c.args.job.now.program.now in
    let limits = c.args.job.now.limits in
    let found = c.args.found.now in
    let same = states_length r found.states f.states holds.states in
    let count = c.len.ensures.count in
    let all : length f.states ≤ c.loop-number.number = omega (arith, same, count) in
    ends_of r limits.discipline limits.steps most f c.loop-number.number c.loop-number.ends all found.stopped c.in_ok-looked.looked (λ depth is. c.in_ok-looked.ensures r f depth holds is) answer (c.loop-number.invariant.met f holds))

pub loop-number-init : goal.loop-number-init
loop-number-init g c = record {
  own = c.begin.ensures.own;
  next = c.in_ok-next.ensures.own c.args.job.now.program.now c.begin.ensures.own;
  met = c.in_ok-begin.ensures.met;
}
