use Rattle.std.proofs.Common.{◌≡◌, ◌∙◌, ◌+◌, ℕ, ap, arith, length}
use Rattle.cp_machine.specs.System.{machine_of}
use Rattle.cp_run.specs.Run.{Choosing}
use Rattle.cp_ways.proofs.Given.{slots, walk}
use Rattle.cp_ways.specs.Ways.{since}
use Rattle.cp_ways.specs.Weights.{total, weight, weight_of}
use Rattle.cp_ways.proofs.Steps.{all_few}
use Rattle.cp_ways.proofs.Told.{are_ways}
use Rattle.cp_ways.proofs.counting.Counting.ways_on.Goals as goal

pub add_ways-requires-clause-small : goal.add_ways-requires-clause-small
add_ways-requires-clause-small c =
    let sys = slots c.args.job.now.program.now c.args.job.now.limits.discipline in
    let few = all_few sys c.requires.own.sound.few c.args.job.now.limits.steps c.args.left (Choosing (machine_of c.args.state.now)) c.requires.few in
    let none = ap total c.new-ways.ensures in
    omega (arith, few, none)

none_before : (a : ℕ) → 0 + a ≡ a
none_before a = omega arith

pub returns-in-Ok-clause-ways : goal.returns-in-Ok-clause-ways
returns-in-Ok-clause-ways c =
    let r = c.args.job.now.program.now in
    let discipline = c.args.job.now.limits.discipline in
    let steps = c.args.job.now.limits.steps in
    let s = machine_of c.args.state.now in
    let rows = walk (slots r discipline) steps c.args.left (Choosing s) in
    are_ways r discipline steps c.args.left s c.add_ways.new.sum.list.entries (λ f. c.in-Ok.ensures.added f ∙ ap (λ es. weight f es + weight_of (λ o. f (since (length s.output) o)) rows) c.new-ways.ensures ∙ none_before (weight_of (λ o. f (since (length s.output) o)) rows))
