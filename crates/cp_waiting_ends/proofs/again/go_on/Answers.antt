use Rattle.std.proofs.Common.{rules, ◌≡◌, ◌∙◌, ◌∷◌, ◌+◌, [], ◌++◌, ℕ, List, true, false, get_or, sym, take, subst, arith}
use Rattle.std.proofs.lemmas.List.{take_all, take_more}
use Rattle.cp_machine.specs.System.{machine_of}
use Rattle.cp_run.proofs.Choosable.{may_those}
use Rattle.cp_run.specs.Run.{may}
use Rattle.cp_run.specs.Slots.{slots}
use Rattle.cp_ends.specs.Holds.{IsAt}
use Rattle.cp_waiting_ends.specs.Again.{Met, within}
use Rattle.cp_waiting_ends.proofs.Meeting.{met_all, met_begin, met_none}
use Rattle.cp_waiting_ends.proofs.again.go_on.Goals as goal

pub thaw_at-requires : goal.thaw_at-requires
thaw_at-requires c = (c.args.job.now.run.program.now, c.requires.found.0.states, c.requires.own, c.requires.found.1.states)

pub returns-then-not-thaw_at-clause-met : goal.returns-then-not-thaw_at-clause-met
returns-then-not-thaw_at-clause-met c = λ f holds.
    (let run = c.args.job.now.run in
    let off : c.thaw_at.result ≡ false = search in
    let none = subst (λ b. IsAt f.states c.args.number b (machine_of c.thaw_at.new.state)) off (c.thaw_at.ensures.at run.program.now f.states c.requires.own holds.states) in
    met_none run.program.now run.limits.discipline run.limits.steps c.args.searched.now.looked f.states c.args.number c.args.ends.now none (c.requires.met f holds))

pub returns-then-not-thaw_at-clause-own : goal.returns-then-not-thaw_at-clause-own
returns-then-not-thaw_at-clause-own c = c.thaw_at.ensures.own c.args.job.now.run.program.now c.requires.found.0.states c.requires.own c.requires.found.1.states

pub candidates-numbers-requires : goal.candidates-numbers-requires
candidates-numbers-requires c = record { own = c.thaw_at.ensures.own c.args.job.now.run.program.now c.requires.found.0.states c.requires.own c.requires.found.1.states }

pub take_from-requires : goal.take_from-requires
take_from-requires c = (c.args.job.now.run.program.now, c.requires.next, c.thaw_at.ensures.own c.args.job.now.run.program.now c.requires.found.0.states c.requires.own c.requires.found.1.states)

pub loop-process-init : goal.loop-process-init
loop-process-init c =
    let run = c.args.job.now.run in
    record {
      next = c.take_from.ensures.own run.program.now c.requires.next (c.thaw_at.ensures.own run.program.now c.requires.found.0.states c.requires.own c.requires.found.1.states);
      copied = c.take_from.ensures.same;
      met = λ f holds. met_begin run.program.now run.limits.discipline run.limits.steps c.args.searched.now.looked f.states c.args.number c.args.ends.now (c.requires.met f holds);
    }

pub take_choice-requires-clause-own : goal.take_choice-requires-clause-own
take_choice-requires-clause-own c = c.thaw_at.ensures.own c.args.job.now.run.program.now c.requires.found.0.states c.requires.own c.requires.found.1.states

pub take_choice-requires-clause-next : goal.take_choice-requires-clause-next
take_choice-requires-clause-next c = c.loop-process.invariant.next

pub take_choice-requires-clause-copied : goal.take_choice-requires-clause-copied
take_choice-requires-clause-copied c = c.loop-process.invariant.copied

pub take_choice-requires-clause-may : goal.take_choice-requires-clause-may
take_choice-requires-clause-may c =
    let run = c.args.job.now.run in
    let all = c.as_slice-process-items.result.now in
    let i = c.loop-process.process-index in
    let sys = slots run.program.now run.limits.discipline in
    let m = machine_of c.thaw_at.new.state in
    let on : may sys m (get_or all i 0) ≡ true = may_those sys m all (c.as_slice-process-items.ensures.value ∙ c.candidates-numbers.ensures) i (omega arith) in
    search (rules, on)

pub take_choice-requires-clause-here : goal.take_choice-requires-clause-here
take_choice-requires-clause-here c = λ f holds.
    (let run = c.args.job.now.run in
    let on : c.thaw_at.result ≡ true = search in
    subst (λ b. IsAt f.states c.args.number b (machine_of c.thaw_at.new.state)) on (c.thaw_at.ensures.at run.program.now f.states c.requires.own holds.states))

pub loop-process-preserved : goal.loop-process-preserved
loop-process-preserved c =
    let run = c.args.job.now.run in
    let all = c.as_slice-process-items.result.now in
    let i = c.loop-process.process-index in
    let p : ℕ = get_or all i 0 in
    let more : take (i + 1) all ≡ take i all ++ p ∷ [] = take_more all i 0 (omega arith) in
    let met = c.in_ok-take_choice.ensures.met (take i all) c.loop-process.invariant.met in
    record {
      next = c.take_choice.ensures.next;
      copied = c.in_ok-take_choice.ensures.copied;
      met = subst (λ (ps : List ℕ). Met run.program.now run.limits.discipline run.limits.steps c.args.searched.now.found.now c.args.searched.now.looked (within c.args.number ps) c.take_choice.new.ends) (sym more) met;
    }

pub returns-in_err-take_choice-clause-own : goal.returns-in_err-take_choice-clause-own
returns-in_err-take_choice-clause-own c = c.thaw_at.ensures.own c.args.job.now.run.program.now c.requires.found.0.states c.requires.own c.requires.found.1.states

pub returns-clause-own : goal.returns-clause-own
returns-clause-own c = c.thaw_at.ensures.own c.args.job.now.run.program.now c.requires.found.0.states c.requires.own c.requires.found.1.states

pub returns-clause-next : goal.returns-clause-next
returns-clause-next c = c.loop-process.invariant.next

pub returns-clause-met : goal.returns-clause-met
returns-clause-met c = λ f holds.
    (let run = c.args.job.now.run in
    let on : c.thaw_at.result ≡ true = search in
    let all = c.as_slice-process-items.result.now in
    let here = subst (λ b. IsAt f.states c.args.number b (machine_of c.thaw_at.new.state)) on (c.thaw_at.ensures.at run.program.now f.states c.requires.own holds.states) in
    met_all run.program.now run.limits.discipline run.limits.steps c.args.searched.now.looked f.states c.args.number (machine_of c.thaw_at.new.state) (take c.loop-process.process-index all) all c.loop-process.ends here (take_all c.loop-process.process-index all (omega arith)) (c.as_slice-process-items.ensures.value ∙ c.candidates-numbers.ensures) (c.loop-process.invariant.met f holds))
