use Rattle.std.proofs.Common.{rules, ◌≡◌, ◌∙◌, ◌<◌, ℕ, List, true, get_or, length, sym, take, ap, subst, arith, ◌∷◌, [], ◌++◌}
use Rattle.std.proofs.lemmas.List.{take_all, take_more}
use Rattle.cp_machine.specs.System.{machine_of}
use Rattle.cp_run.proofs.Choosable.{At, at_those}
use Rattle.cp_run.specs.Run.{may, those_below}
use Rattle.cp_run.specs.Slots.{processes_of, slots}
use Rattle.cp_search.proofs.visit.take_choices.Goals as goal

-- the number at a place of those that may be chosen
listed : (f : ℕ → _) (n : ℕ) (all : List ℕ) (i : ℕ) → all ≡ those_below n f → i < length all → At f n i all
listed f n all i is lt = let e = ap length is in subst (At f n i) (sym is) (at_those f n i (omega (arith, lt, e)))

pub take-requires-clause-below : goal.take-requires-clause-below
take-requires-clause-below g c =
    let r = c.args.job.now.run.program.now in
    let all = c.as_slice-process-items.result.now in
    let i = c.loop-process.process-index in
    let at = listed (may (slots r c.args.job.now.run.limits.discipline) (machine_of c.args.state.now)) (processes_of r) all i (c.as_slice-process-items.ensures.value ∙ c.candidates-numbers.ensures) (omega arith) in
    let below : get_or all i 0 < processes_of r = at.2 in
    search (rules, below)

pub take-requires-clause-may : goal.take-requires-clause-may
take-requires-clause-may g c =
    let r = c.args.job.now.run.program.now in
    let sys = slots r c.args.job.now.run.limits.discipline in
    let all = c.as_slice-process-items.result.now in
    let i = c.loop-process.process-index in
    let at = listed (may sys (machine_of c.args.state.now)) (processes_of r) all i (c.as_slice-process-items.ensures.value ∙ c.candidates-numbers.ensures) (omega arith) in
    let on : may sys (machine_of c.args.state.now) (get_or all i 0) ≡ true = at.1 in
    search (rules, on)

pub take-requires-clause-within : goal.take-requires-clause-within
take-requires-clause-within g c =
    let r = c.args.job.now.run.program.now in
    let sys = slots r c.args.job.now.run.limits.discipline in
    let all = c.as_slice-process-items.result.now in
    let i = c.loop-process.process-index in
    let at = listed (may sys (machine_of c.args.state.now)) (processes_of r) all i (c.as_slice-process-items.ensures.value ∙ c.candidates-numbers.ensures) (omega arith) in
    let here : g.V.Visit.within c.loop-process.visit c.args.job.now c.args.at (machine_of c.args.state.now) (those_below (get_or all i 0) (may sys (machine_of c.args.state.now))) = subst (g.V.Visit.within c.loop-process.visit c.args.job.now c.args.at (machine_of c.args.state.now)) at.0 c.loop-process.invariant.within in
    search (rules, here)

pub loop-process-preserved : goal.loop-process-preserved
loop-process-preserved g c =
    let r = c.args.job.now.run.program.now in
    let sys = slots r c.args.job.now.run.limits.discipline in
    let all = c.as_slice-process-items.result.now in
    let i = c.loop-process.process-index in
    let s = machine_of c.args.state.now in
    let at = listed (may sys s) (processes_of r) all i (c.as_slice-process-items.ensures.value ∙ c.candidates-numbers.ensures) (omega arith) in
    let p : ℕ = get_or all i 0 in
    let room : c.in_ok-take.field-0 ≡ true = search in
    record {
      next = c.take.ensures.next;
      copied = c.in_ok-take.ensures.copied room;
      within = subst (g.V.Visit.within c.take.new.self c.args.job.now c.args.at s) (ap (λ ps. ps ++ p ∷ []) (sym at.0) ∙ sym (take_more all i 0 (omega arith))) (c.in_ok-take.ensures.within room);
    }
