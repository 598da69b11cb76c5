use Rattle.std.proofs.Common.{rules, ◌≡◌, ◌∙◌, ◌<◌, ℕ, List, true, false, get_or, length, sym, take, ap, subst, arith, ◌∷◌, [], ◌++◌}
use Rattle.std.proofs.lemmas.List.{take_all, take_more}
use Rattle.cp_run.proofs.Choosable.{At, at_those}
use Rattle.cp_run.specs.Slots.{processes_of}
use Rattle.cp_ends.proofs.Vocabulary.{may, those_below, slots}
use Rattle.cp_ends.proofs.visit.take_choices.Goals as goal

-- the number at a place of those that may be chosen
listed : (f : ℕ → _) (n : ℕ) (all : List ℕ) (i : ℕ) → all ≡ those_below n f → i < length all → At f n i all
listed f n all i is lt = let e = ap length is in subst (At f n i) (sym is) (at_those f n i (omega (arith, lt, e)))

pub loop-process-init : goal.loop-process-init
loop-process-init g c = record { within = λ m h. h }

pub take-requires-clause-below : goal.take-requires-clause-below
take-requires-clause-below g c =
    let job = c.args.job.now in
    let r = job.run.program.now in
    let w = c.requires in
    let all = c.as_slice-process-items.result.now in
    let i = c.loop-process.process-index in
    let at = listed (may (slots r job.run.limits.discipline) w.0) (processes_of r) all i (c.as_slice-process-items.ensures.value ∙ c.candidates-candidates.ensures w.0 w.1) (omega arith) in
    let below : get_or all i 0 < processes_of r = at.2 in
    search (rules, below)

pub take-requires-clause-within : goal.take-requires-clause-within
take-requires-clause-within g c =
    let job = c.args.job.now in
    let r = job.run.program.now in
    let w = c.requires in
    let all = c.as_slice-process-items.result.now in
    let i = c.loop-process.process-index in
    let at = listed (may (slots r job.run.limits.discipline) w.0) (processes_of r) all i (c.as_slice-process-items.ensures.value ∙ c.candidates-candidates.ensures w.0 w.1) (omega arith) in
    (w.0, subst (g.V.RowVisit.within c.loop-process.visit job c.args.from.now c.args.at w.0) at.0 (c.loop-process.invariant.within w.0 w.1), at.1)

pub loop-process-preserved : goal.loop-process-preserved
loop-process-preserved g c =
    let job = c.args.job.now in
    let r = job.run.program.now in
    let all = c.as_slice-process-items.result.now in
    let i = c.loop-process.process-index in
    let p : ℕ = get_or all i 0 in
    let room : c.in_ok-take.field-0 ≡ true = search in
    record {
      within = λ m h.
          (let at = listed (may (slots r job.run.limits.discipline) m) (processes_of r) all i (c.as_slice-process-items.ensures.value ∙ c.candidates-candidates.ensures m h) (omega arith) in
          let here = subst (g.V.RowVisit.within c.loop-process.visit job c.args.from.now c.args.at m) at.0 (c.loop-process.invariant.within m h) in
          subst (g.V.RowVisit.within c.take.new.self job c.args.from.now c.args.at m) (ap (λ ps. ps ++ p ∷ []) (sym at.0) ∙ sym (take_more all i 0 (omega arith))) (c.in_ok-take.ensures.within room m here at.1));
    }

pub end_state-requires : goal.end_state-requires
end_state-requires g c =
    let job = c.args.job.now in
    let r = job.run.program.now in
    let w = c.requires in
    let all = c.as_slice-process-items.result.now in
    let whole : take c.loop-process.process-index all ≡ those_below (processes_of r) (may (slots r job.run.limits.discipline) w.0) = take_all c.loop-process.process-index all (omega arith) ∙ c.as_slice-process-items.ensures.value ∙ c.candidates-candidates.ensures w.0 w.1 in
    (c.args.from.now, w.0, subst (g.V.RowVisit.within c.loop-process.visit job c.args.from.now c.args.at w.0) whole (c.loop-process.invariant.within w.0 w.1))
