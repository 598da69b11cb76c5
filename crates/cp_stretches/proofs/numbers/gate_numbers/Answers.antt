use Rattle.std.proofs.Common.{rules, ◌≡◌, ◌∙◌, ◌+◌, ◌++◌, ◌∷◌, [], ap, arith, length, subst, sym, ℕ, ◌<◌}
use Rattle.std.proofs.lemmas.List.{length-append}
use Rattle.cp_machine.specs.declared.process.Status.TheVariants.{AtGate}
use Rattle.cp_states.specs.Numbers.{number_at}
use Rattle.cp_parts.specs.Parts.{IsStatusNumber}
use Rattle.cp_parts.proofs.Keeping.{store_on, store_same}
use Rattle.cp_stretches.proofs.Growing.{gates_more}
use Rattle.cp_stretches.proofs.numbers.gate_numbers.Goals as goal

pub loop-monitor-init : goal.loop-monitor-init
loop-monitor-init c = record { kept = store_same c.args.store.now; long = search rules; each = λ k lt. absurd (omega (arith, lt)) }

pub loop-monitor-preserved : goal.loop-monitor-preserved
loop-monitor-preserved c =
    let l = c.loop-monitor in
    let u = c.number_status.new.self in
    let n = c.in_ok-number.number in
    let pushed : c.push.new.self.items ≡ l.numbers.items ++ n ∷ [] = search rules in
    let more : (k : ℕ) → k < l.monitor + 1 → IsStatusNumber u (AtGate k) (number_at (l.numbers.items ++ n ∷ []) k) = gates_more l.store u l.numbers.items l.monitor n c.number_status.ensures.kept l.invariant.long l.invariant.each c.in_ok-number.ensures.number in
    record {
      kept = store_on c.args.store.now l.store u l.invariant.kept c.number_status.ensures.kept;
      long = ap length pushed ∙ length-append l.numbers.items (n ∷ []) ∙ ap (λ k. k + 1) l.invariant.long;
      each = λ k lt. subst (λ xs. IsStatusNumber u (AtGate k) (number_at xs k)) (sym pushed) (more k lt);
    }

pub returns-clause-long : goal.returns-clause-long
returns-clause-long c = omega (arith, c.loop-monitor.invariant.long)

pub returns-clause-each : goal.returns-clause-each
returns-clause-each c = λ monitor lt. c.loop-monitor.invariant.each monitor (omega (arith, lt))

pub returns-in_err-number-clause-kept : goal.returns-in_err-number-clause-kept
returns-in_err-number-clause-kept c = store_on c.args.store.now c.loop-monitor.store c.number_status.new.self c.loop-monitor.invariant.kept c.number_status.ensures.kept

pub returns-in_err-push-clause-kept : goal.returns-in_err-push-clause-kept
returns-in_err-push-clause-kept c = store_on c.args.store.now c.loop-monitor.store c.number_status.new.self c.loop-monitor.invariant.kept c.number_status.ensures.kept
