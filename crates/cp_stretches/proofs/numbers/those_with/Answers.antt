use Rattle.std.proofs.Common.{◌≡◌, ◌∙◌, ap, append-nil, arith, filter, sym, true, false, Bool, ℕ}
use Rattle.std.specs.Prelude.{◌==◌}
use Rattle.std.specs.List.{range_with_len}
use Rattle.arrayvec.specs.ArrayVec.{array_vec_len}
use Rattle.cp_machine.proofs.ListLemmas.{kept_more}
use Rattle.cp_states.specs.Numbers.{number_at}
use Rattle.cp_stretches.proofs.numbers.those_with.Goals as goal
use Rattle.cp_stretches.proofs.numbers.those_with.Goals.{else-has_number, then-has_number}

pub loop-process-preserved : goal.loop-process-preserved
loop-process-preserved c =
    let f : ℕ → Bool = λ q. number_at c.args.row.now q == c.args.wanted in
    let p = c.loop-process.process in
    let test : f p ≡ c.has_number.result = sym c.has_number.ensures in
    elim c.if-has_number.branch [
      | then-has_number w ↦ record {
        items = kept_more f p true _ _ (test ∙ w.if-has_number.true) c.loop-process.invariant.items (ap (λ r. r.items) w.those-is ∙ w.push.ensures.items);
        few = omega (arith, w.push.ensures.len, ap array_vec_len w.those-is, c.loop-process.invariant.few);
      }
      | else-has_number w ↦ record {
        items = kept_more f p false _ _ (test ∙ w.if-has_number.false) c.loop-process.invariant.items (ap (λ r. r.items) w.those-is ∙ sym (append-nil c.loop-process.those.items));
        few = omega (arith, ap array_vec_len w.those-is, c.loop-process.invariant.few);
      }
    ]

pub returns : goal.returns
returns c =
    let at : c.loop-process.process ≡ c.args.table.now.processes = omega arith in
    c.loop-process.invariant.items ∙ ap (λ n. filter (λ q. number_at c.args.row.now q == c.args.wanted) (range_with_len 0 n)) at
